-- `commas` goes through the bytes: each takes at most three digits and a comma.
use Rattle.std.proofs.Common.{◌+◌, ◌*◌, ◌≤◌, take}
use Rattle.listingtext.specs.Listing.{commas}
use Rattle.listingtext.specs.Page.{Adds}
use Rattle.listingtext.proofs.Page.commas.Given as goal

abbrev pub invariant-loop-x : goal.invariant-loop-x
invariant-loop-x l = record {
  upper_bound : l.self.at ≤ l.initial.self.at + 4 * l.x-index;
  adds : Adds l.initial.self (commas (take l.x-index l.fields)) l.self;
}
