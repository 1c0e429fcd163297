-- `classes` goes from row to row.
use Rattle.std.proofs.Common.{◌≡◌, ◌+◌, ◌*◌, ◌≤◌, length, drop}
use Rattle.std.specs.Iterator.Adapters.{zip_first, zip_second}
use Rattle.std.specs.Slice.Iter.{chunks_exact_rest, chunks_exact_size}
use Rattle.listingtext.specs.Listing.{class_lines}
use Rattle.listingtext.specs.Page.{Adds}
use Rattle.listingtext.proofs.Page.classes.Given as goal

abbrev pub invariant-loop-class : goal.invariant-loop-class
invariant-loop-class l = record {
  start : (zip_first l.class-iterator).start ≡ length l.yielded;
  end : (zip_first l.class-iterator).end ≡ l.count;
  width : chunks_exact_size (zip_second l.class-iterator) ≡ 5;
  rows : chunks_exact_rest (zip_second l.class-iterator) ≡ drop (5 * length l.yielded) l.rows;
  upper_bound : l.self.at ≤ l.initial.self.at + 45 * length l.yielded;
  adds : Adds l.initial.self (class_lines l.rows (length l.yielded)) l.self;
}
