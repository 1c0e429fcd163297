-- `families` goes from row to row.
use Rattle.std.proofs.Common.{◌≡◌, ◌+◌, ◌*◌, ◌≤◌, length, take, drop}
use Rattle.std.specs.Iterator.Adapters.{zip_first, zip_second}
use Rattle.std.specs.Slice.Iter.{iter_rest, chunks_exact_rest, chunks_exact_size}
use Rattle.listingtext.specs.Listing.{family_lines}
use Rattle.listingtext.specs.Page.{Adds}
use Rattle.listingtext.proofs.Page.families.Given as goal

abbrev pub invariant-loop-row : goal.invariant-loop-row
invariant-loop-row l = record {
  width : chunks_exact_size (zip_first l.row-iterator) ≡ 8;
  rows : chunks_exact_rest (zip_first l.row-iterator) ≡ drop (8 * length l.yielded) l.rows;
  sizes : iter_rest (zip_second l.row-iterator) ≡ drop (length l.yielded) (take l.count l.sizes);
  upper_bound : l.self.at ≤ l.initial.self.at + 56 * length l.yielded;
  adds : Adds l.initial.self (family_lines l.rows l.sizes (length l.yielded)) l.self;
}
