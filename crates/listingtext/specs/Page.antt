-- A page: a lent buffer, and the place in it where the next byte goes.
use Rattle.std.specs.Prelude.{◌≡◌, List, ℕ, length}
use Rattle.listingtext.specs.declared.Page.{Page}
use Rattle.listingtext.specs.Listing.{Wrote}

-- the bytes are stored from the page's place on, where it goes on after them; all else in its buffer is as it was, and it is the same lent
-- buffer, which is as long as it was
pub record Adds (page : Page) (bytes : List ℕ) (next : Page) : Type 0 where
  pub wrote : Wrote page.out.now page.at bytes next.out.now next.at
  pub buffer : next.out.ghost_name ≡ page.out.ghost_name
  pub room : length next.out.now ≡ length page.out.now
