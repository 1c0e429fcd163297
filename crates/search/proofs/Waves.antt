-- Sets seen on the way, and searches that have come to their end.
use mathlib.Core.Path.{◌≡◌, refl, sym, ap, ◌∙◌}
use mathlib.Core.Logic.{⊎_elim}
use Prim.Native.Nat.{ℕ, zero, suc, ◌+◌, ◌-◌, ◌^◌, ◌≤◌, ◌<◌}
use native.Mathlib.Nat.{pow-suc}
use native.Mathlib.Omega.{arith}
use lib.Bits.{bit_and, bit_or, and_le_l, and_comm, or_disjoint}
use Rattle.std.proofs.lemmas.Nat.{and-not}
use Rattle.bondset.proofs.Laws.{lt_or_ge}
use Rattle.bondset.proofs.Members.{members_zero}
use Rattle.model.specs.Fold.{through}
use Rattle.model.specs.Net.{Net, near}
use Rattle.model.specs.Layer.{Wave, spread, wave}
use Rattle.model.proofs.NetBits.{and_has, without_has, zero_of_none}

-- A number is below the power of two that it names.
pub lt_two_pow : (n : ℕ) → n < 2 ^ n
lt_two_pow zero = omega arith
lt_two_pow (suc n) = omega (arith, lt_two_pow n, pow-suc 2 n)

-- The atoms of x that are not in s.
pub and_not : (x s : ℕ) → x < 2 ^ 64 → s < 2 ^ 64 → bit_and x (2 ^ 64 - 1 - s) ≡ x - bit_and x s
and_not x s small small' = omega (arith, and-not 64 s x small' small, and_comm x (2 ^ 64 - 1 - s), and_comm x s)

-- What x adds to a set s is apart from it.
pub and_without : (s x : ℕ) → bit_and s (x - bit_and x s) ≡ 0
and_without s x =
    zero_of_none s (bit_and s (x - bit_and x s)) (omega (arith, and_le_l s (x - bit_and x s), lt_two_pow s))
    (λ k e. let both = (and_has s (x - bit_and x s) k).0 e in ((without_has x x s k (lt_two_pow x)).0 both.1).1 both.0)

-- So the union is the sum.
pub or_without : (s x : ℕ) → bit_or s (x - bit_and x s) ≡ s + (x - bit_and x s)
or_without s x = or_disjoint s (x - bit_and x s) (and_without s x)

-- The empty set has no neighbours.
pub near_none : (G : Net) → near G 0 ≡ 0
unfolding near through
near_none G = rw (members_zero 64)

module _ (G : Net) (pre r : ℕ) where
  -- An empty front has nothing beyond it.
  record Done (seen : ℕ) (w : Wave) : Type 0 where
    same : w.seen ≡ seen
    none : w.front ≡ 0

  done_next : (seen : ℕ) (w : Wave) → Done seen w → Done seen (spread G pre w)
  unfolding spread
  done_next seen w done =
      let z : near G w.front ≡ 0 = ap (near G) done.none ∙ near_none G in
      record { same = omega (arith, done.same, z); none = omega (arith, z) }

  done_all : (d n : ℕ) → d ≤ n → (wave G pre r d).front ≡ 0 → Done (wave G pre r d).seen (wave G pre r n)
  unfolding wave
  done_all d zero h e = let z : d ≡ 0 = omega arith in rw z (record { same = refl; none = rw z at e })
  done_all d (suc n) h e =
      ⊎_elim (λ (l : d < suc n). done_next _ (wave G pre r n) (done_all d n (omega arith) e))
      (λ (l : suc n ≤ d). let z : d ≡ suc n = omega arith in rw z (record { same = refl; none = rw z at e })) (lt_or_ge d (suc n))

  -- Once the front is empty nothing more is seen.
  pub seen_done : (d n : ℕ) → d ≤ n → (wave G pre r d).front ≡ 0 → (wave G pre r d).seen ≡ (wave G pre r n).seen
  seen_done d n h e = sym (done_all d n h e).same
