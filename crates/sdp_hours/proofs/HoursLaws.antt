-- The definition's bound for k leaves no start out. Assumes nothing.
use Prim.Native.Nat.{ℕ, zero, suc, ◌+◌, ◌≤◌, ◌<◌}
use mathlib.Core.Path.{◌≡◌, refl, ap}
use mathlib.Core.Bool.{Bool, true, false, cond, not, ◌&&◌, and-false}
use mathlib.Core.List.{List, [], ◌∷◌, ◌++◌}
use native.Mathlib.Nat.{le-mul_of_pos_right}
use native.Mathlib.Omega.{arith}
use lib.Dec.{leb}
use borrow.Author.Tests.{leb-true, leb-false, le-ltb, ne_eqb}
use Rattle.sdp_area.specs.Session.{Zone}
use Rattle.sdp_hours.specs.Hours.{east, west, latest, unshifted, zone_at, most_west, dropped, listed, unadjusted, start_of, starts_from, repeated}

-- ---- a zone of the list
-- the greater of two, at most m
both : (p q m : ℕ) → cond (leb p q) q p ≤ m → (q ≤ m) × (p ≤ m)
both p q m = go (leb p q) refl
  where
    go : (t : Bool) → leb p q ≡ t → cond t q p ≤ m → (q ≤ m) × (p ≤ m)
    go true e h = (h, omega (arith, leb-true p q e))
    go false e h = (omega (arith, leb-false p q e), h)

one-west : (t : Bool) (a y : Zone) (m : ℕ) → west a.offset ≤ m → west y.offset ≤ m → west (cond t a y).offset ≤ m
one-west true a y m h l = h
one-west false a y m h l = l

-- none takes more away
zone-west : (y : Zone) (zs : List Zone) (b m : ℕ) → west y.offset ≤ m → most_west zs ≤ m → west (latest y zs b).offset ≤ m
unfolding latest most_west
zone-west y [] b m h l = h
zone-west y (a ∷ zs) b m h l =
    let p = both (most_west zs) (west a.offset) m l in
    let t = leb a.adjustment_time b && leb y.adjustment_time a.adjustment_time in
    zone-west (cond t a y) zs b m (one-west t a y m p.0 h) p.1

-- ---- what k lists
listed-past : (stop from to z b : ℕ) → to + west z ≤ b → listed stop from to z b ≡ []
unfolding listed
listed-past stop from to z b h =
    rw (le-ltb (b + east z) (to + west z) (omega arith), and-false (leb (from + west z) (b + east z)), and-false (not (dropped stop b)))
    refl

module _ (start stop interval offset : ℕ) (zones : List Zone) (from to : ℕ) (on : 0 < interval) where
  -- from the bound on, nothing
  beyond : (k : ℕ) → to + most_west zones ≤ k → start_of start stop interval offset zones from to k ≡ []
  beyond k h =
      let b = unadjusted start stop interval offset zones from to k in
      listed-past stop from to (zone_at zones b) b
      (omega (arith, zone-west unshifted zones b (most_west zones) (omega arith) (omega arith), le-mul_of_pos_right k on))

  none_beyond : (n k : ℕ) → to + most_west zones ≤ k → starts_from start stop interval offset zones from to n k ≡ []
  unfolding starts_from
  none_beyond zero k h = refl
  none_beyond (suc n) k h = rw (beyond k h) (none_beyond n (k + 1) (omega arith))

  enough : (m n k : ℕ) → m ≤ n → to + most_west zones ≤ m + k
      → starts_from start stop interval offset zones from to n k ≡ starts_from start stop interval offset zones from to m k
  unfolding starts_from
  enough zero n k l h = none_beyond n k (omega (arith, h))
  enough (suc m) zero k l h = absurd (omega arith)
  enough (suc m) (suc n) k l h =
      ap (λ (xs : List ℕ). start_of start stop interval offset zones from to k ++ xs) (enough m n (k + 1) (omega arith) (omega arith))

  -- as many k as one likes, from the bound on, list the same
  pub every_k : (n : ℕ) → to + most_west zones ≤ n
      → starts_from start stop interval offset zones from to n 0 ≡ repeated start stop interval offset zones from to
  unfolding repeated
  every_k n h = rw (ne_eqb interval 0 (λ e. omega (arith, e))) (enough (to + most_west zones) n 0 h (omega arith))
