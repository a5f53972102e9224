-- Sums less a number: below 0, within 64 bits, past them. Assumes nothing.
use Prim.Native.Nat.{ℕ, ◌+◌, ◌-◌, ◌^◌, ◌≤◌, ◌<◌}
use mathlib.Core.Path.{◌≡◌, refl, ap}
use mathlib.Core.Bool.{Bool, true, false, cond}
use native.Mathlib.Omega.{arith}
use lib.Dec.{ltb}
use borrow.Author.Tests.{ltb-true, ltb-false, lt-ltb, le-ltb, le-leb, lt-leb}
use Rattle.sdp_hours.specs.Hours.{east, west}
use Rattle.sdp_window.specs.Run.{sum_of}
use Rattle.sdp_window.specs.declared.Sum.TheVariants.{Below, At, Above}

pub sum_above : (x w : ℕ) → 2 ^ 64 + w ≤ x → Above ≡ sum_of x w
unfolding sum_of
sum_above x w h = rw (le-ltb x w (omega arith), le-ltb (x - w) (2 ^ 64) (omega arith)) refl

pub sum_at_lem : (x w v : ℕ) → v + w ≡ x → v < 2 ^ 64 → At v ≡ sum_of x w
unfolding sum_of
sum_at_lem x w v e h =
    rw (le-ltb x w (omega arith), lt-ltb (x - w) (2 ^ 64) (omega arith)) (ap At (let q : v ≡ x - w = omega arith in q))

pub sum_below : (x w v : ℕ) → v + x ≡ w → 0 < v → Below v ≡ sum_of x w
unfolding sum_of
sum_below x w v e h = rw (lt-ltb x w (omega arith)) (ap Below (let q : v ≡ w - x = omega arith in q))

-- only the difference counts
pub sum_same : (x w y v : ℕ) → x + v ≡ y + w → sum_of x w ≡ sum_of y v
unfolding sum_of
sum_same x w y v e = go (ltb x w) refl
  where
    at : (t : Bool) → ltb (x - w) (2 ^ 64) ≡ t → w ≤ x → cond t (At (x - w)) Above ≡ sum_of y v
    at true p h = sum_at_lem y v (x - w) (omega arith) (omega (arith, ltb-true (x - w) (2 ^ 64) p))
    at false p h = sum_above y v (omega (arith, ltb-false (x - w) (2 ^ 64) p))

    go : (t : Bool) → ltb x w ≡ t → cond t (Below (w - x)) (cond (ltb (x - w) (2 ^ 64)) (At (x - w)) Above) ≡ sum_of y v
    go true p = sum_below y v (w - x) (omega (arith, ltb-true x w p)) (omega (arith, ltb-true x w p))
    go false p = at (ltb (x - w) (2 ^ 64)) refl (ltb-false x w p)

-- a zone offset that is not negative, and one that is
pub to_east : (x z : ℕ) → z < 2 ^ 63 → sum_of (x + z) 0 ≡ sum_of (x + east z) (west z)
to_east x z h = rw (lt-leb (2 ^ 63) z h) refl

pub to_west : (x z w : ℕ) → 2 ^ 63 ≤ z → w + z ≡ 2 ^ 64 → sum_of x w ≡ sum_of (x + east z) (west z)
to_west x z w h e = rw (le-leb (2 ^ 63) z h) (sum_same x w (x + 0) (2 ^ 64 - z) (omega arith))
