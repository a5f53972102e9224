-- Sums over the rows that are left: n - i of them, the next one at p + i * w. Assumes nothing.
use mathlib.Core.Path.{◌≡◌, ap, ap₂, ◌∙◌}
use Prim.Native.Nat.{ℕ, suc, ◌+◌, ◌*◌, ◌-◌, ◌≤◌, ◌<◌}
use native.Mathlib.Omega.{arith}
use Rattle.sdp_valid.proofs.JudgeLaws.{row_none, row_next}
use Rattle.sdp_room.specs.Room.{sum_at}

module _ (f : ℕ → ℕ) (w n : ℕ) where
  -- all rows are left at first
  pub sum_all : (m p : ℕ) → n ≡ m → sum_at f w m p ≡ 0 + sum_at f w (n - 0) (p + 0 * w)
  sum_all m p e = omega (arith, ap₂ (sum_at f w) (let z : m ≡ n - 0 = omega arith in z) (row_none p w))

  module _ (whole sum i p : ℕ) (left : whole ≡ sum + sum_at f w (n - i) (p + i * w)) where
    -- the next one is added
    pub sum_turn : (r : ℕ) → i < n → r ≡ f (p + i * w) → whole ≡ sum + r + sum_at f w (n - (i + 1)) (p + (i + 1) * w)
    unfolding sum_at
    sum_turn r h e =
        omega (
          arith,
          left,
          e,
          ap (λ (k : ℕ). sum_at f w k (p + i * w)) (let z : n - i ≡ suc (n - (i + 1)) = omega arith in z),
          ap (sum_at f w (n - (i + 1))) (row_next p i w),
        )

    -- none is left
    pub sum_done : n ≤ i → sum ≡ whole
    unfolding sum_at
    sum_done h = omega (arith, left, ap (λ (k : ℕ). sum_at f w k (p + i * w)) (let z : n - i ≡ 0 = omega arith in z))
