-- The rows of a table that are left, for rows of any kind and width. Assumes nothing.
use mathlib.Core.Path.{◌≡◌, refl, ap, ap₂}
use mathlib.Core.List.{List, [], ◌++◌}
use Prim.Native.Nat.{ℕ, zero, suc, ◌+◌, ◌-◌, ◌≤◌, ◌<◌}
use native.Mathlib.Omega.{arith}
use lib.ListN.{length}
use Rattle.sdp_decode.specs.Rows.{rows_at, each, each_at}

module _ {Y : Type 0} (f : ℕ → ℕ → List Y) (w : ℕ) where
  -- all rows are left at first
  pub rows_all : (n m p : ℕ) → n ≡ m → each_at f w m 1 p ≡ each_at f w (n - 0) (0 + 1) p
  rows_all n m p e = ap₂ (λ (i k : ℕ). each_at f w i k p) (let z : m ≡ n - 0 = omega arith in z) (let z : 1 ≡ 0 + 1 = omega arith in z)

  -- the next one, and the others are left
  pub rows_more : (n i p : ℕ) → i < n → each_at f w (n - i) (i + 1) p ≡ f (i + 1) p ++ each_at f w (n - (i + 1)) (i + 1 + 1) (p + w)
  unfolding each_at
  rows_more n i p h = ap (λ (k : ℕ). each_at f w k (i + 1) p) (let z : n - i ≡ suc (n - (i + 1)) = omega arith in z)

  -- none is left
  pub rows_none : (n i p : ℕ) → n ≤ i → each_at f w (n - i) (i + 1) p ≡ []
  unfolding each_at
  rows_none n i p h = ap (λ (k : ℕ). each_at f w k (i + 1) p) (let z : n - i ≡ 0 = omega arith in z)

-- by their places, or as a list of rows
pub each_rows : {X Y : Type 0} (g : ℕ → X → List Y) (rd : List ℕ → ℕ → X) (w n : ℕ) (a : List ℕ) (k p : ℕ)
    → each_at (λ i q. g i (rd a q)) w n k p ≡ each g k (rows_at rd w n a p)
unfolding each_at each rows_at
each_rows g rd w zero a k p = refl
each_rows {X} {Y} g rd w (suc n) a k p = ap (λ (l : List Y). g k (rd a p) ++ l) (each_rows g rd w n a (k + 1) (p + w))

-- as many as the count says
pub length-rows : {X : Type 0} (rd : List ℕ → ℕ → X) (w n : ℕ) (a : List ℕ) (p : ℕ) → length (rows_at rd w n a p) ≡ n
unfolding rows_at
length-rows rd w zero a p = refl
length-rows rd w (suc n) a p = ap suc (length-rows rd w n a (p + w))
