-- The place of a start among those in three columns. Assumes nothing.
use Prim.Native.Nat.{ℕ, suc, ◌≤◌, ◌<◌, ◌+◌, ◌-◌}
use mathlib.Core.Path.{◌≡◌, ap, ◌∙◌}
use mathlib.Core.Bool.{Bool, true, false, cond}
use native.Mathlib.Omega.{arith}
use Rattle.sdp_hours.specs.Listing.{Start, before}
use Rattle.sdp_listing.specs.Columns as columns
use Rattle.sdp_listing.specs.Columns.{Columns, row_at, rows_from, place_of}

-- ---- the place, looked for from row i on
module _ (c : Columns) (x : Start) (n : ℕ) where
  abbrev pub rest : ℕ → ℕ
  rest i = place_of x (rows_from c i (n - i))

  pub place_all : place_of x (rows_from c 0 n) ≡ 0 + rest 0
  place_all = omega (arith, ap (λ (k : ℕ). place_of x (rows_from c 0 k)) (let e : n ≡ n - 0 = omega arith in e))

  module _ (whole i : ℕ) (left : whole ≡ i + rest i) where
    one : i < n → rest i ≡ cond (before x (row_at c i)) 0 (suc (rest (i + 1)))
    unfolding columns.place_of columns.rows_from
    one h = ap (λ (k : ℕ). place_of x (rows_from c i k)) (let e : n - i ≡ suc (n - (i + 1)) = omega arith in e)

    by_case : (t : Bool) → i < n → before x (row_at c i) ≡ t → rest i ≡ cond t 0 (suc (rest (i + 1)))
    by_case t h e = one h ∙ ap (λ (b : Bool). cond b 0 (suc (rest (i + 1)))) e

    pub place_stop : i < n → before x (row_at c i) ≡ true → i ≡ whole
    place_stop h e = omega (arith, left, by_case true h e)

    pub place_next : i < n → before x (row_at c i) ≡ false → whole ≡ i + 1 + rest (i + 1)
    place_next h e = omega (arith, left, by_case false h e)

    pub place_done : n ≤ i → i ≡ whole
    unfolding columns.place_of columns.rows_from
    place_done h = omega (arith, left, ap (λ (k : ℕ). place_of x (rows_from c i k)) (let e : n - i ≡ 0 = omega arith in e))
