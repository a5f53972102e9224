-- The zones that are left: whether their adjustment times rise. Assumes nothing.
use mathlib.Core.Path.{◌≡◌, ap, ◌∙◌}
use mathlib.Core.Bool.{true, false, ◌&&◌}
use mathlib.Core.List.{List}
use Prim.Native.Nat.{ℕ, suc, ◌+◌, ◌-◌, ◌≤◌, ◌<◌}
use native.Mathlib.Omega.{arith}
use lib.Dec.{leb}
use borrow.Author.Tests.{le-leb, lt-leb}
use Rattle.sdp_cells.specs.Bytes.{num}
use Rattle.sdp_area.specs.Area.{zones_at}
use Rattle.sdp_decode.specs.Rows as rows
use Rattle.sdp_decode.specs.Rows.{rows_at}
use Rattle.sdp_decode.specs.Decode.{zone_of, zones_in}
use Rattle.sdp_hours.specs.Hours as hours
use Rattle.sdp_hours.specs.Hours.{rise}

pub rise_all : (a : List ℕ) (n : ℕ) → n ≡ num 2 a zones_at → rise 0 (zones_in a) ≡ rise 0 (rows_at zone_of 16 (n - 0) a (zones_at + 2))
rise_all a n e = ap (λ (k : ℕ). rise 0 (rows_at zone_of 16 k a (zones_at + 2))) (let z : num 2 a zones_at ≡ n - 0 = omega arith in z)

module _ (a : List ℕ) (n i last p : ℕ) where
  one_more : i < n → rise last (rows_at zone_of 16 (n - i) a p) ≡ (leb last (num 8 a p) && rise (num 8 a p) (rows_at zone_of 16 (n - (i + 1)) a (p + 16)))
  unfolding hours.rise rows.rows_at
  one_more h = ap (λ (k : ℕ). rise last (rows_at zone_of 16 k a p)) (let z : n - i ≡ suc (n - (i + 1)) = omega arith in z)

  pub rise_falls : (b : ℕ) → i < n → b ≡ num 8 a p → b < last → rise last (rows_at zone_of 16 (n - i) a p) ≡ false
  rise_falls b h e l = one_more h ∙ rw (← e, lt-leb last b l)

  pub rise_more : (b : ℕ) → i < n → b ≡ num 8 a p → last ≤ b → rise last (rows_at zone_of 16 (n - i) a p) ≡ rise b (rows_at zone_of 16 (n - (i + 1)) a (p + 16))
  rise_more b h e l = one_more h ∙ rw (← e, le-leb last b l)

  pub rise_none : n ≤ i → rise last (rows_at zone_of 16 (n - i) a p) ≡ true
  unfolding hours.rise rows.rows_at
  rise_none h = ap (λ (k : ℕ). rise last (rows_at zone_of 16 k a p)) (let z : n - i ≡ 0 = omega arith in z)
