-- Rows lie in an area whose counts are within their tables. Assumes nothing.
use mathlib.Core.Path.{◌≡◌, ap}
use mathlib.Core.Bool.{true, ◌&&◌}
use mathlib.Core.List.{List}
use Prim.Native.Nat.{ℕ, suc, ◌+◌, ◌*◌, ◌-◌, ◌≤◌, ◌<◌}
use native.Mathlib.Nat.{suc-mul, add-mul}
use native.Mathlib.Omega.{arith}
use lib.ListN.{length}
use lib.Dec.{leb}
use borrow.Author.Tests.{leb-true}
use Rattle.sdp_numbers.specs.Tables.{most_emails, most_phones, most_media_connections, most_bandwidths, most_times}
use Rattle.sdp_numbers.specs.Tables.{most_repeats, most_offsets, most_zones, most_attributes, most_medias}
use Rattle.sdp_bytes.proofs.ScanLaws.{and_left, and_right}
use Rattle.sdp_cells.specs.Bytes.{num}
use Rattle.sdp_area.specs.Area.{emails_at, phones_at, connections_at, bandwidths_at, times_at, repeats_at, offsets_at, zones_at, attributes_at, medias_at}
use Rattle.sdp_valid.specs.Judge
use Rattle.sdp_valid.specs.Counted.{Counted, Inside}

-- ---- five counts, each with its limit
five : (k l m n o : ℕ) (k' l' m' n' o' : ℕ)
    → (leb k k' && (leb l l' && (leb m m' && (leb n n' && leb o o')))) ≡ true
    → (k ≤ k') × (l ≤ l') × (m ≤ m') × (n ≤ n') × (o ≤ o')
five k l m n o k' l' m' n' o' h =
    let i = and_right (leb k k') (leb l l' && (leb m m' && (leb n n' && leb o o'))) h in
    let j = and_right (leb l l') (leb m m' && (leb n n' && leb o o')) i in
    let e = and_right (leb m m') (leb n n' && leb o o') j in (
      leb-true k k' (and_left (leb k k') (leb l l' && (leb m m' && (leb n n' && leb o o'))) h),
      leb-true l l' (and_left (leb l l') (leb m m' && (leb n n' && leb o o')) i),
      leb-true m m' (and_left (leb m m') (leb n n' && leb o o') j),
      leb-true n n' (and_left (leb n n') (leb o o') e),
      leb-true o o' (and_right (leb n n') (leb o o') e),
    )

-- ---- the ten tables
module _ (a : List ℕ) (c : Counted a) where
  pub small_within : (num 2 a emails_at ≤ most_emails) × (num 2 a phones_at ≤ most_phones) × (num 2 a connections_at ≤ most_media_connections) × (num 2 a bandwidths_at ≤ most_bandwidths) × (num 2 a times_at ≤ most_times)
  unfolding Judge.small_counts
  small_within = five (num 2 a emails_at) (num 2 a phones_at) (num 2 a connections_at) (num 2 a bandwidths_at) (num 2 a times_at) most_emails most_phones most_media_connections most_bandwidths most_times c.small

  pub large_within : (num 2 a repeats_at ≤ most_repeats) × (num 2 a offsets_at ≤ most_offsets) × (num 2 a zones_at ≤ most_zones) × (num 2 a attributes_at ≤ most_attributes) × (num 2 a medias_at ≤ most_medias)
  unfolding Judge.large_counts
  large_within = five (num 2 a repeats_at) (num 2 a offsets_at) (num 2 a zones_at) (num 2 a attributes_at) (num 2 a medias_at) most_repeats most_offsets most_zones most_attributes most_medias c.large

  pub emails_inside : Inside a emails_at 4
  emails_inside = omega (arith, c.whole, small_within.0)

  pub phones_inside : Inside a phones_at 4
  phones_inside = omega (arith, c.whole, small_within.1)

  pub connections_inside : Inside a connections_at 14
  connections_inside = omega (arith, c.whole, small_within.2)

  pub bandwidths_inside : Inside a bandwidths_at 14
  bandwidths_inside = omega (arith, c.whole, small_within.3)

  pub times_inside : Inside a times_at 16
  times_inside = omega (arith, c.whole, small_within.4)

  pub repeats_inside : Inside a repeats_at 18
  repeats_inside = omega (arith, c.whole, large_within.0)

  pub offsets_inside : Inside a offsets_at 10
  offsets_inside = omega (arith, c.whole, large_within.1)

  pub zones_inside : Inside a zones_at 16
  zones_inside = omega (arith, c.whole, large_within.2)

  pub attributes_inside : Inside a attributes_at 12
  attributes_inside = omega (arith, c.whole, large_within.3)

  pub medias_inside : Inside a medias_at 36
  medias_inside = omega (arith, c.whole, large_within.4)

-- ---- the rows that are left: n - i of them, from p on, before the end
-- all rows at first
pub all_inside : (a : List ℕ) (base w n : ℕ) → n ≡ num 2 a base → Inside a base w → base + 2 + (n - 0) * w ≤ length a
all_inside a base w n e h = omega (arith, h, ap (λ (k : ℕ). k * w) (let z : n - 0 ≡ num 2 a base = omega arith in z))

-- those from the row i on
pub rest_inside : (n i p w end : ℕ) → i ≤ n → p + n * w ≤ end → p + i * w + (n - i) * w ≤ end
rest_inside n i p w end l h =
    omega (arith, h, add-mul i (n - i) w, ap (λ (k : ℕ). k * w) (let z : i + (n - i) ≡ n = omega arith in z))

-- the next one, and those behind it
pub row_inside : (n i p w end : ℕ) → i < n → p + (n - i) * w ≤ end → (p + w ≤ end) × (p + w + (n - (i + 1)) * w ≤ end)
row_inside n i p w end l h =
    let e : (n - i) * w ≡ suc (n - (i + 1)) * w = ap (λ (k : ℕ). k * w) (let z : n - i ≡ suc (n - (i + 1)) = omega arith in z) in
    (omega (arith, h, e, suc-mul (n - (i + 1)) w), omega (arith, h, e, suc-mul (n - (i + 1)) w))
