-- Lines of fields, by their marks, and of the medias one after the other; an area without a line above the limit. Assumes nothing.
use mathlib.Core.Path.{◌≡◌, refl, ap, ap₂, ◌∙◌}
use mathlib.Core.Bool.{Bool, true, false, ◌&&◌}
use mathlib.Core.List.{List}
use Prim.Native.Nat.{ℕ, zero, suc, ◌+◌, ◌*◌, ◌-◌, ◌≤◌, ◌<◌}
use native.Mathlib.Omega.{arith}
use lib.Dec.{eqb}
use borrow.Author.Tests.{le-leb}
use Rattle.sdp_numbers.specs.Refusals.{highest_line}
use Rattle.sdp_cells.specs.Bytes.{num}
use Rattle.sdp_area.specs.Area.{origin_at, description_at, uri_at, connection_at, key_at, emails_at, phones_at, connections_at, bandwidths_at, times_at, repeats_at, offsets_at, zones_at, attributes_at, medias_at}
use Rattle.sdp_area.specs.Columns.{origin_cell, name_cell, description_cell, uri_cell, connection_cell, key_cell, emails_cell, phones_cell, connections_cell, bandwidths_cell, times_cell}
use Rattle.sdp_area.specs.Columns.{repeats_cell, offsets_cell, zones_cell, attributes_cell, medias_cell, titles_cell, keys_cell, cells, cell_at}
use Rattle.sdp_valid.specs.Judge as judge
use Rattle.sdp_valid.specs.Judge.{every_at}
use Rattle.sdp_valid.specs.Counted.{Counted}
use Rattle.sdp_valid.proofs.JudgeLaws.{left_one, left_none}
use Rattle.sdp_valid.proofs.CountedLaws.{small_within, large_within}
use Rattle.sdp_stamp_valid.specs.Fine.{fine_line, fine_field, fine_marks, fine_fields, fine_columns, media_columns, fine_lines}

-- ---- a field, by its mark
module _ (a : List ℕ) (m p : ℕ) where
  pub field_there : eqb (num 2 a m) 1 ≡ true → fine_field a m p ≡ fine_line a p
  unfolding fine_field
  field_there e = rw e

  pub field_absent : eqb (num 2 a m) 1 ≡ false → fine_field a m p ≡ true
  unfolding fine_field
  field_absent e = rw e

-- ---- a field of each media: n - i of them are left, that of the media i has its mark at m + i * 36 and its line at p + i * 2
pub marks_all : (a : List ℕ) (n k m p : ℕ) → n ≡ k → fine_marks a k m p ≡ fine_marks a (n - 0) (m + 0 * 36) (p + 0 * 2)
marks_all a n k m p e =
    ap (λ (j : ℕ). fine_marks a j m p) (let z : k ≡ n - 0 = omega arith in z)
    ∙ ap₂ (fine_marks a (n - 0)) (let z : m ≡ m + 0 * 36 = omega arith in z) (let z : p ≡ p + 0 * 2 = omega arith in z)

module _ (a : List ℕ) (n i m p : ℕ) where
  pub marks_more : i < n → fine_field a (m + i * 36) (p + i * 2) ≡ true → fine_marks a (n - i) (m + i * 36) (p + i * 2) ≡ fine_marks a (n - (i + 1)) (m + (i + 1) * 36) (p + (i + 1) * 2)
  unfolding fine_marks
  marks_more h e =
      ap (λ (j : ℕ). fine_marks a j (m + i * 36) (p + i * 2)) (left_one n i h)
      ∙ rw e (ap₂ (fine_marks a (n - (i + 1))) (let z : m + i * 36 + 36 ≡ m + (i + 1) * 36 = omega arith in z) (let z : p + i * 2 + 2 ≡ p + (i + 1) * 2 = omega arith in z))

  pub marks_not : i < n → fine_field a (m + i * 36) (p + i * 2) ≡ false → fine_marks a (n - i) (m + i * 36) (p + i * 2) ≡ false
  unfolding fine_marks
  marks_not h e = ap (λ (j : ℕ). fine_marks a j (m + i * 36) (p + i * 2)) (left_one n i h) ∙ rw e

  pub marks_none : n ≤ i → fine_marks a (n - i) (m + i * 36) (p + i * 2) ≡ true
  unfolding fine_marks
  marks_none h = ap (λ (j : ℕ). fine_marks a j (m + i * 36) (p + i * 2)) (left_none n i h)

-- ---- no cell of the area has a line above the limit
cell_next : (i : ℕ) → cell_at i + 2 ≡ cell_at (i + 1)
cell_next i = omega arith

module _ (a : List ℕ) (low : (i : ℕ) → i < cells → num 2 a (cell_at i) ≤ highest_line) where
  line_low : (i : ℕ) → i < cells → fine_line a (cell_at i) ≡ true
  unfolding fine_line
  line_low i h = le-leb (num 2 a (cell_at i)) highest_line (low i h)

  field_low : (m i : ℕ) → i < cells → fine_field a m (cell_at i) ≡ true
  field_low m i h = go (eqb (num 2 a m) 1) refl
    where
      go : (b : Bool) → eqb (num 2 a m) 1 ≡ b → fine_field a m (cell_at i) ≡ true
      go true e = field_there a m (cell_at i) e ∙ line_low i h
      go false e = field_absent a m (cell_at i) e

  every_low : (n i : ℕ) → i + n ≤ cells → every_at (fine_line a) 2 n (cell_at i) ≡ true
  unfolding judge.every_at
  every_low zero i h = refl
  every_low (suc n) i h =
      ap₂ ◌&&◌ (line_low i (omega arith)) (ap (every_at (fine_line a) 2 n) (cell_next i) ∙ every_low n (i + 1) (omega arith))

  marks_low : (n m i : ℕ) → i + n ≤ cells → fine_marks a n m (cell_at i) ≡ true
  unfolding fine_marks
  marks_low zero m i h = refl
  marks_low (suc n) m i h =
      ap₂ ◌&&◌ (field_low m i (omega arith)) (ap (fine_marks a n (m + 36)) (cell_next i) ∙ marks_low n (m + 36) (i + 1) (omega arith))

  fields_low : fine_fields a ≡ true
  unfolding fine_fields
  fields_low =
      ap₂ ◌&&◌ (field_low origin_at origin_cell (omega arith))
      (ap₂ ◌&&◌ (line_low name_cell (omega arith))
      (ap₂ ◌&&◌ (field_low description_at description_cell (omega arith))
      (ap₂ ◌&&◌ (field_low uri_at uri_cell (omega arith))
      (ap₂ ◌&&◌ (field_low connection_at connection_cell (omega arith)) (field_low key_at key_cell (omega arith))))))

  -- where no count is above its table, what is looked at of a column lies in the cells
  module _ (c : Counted a) where
    columns_low : fine_columns a ≡ true
    unfolding fine_columns
    columns_low =
        let m = small_within a c in
        let n = large_within a c in
        ap₂ ◌&&◌ (every_low (num 2 a emails_at) emails_cell (omega arith))
        (ap₂ ◌&&◌ (every_low (num 2 a phones_at) phones_cell (omega arith))
        (ap₂ ◌&&◌ (every_low (num 2 a connections_at) connections_cell (omega arith))
        (ap₂ ◌&&◌ (every_low (num 2 a bandwidths_at) bandwidths_cell (omega arith))
        (ap₂ ◌&&◌ (every_low (num 2 a times_at) times_cell (omega arith))
        (ap₂ ◌&&◌ (every_low (num 2 a repeats_at) repeats_cell (omega arith))
        (ap₂ ◌&&◌ (every_low (num 2 a offsets_at) offsets_cell (omega arith))
        (ap₂ ◌&&◌ (every_low (num 2 a zones_at) zones_cell (omega arith))
        (ap₂ ◌&&◌ (every_low (num 2 a attributes_at) attributes_cell (omega arith)) (every_low (num 2 a medias_at) medias_cell (omega arith))))))))))

    medias_low : media_columns a ≡ true
    unfolding media_columns
    medias_low =
        let n = large_within a c in
        ap₂ ◌&&◌ (marks_low (num 2 a medias_at) (medias_at + (2 + 18)) titles_cell (omega arith)) (marks_low (num 2 a medias_at) (medias_at + (2 + 24)) keys_cell (omega arith))

    pub lines_low : fine_lines a ≡ true
    unfolding fine_lines
    lines_low = ap₂ ◌&&◌ fields_low (ap₂ ◌&&◌ columns_low medias_low)
