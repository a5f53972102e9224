-- The lines in the area that reading leaves are judged fine, whatever stands behind them. Assumes nothing.
use Prim.Native.Nat.{ℕ, zero, suc, ◌+◌, ◌*◌, ◌≤◌, ◌<◌}
use native.Mathlib.Omega.{arith}
use mathlib.Core.Path.{◌≡◌, ap, ◌∙◌}
use mathlib.Core.Bool.{true}
use mathlib.Core.List.{List, [], ◌∷◌, ◌++◌}
use lib.ListN.{length, get_or, length-append}
use lib.Seq.{drop_at}
use Rattle.sdp_numbers.specs.Refusals.{highest_line}
use Rattle.sdp_lines.specs.declared.Span.{Span}
use Rattle.sdp_cells.specs.Bytes.{le, num}
use Rattle.sdp_cells.specs.Tables.{pairs}
use Rattle.sdp_cells.proofs.ByteLaws.{length-le}
use Rattle.sdp_cells.proofs.TableLaws.{length-flat}
use Rattle.sdp_area.specs.Session.{Session}
use Rattle.sdp_area.specs.Area.{encode, size}
use Rattle.sdp_area.specs.Columns.{cells, cell_at, area_size, area_of}
use Rattle.sdp_area.proofs.WidthLaws.{length-encode}
use Rattle.sdp_read.specs.Run.{stamps_of}
use Rattle.sdp_stamp_valid.specs.Fine.{fine_lines}
use Rattle.sdp_stamp_valid.proofs.FineLaws.{lines_low}
use Rattle.sdp_unfit.proofs.UnfitLaws.{formed_counted}
use Rattle.sdp_same.specs.Fits.{Each}
use Rattle.sdp_same.specs.Sound.{FineIn, Sound}
use Rattle.sdp_same.proofs.StandsLaws.{Stands, num_back, first_row}
use Rattle.sdp_same.proofs.StampLaws.{LowLines, stamps_low}
use Rattle.sdp_same.proofs.JudgeLaws.{well_formed_lem}

-- the cells of numbers that stand in an area
cell_is : (a ls : List ℕ) (n i : ℕ) → Each (λ k. k ≤ highest_line) ls → i < length ls → Stands a n (pairs ls) → num 2 a (n + i * 2) ≡ get_or ls i 0
cell_is a [] n i h l w = absurd (omega arith)
cell_is a (x ∷ xs) n zero h l w =
    let b = h.0 in
    let z : n + 0 * 2 ≡ n = omega arith in
    ap (num 2 a) z ∙ num_back 2 x (omega arith) (first_row (le 2) 2 (length-le 2) x xs w).0
cell_is a (x ∷ xs) n (suc i) h l w =
    let z : n + suc i * 2 ≡ n + 2 + i * 2 = omega arith in
    ap (num 2 a) z ∙ cell_is a xs (n + 2) i h.1 (omega arith) (first_row (le 2) 2 (length-le 2) x xs w).1

low_at : (ls : List ℕ) (i : ℕ) → Each (λ k. k ≤ highest_line) ls → get_or ls i 0 ≤ highest_line
low_at [] i h = omega arith
low_at (x ∷ xs) zero h = h.0
low_at (x ∷ xs) (suc i) h = low_at xs i h.1

module _ (s : Session Span) (ls : List ℕ) (f : LowLines ls) (x : List ℕ) where
  area_full : area_size ≤ length (area_of s ls x)
  area_full =
      let e = f.all in
      omega (arith, length-append (encode s) (pairs ls ++ x), length-append (pairs ls) x, length-encode s, length-flat (le 2) 2 (length-le 2) ls)

  area_cell : (i : ℕ) → i < cells → num 2 (area_of s ls x) (cell_at i) ≡ get_or ls i 0
  area_cell i l =
      let e = f.all in
      cell_is (area_of s ls x) ls size i f.low (omega arith) (record { rest = x; here = drop_at (encode s) (pairs ls ++ x) size (length-encode s) })

  area_low : (i : ℕ) → i < cells → num 2 (area_of s ls x) (cell_at i) ≤ highest_line
  area_low i l = rw (area_cell i l) (low_at ls i f.low)

-- ---- of a text
module _ (t : List ℕ) (short : length t ≤ 32768) (s : Session Span) (x : List ℕ) where
  pub lines_full : area_size ≤ length (area_of s (stamps_of t) x)
  lines_full = area_full s (stamps_of t) (stamps_low t short) x

  pub line_in : (i : ℕ) → i < cells → num 2 (area_of s (stamps_of t) x) (cell_at i) ≡ get_or (stamps_of t) i 0
  line_in = area_cell s (stamps_of t) (stamps_low t short) x

  pub lines_fine : Sound (FineIn t) s → fine_lines (area_of s (stamps_of t) x) ≡ true
  lines_fine h =
      let a : List ℕ = area_of s (stamps_of t) x in
      let l = lines_full in
      lines_low a (area_low s (stamps_of t) (stamps_low t short) x) (formed_counted t a (omega arith) (well_formed_lem t short s h (pairs (stamps_of t) ++ x)))
