-- An area from before there were lines, with zeros behind it, is judged as it was. Assumes nothing.
use mathlib.Core.Path.{◌≡◌, refl, sym, ap, ap₂, ◌∙◌}
use mathlib.Core.Bool.{Bool, true, false, ◌&&◌, cond}
use mathlib.Core.List.{List, ◌++◌, append_assoc}
use Prim.Native.Nat.{ℕ, ◌+◌, ◌*◌, ◌-◌, ◌≤◌, ◌<◌}
use native.Mathlib.Omega.{arith}
use lib.Dec.{ltb, lit<}
use lib.ListN.{length, length-append}
use borrow.Author.Tests.{le-ltb}
use Rattle.sdp_numbers.specs.Refusals.{longest_text}
use Rattle.sdp_cells.specs.Bytes.{le, num, zeros}
use Rattle.sdp_cells.proofs.ByteLaws.{length-zeros, zeros-add, le_zero, num_at}
use Rattle.sdp_area.specs.Area.{size}
use Rattle.sdp_area.specs.Columns.{cells, cell_at, area_size}
use Rattle.sdp_valid.specs.Judge.{well_formed}
use Rattle.sdp_valid.proofs.FrontLaws.{formed_front}
use Rattle.sdp_stamp_valid.specs.Fine.{fine_lines}
use Rattle.sdp_stamp_valid.proofs.FineLaws.{lines_low}
use Rattle.sdp_unfit.specs.Unfit as unfits
use Rattle.sdp_unfit.proofs.UnfitLaws.{formed_counted}
use Rattle.sdp_fills.specs.Earlier.{extended, EarlierGood}

-- two of the zeros, with k before them and r behind
zero_at : (a x : List ℕ) (k r n : ℕ) → length a + k ≡ n → num 2 (a ++ (zeros (k + (2 + r)) ++ x)) n ≡ 0
zero_at a x k r n e =
    let l : length (a ++ zeros k) ≡ n = length-append a (zeros k) ∙ ap (λ (m : ℕ). length a + m) (length-zeros k) ∙ e in
    let z : zeros (k + (2 + r)) ++ x ≡ zeros k ++ (le 2 0 ++ (zeros r ++ x)) = rw (← zeros-add k (2 + r), ← zeros-add 2 r, ← le_zero, append_assoc, append_assoc) in
    ap (λ (y : List ℕ). num 2 y n) (ap (λ (y : List ℕ). a ++ y) z ∙ sym (append_assoc a (zeros k) (le 2 0 ++ (zeros r ++ x))))
    ∙ num_at 2 0 (a ++ zeros k) (zeros r ++ x) n l (lit< tt)

module _ (a x : List ℕ) (h : length a ≡ size) where
  long : area_size ≤ length (extended a x)
  long = omega (arith, length-append a (zeros (area_size - size) ++ x), length-append (zeros (area_size - size)) x, length-zeros (area_size - size))

  -- no cell has a line
  cell_zero : (i : ℕ) → i < cells → num 2 (extended a x) (cell_at i) ≡ 0
  cell_zero i l =
      ap (λ (d : ℕ). num 2 (a ++ (zeros d ++ x)) (cell_at i)) (let z : area_size - size ≡ i * 2 + (2 + (area_size - size - 2 - i * 2)) = omega arith in z)
      ∙ zero_at a x (i * 2) (area_size - size - 2 - i * 2) (cell_at i) (omega arith)

  module _ (t : List ℕ) where
    formed : well_formed (extended a x) t ≡ well_formed a t
    formed = formed_front a (zeros (area_size - size) ++ x) t (omega arith)

    judged : (well_formed (extended a x) t && fine_lines (extended a x)) ≡ well_formed a t
    judged = go (well_formed a t) refl
      where
        go : (b : Bool) → well_formed a t ≡ b → (well_formed (extended a x) t && fine_lines (extended a x)) ≡ b
        go false e = rw (formed ∙ e)
        go true e =
            let l = long in
            let c = formed_counted t (extended a x) (omega arith) (formed ∙ e) in
            ap₂ ◌&&◌ (formed ∙ e) (lines_low (extended a x) (λ i k. let z = cell_zero i k in omega arith) c)

-- document 02, P4: "Areas kept from earlier are judged as before"
pub earlier_good : (t a : List ℕ) → EarlierGood t a
unfolding unfits.unfit
earlier_good t a h x =
    rw (le-ltb (length (extended a x)) area_size (long a x h), le-ltb (length a) size (omega arith))
    (ap (λ (b : Bool). cond (ltb longest_text (length t)) 1 (cond b 0 23)) (judged a x h t))
