-- Laws of numbers written as two bytes each: one more, and a table's row. Assumes nothing.
use mathlib.Core.Path.{◌≡◌, sym, ap, ◌∙◌}
use mathlib.Core.List.{List}
use Prim.Native.Nat.{ℕ, ◌+◌, ◌*◌, ◌≤◌, ◌<◌}
use native.Mathlib.Nat.{suc-mul, mul-le-mul_right}
use native.Mathlib.Numerals.{add-one}
use native.Mathlib.Omega.{arith}
use lib.ListN.{length, take, get_or}
use lib.Seq.{take-suc, length-take-le}
use Rattle.sdp_cells.specs.Bytes.{le, over}
use Rattle.sdp_cells.specs.Tables.{pairs}
use Rattle.sdp_cells.proofs.ByteLaws.{over_next, length-le}
use Rattle.sdp_cells.proofs.TableLaws.{length-flat, flat_snoc}

pub length_pairs : (ws : List ℕ) → length (pairs ws) ≡ length ws * 2
length_pairs ws = length-flat (le 2) 2 (length-le 2) ws

-- one more written behind those before it
pub put_more : (a₀ a b ws : List ℕ) (at i : ℕ) → i < length ws → at + length ws * 2 ≤ length a₀
    → a ≡ over a₀ at (pairs (take i ws)) → b ≡ over a (at + i * 2) (le 2 (get_or ws i 0)) → b ≡ over a₀ at (pairs (take (i + 1) ws))
put_more a₀ a b ws at i h room is next =
    let l : length (pairs (take i ws)) ≡ i * 2 = length_pairs (take i ws) ∙ ap (λ (k : ℕ). k * 2) (length-take-le i ws (omega arith)) in
    next
    ∙ ap (λ (l : List ℕ). over l (at + i * 2) (le 2 (get_or ws i 0))) is
    ∙ over_next a₀ (pairs (take i ws)) (le 2 (get_or ws i 0)) at (at + i * 2) (omega arith) (rw length-le (omega arith))
    ∙ ap (over a₀ at) (sym (ap (λ (k : ℕ). pairs (take k ws)) (add-one i) ∙ ap pairs (take-suc ws i 0 h) ∙ flat_snoc (le 2) (take i ws) (get_or ws i 0)))

-- a row below the capacity is within the table
pub row_within : (n cap w : ℕ) → n < cap → n * w + w ≤ cap * w
row_within n cap w h = rw suc-mul at (mul-le-mul_right w h)

-- the row stored behind n rows, and then the count raised
pub row_stored : (a b c ws : List ℕ) (base n m : ℕ) → n ≡ m → b ≡ over a (base + (2 + n * (length ws * 2))) (pairs ws) → c ≡ over b base (le 2 (n + 1))
    → c ≡ over (over a (base + (2 + m * length (pairs ws))) (pairs ws)) base (le 2 (m + 1))
row_stored a b c ws base n m e p q = rw (length_pairs ws) (simp (q, p, e))
