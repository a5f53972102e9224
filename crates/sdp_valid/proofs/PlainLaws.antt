-- A part of a text of ASCII bytes is UTF-8. Assumes nothing.
use mathlib.Core.Path.{◌≡◌, refl, ap, ◌∙◌}
use mathlib.Core.Bool.{Bool, true, false, cond}
use mathlib.Core.List.{List, [], ◌∷◌}
use Prim.Native.Nat.{ℕ, zero, suc, ◌+◌, ◌-◌, ◌≤◌}
use native.Mathlib.Omega.{arith}
use lib.ListN.{length, take, drop, length-drop}
use lib.Seq.{length-take-le}
use borrow.Author.Tests.{eq-eqb, eqb-true}
use Rattle.sdp_bytes.specs.Runs.{run_len}
use Rattle.sdp_bytes.proofs.ScanLaws.{reached_done, run_pass, run_passed}
use Rattle.sdp_utf8.specs.Utf8.{ascii, utf8_end, is_utf8}
use Rattle.sdp_utf8.proofs.Utf8Laws.{plain_on, utf8_steps}
use Rattle.sdp_cells.specs.Bytes.{num}
use Rattle.sdp_valid.specs.Judge.{fine_string}
use Rattle.sdp_valid.specs.Plain.{is_plain}
use Rattle.sdp_valid.proofs.JudgeLaws.{string_inside}

-- the first bytes of a run are a run
run_taken : (p : ℕ → Bool) (n : ℕ) (s : List ℕ) → n ≤ run_len p s → run_len p (take n s) ≡ n
unfolding run_len
run_taken p zero s h = refl
run_taken p (suc n) [] h = absurd (omega arith)
run_taken p (suc n) (b ∷ s) h = go (p b) refl h (run_taken p n s)
  where
    go : (t : Bool) → p b ≡ t → suc n ≤ cond t (suc (run_len p s)) 0 → (n ≤ run_len p s → run_len p (take n s) ≡ n) → cond t (suc (run_len p (take n s))) 0 ≡ suc n
    go true e h ih = ap suc (ih (omega arith))
    go false e h ih = absurd (omega arith)

-- a run that is the whole
run_utf8 : (s : List ℕ) → length s ≤ run_len ascii s → is_utf8 s ≡ true
unfolding is_utf8
run_utf8 s h =
    let e = reached_done utf8_end s (run_len ascii s) (plain_on s) utf8_steps.none h in
    eq-eqb (utf8_end s) (length s) (omega (arith, e, (plain_on s).0))

-- a part of such a text
pub part_utf8 : (t : List ℕ) (i n : ℕ) → is_plain t ≡ true → i + n ≤ length t → is_utf8 (take n (drop i t)) ≡ true
unfolding is_plain
part_utf8 t i n p h =
    let e = eqb-true (run_len ascii t) (length t) p in
    let d = (run_passed ascii (run_pass ascii) i t (omega arith)).1 in
    let r = run_taken ascii n (drop i t) (omega arith) in
    let l = length-take-le n (drop i t) (omega (arith, length-drop i t)) in
    run_utf8 (take n (drop i t)) (omega arith)

-- a string of such a text
pub string_plain : (a t : List ℕ) (p place len : ℕ) → place ≡ num 2 a p → len ≡ num 2 a (p + 2) → place + len ≤ length t → is_plain t ≡ true → fine_string a t p ≡ true
string_plain a t p place len e l h q = string_inside a t p place len e l h ∙ part_utf8 t place (place + len - place) q (omega arith)
