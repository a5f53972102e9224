-- A written line is cut off the text that it begins, and its form is good. Assumes nothing.
use mathlib.Core.Path.{◌≡◌, refl, sym, ap, ◌∙◌}
use mathlib.Core.Bool.{Bool, true, false, not, ◌&&◌, ◌||◌, and-eq-true_iff}
use mathlib.Core.List.{List, [], ◌∷◌, ◌++◌, append_assoc}
use Prim.Native.Nat.{ℕ, suc}
use native.Mathlib.Omega.{arith}
use lib.ListN.{length}
use lib.Dec.{eqb}
use borrow.Author.Tests.{ne_eqb, not-true}
use Rattle.sdp_bytes.specs.Runs as runs
use Rattle.sdp_bytes.proofs.ScanLaws.{and_left, and_right}
use Rattle.sdp_lines.specs.Lines as cutter
use Rattle.sdp_lines.specs.Lines.{split, chop, has_nul_or_cr, form_of}
use Rattle.std.specs.Prelude.{Some, Ok}
use Rattle.sdp_put.specs.Strings.{dropped}
use Rattle.sdp_put.proofs.ByteLaws.{last_byte, but_last, every, every_so, every_append, lacks, bare}
use Rattle.sdp_row.specs.Written as form
use Rattle.sdp_row.specs.Written.{ending, line}

split-ended : (a rest : List ℕ) → lacks 10 a ≡ true → split (a ++ (10 ∷ rest)) ≡ record { body = a; ended = true } ∷ split rest
unfolding cutter.split every
split-ended [] rest h = refl
split-ended (b ∷ a) rest h = rw (not-true (eqb b 10) (and_left (not (eqb b 10)) _ h), split-ended a rest (and_right (not (eqb b 10)) _ h))

bare_lacks : (s : List ℕ) → bare s ≡ true → lacks 10 s ≡ true
bare_lacks s h = every_so (λ b. not (dropped b)) (λ b. not (eqb b 10)) (λ b. go (eqb b 0) (eqb b 13) (eqb b 10)) s h
  where
    go : (x y z : Bool) → not (x || (y || z)) ≡ true → not z ≡ true
    go true y z e = absurd (let q : ◌≡◌ {A = ℕ} 0 1 = cc in omega arith)
    go false true z e = absurd (let q : ◌≡◌ {A = ℕ} 0 1 = cc in omega arith)
    go false false z e = e

bare_form : (s : List ℕ) → bare s ≡ true → has_nul_or_cr s ≡ false
unfolding cutter.has_nul_or_cr every
bare_form [] h = refl
bare_form (b ∷ s) h = go (eqb b 0) (eqb b 13) (eqb b 10) (and_left (not (dropped b)) _ h) (bare_form s (and_right (not (dropped b)) _ h))
  where
    go : (x y z : Bool) → not (x || (y || z)) ≡ true → has_nul_or_cr s ≡ false → (x || y || has_nul_or_cr s) ≡ false
    go true y z e i = sym e
    go false true z e i = sym e
    go false false z e i = i

pub chop-cr : (s : List ℕ) → chop (s ++ (13 ∷ [])) ≡ s
unfolding cutter.chop
chop-cr s = rw (last_byte s 13, but_last s 13)

-- the letters that are written: no NUL, CR, LF or equals sign
abbrev pub letter : ℕ → Bool
letter l = not (dropped l) && not (eqb l 0x3d)

module _ (l : ℕ) (v : List ℕ) (good : letter l ≡ true) (h : bare v ≡ true) where
  whole_bare : bare (l ∷ 0x3d ∷ v) ≡ true
  unfolding every
  whole_bare = (and-eq-true_iff (not (dropped l)) _).1 (and_left (not (dropped l)) _ good, h)

  pub line_form : form_of (l ∷ 0x3d ∷ v) ≡ Ok (Some l)
  unfolding cutter.form_of cutter.plain_form runs.index_of
  line_form =
      rw (bare_form (l ∷ 0x3d ∷ v) whole_bare, not-true (eqb l 0x3d) (and_right (not (dropped l)) _ good), ne_eqb 1 (suc (suc (length v))) (λ e. omega arith), ne_eqb (suc (suc (length v))) 0 (λ e. omega arith))

  pub line-split : (rest : List ℕ) → split (line l v ++ rest) ≡ record { body = (l ∷ 0x3d ∷ v) ++ (13 ∷ []); ended = true } ∷ split rest
  unfolding form.line every
  line-split rest =
      ap split (ap (λ (x : List ℕ). l ∷ 0x3d ∷ x) (append_assoc v ending rest ∙ sym (append_assoc v (13 ∷ []) (10 ∷ rest))))
      ∙ split-ended ((l ∷ 0x3d ∷ v) ++ (13 ∷ [])) rest (every_append (λ b. not (eqb b 10)) (l ∷ 0x3d ∷ v) (13 ∷ []) (bare_lacks (l ∷ 0x3d ∷ v) whole_bare) refl)
