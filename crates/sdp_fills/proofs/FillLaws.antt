-- The length call tells the length that the fill needs. Assumes nothing.
use mathlib.Core.Path.{◌≡◌, refl, sym, ap, ◌∙◌}
use mathlib.Core.Bool.{Bool, true, false, ◌&&◌, cond}
use mathlib.Core.List.{List}
use Prim.Native.Nat.{ℕ, ◌<◌}
use native.Mathlib.Omega.{arith}
use lib.ListN.{length}
use lib.Dec.{ltb, eqb}
use borrow.Author.Tests.{eqb-true, eqb-false}
use Rattle.sdp_numbers.specs.Refusals.{longest_text}
use Rattle.sdp_lines.specs.declared.Answer.{Answer}
use Rattle.sdp_area.specs.Columns.{area_size}
use Rattle.sdp_valid.specs.Judge.{well_formed}
use Rattle.sdp_stamp_valid.specs.Fine.{fine_lines}
use Rattle.sdp_unfit.specs.Unfit as unfits
use Rattle.sdp_unfit.specs.Unfit.{unfit}
use Rattle.sdp_row.specs.Written
use Rattle.sdp_write.specs.Write.{text_of, length_text}
use Rattle.sdp_write.proofs.WriteLaws.{no_length, its_length, not_written, out_short, all_written}
use Rattle.sdp_fills.specs.Fills.{Needs, LengthThenFill}

-- the version line is always there
written_some : (t a : List ℕ) → 0 < length (text_of t a)
unfolding Written.written Written.head_lines Written.line
written_some t a = omega arith

needs : (t a : List ℕ) → unfit t a ≡ 0 → Needs t a (length (text_of t a))
needs t a f = record {
  bytes = refl;
  some = written_some t a;
  enough = λ o h. all_written t a o f (length (text_of t a)) refl h;
  short = λ o h. out_short t a o f (length (text_of t a)) refl h;
}

-- a refusal of the length call is 2, 1 or 23
not_22 : (t a : List ℕ) → unfit t a ≡ 22 → ⊥
unfolding unfits.unfit
not_22 t a = go (ltb (length a) area_size) (ltb longest_text (length t)) (well_formed a t && fine_lines a)
  where
    go : (s l f : Bool) → ◌≡◌ {A = ℕ} (cond s 2 (cond l 1 (cond f 0 23))) 22 → ⊥
    go true l f e = omega (arith, e)
    go false true f e = omega (arith, e)
    go false false true e = omega (arith, e)
    go false false false e = omega (arith, e)

-- document 02, P7: "length, then fill"
pub length_then_fill : (t a : List ℕ) → LengthThenFill t a
length_then_fill t a = go (eqb (unfit t a) 0) refl
  where
    number : {x : Answer} → length_text t a ≡ x → (length_text t a).number ≡ x.number
    number e = ap (λ (x : Answer). x.number) e

    go : (b : Bool) → eqb (unfit t a) 0 ≡ b → LengthThenFill t a
    go true e =
        let f = eqb-true (unfit t a) 0 e in
        let l = its_length t a f (length (text_of t a)) refl in
        record {
          needs = λ z. rw l (needs t a f);
          alike = λ z. absurd (z (number l));
          never = λ z. let k : ◌≡◌ {A = ℕ} 0 22 = sym (number l) ∙ z in omega arith;
        }
    go false e =
        let f = eqb-false (unfit t a) 0 e in
        let l = no_length t a (unfit t a) refl f in
        record {
          needs = λ z. absurd (f (sym (number l) ∙ z));
          alike = λ z o. rw l (not_written t a o (unfit t a) refl f);
          never = λ z. not_22 t a (sym (number l) ∙ z);
        }
