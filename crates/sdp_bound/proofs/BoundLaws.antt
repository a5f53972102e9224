-- The written form of an accepted text against the text: line by line, and the whole. Assumes nothing.
use mathlib.Core.Path.{◌≡◌, refl, sym, ap, ◌∙◌}
use mathlib.Core.Bool.{Bool, true, false, cond}
use mathlib.Core.List.{List, [], ◌∷◌}
use Prim.Native.Nat.{ℕ, suc, ◌+◌, ◌-◌, ◌≤◌}
use native.Mathlib.Omega.{arith}
use lib.ListN.{length, get_or, take, drop, length-take, length-drop}
use lib.Dec.{eqb}
use borrow.Author.Tests.{eqb-true}
use Rattle.sdp_bytes.proofs.ScanLaws.{and_left}
use Rattle.sdp_lines.specs.Lines
use Rattle.sdp_lines.specs.Lines.{Raw, onto, split, content, width, form_of, Form}
use Rattle.std.specs.Prelude.{Some, None, Ok, Err}
use Rattle.sdp_lines.proofs.LineLaws.{good_form}
use Rattle.sdp_area.specs.Session.{Session, empty}
use Rattle.sdp_roles.specs.Roles.{role_at}
use Rattle.sdp_step.specs.Step.{Reading, Stepped, goes, stops, fresh}
use Rattle.sdp_step.proofs.GoingLaws.{Going, on, off}
use Rattle.sdp_roles.specs.declared.Role.{Role}
use Rattle.sdp_counts.specs.Count
use Rattle.sdp_counts.specs.Count.{role_of, uses, opens, used_from, from_version, kept_lines}
use Rattle.sdp_read.specs.Run
use Rattle.sdp_read.specs.Run.{Verdict, accepted, refused, after, step_form, run, is_zero, begin_form, begin, lines, read_text}
use Rattle.sdp_row.specs.Written
use Rattle.sdp_row.specs.Written.{written}
use Rattle.sdp_lines.specs.Strings.{bytes_of}
use Rattle.sdp_write.specs.Write.{answer, text_of, fill, fill_text}
use Rattle.sdp_same.specs.Said.{said, bytes_at}
use Rattle.sdp_same.specs.Same.{filled}
use Rattle.sdp_same.proofs.WrittenLaws.{id, written-said}
use Rattle.sdp_same.proofs.LinesLaws.{accepted_said}
use Rattle.sdp_same.proofs.MediaLaws.{line-medias}
use Rattle.sdp_same.proofs.SameLaws.{fills, read_then_write}
use Rattle.sdp_bound.specs.Bound.{bound, Enough}
use Rattle.sdp_room.proofs.SumLaws
use Rattle.sdp_room.proofs.SumLaws.{sum}
use Rattle.sdp_room.proofs.CostLaws
use Rattle.sdp_room.proofs.CostLaws.{cost, times_cost, written_cost}
use Rattle.sdp_bound.proofs.StepLaws.{Grown, step-grown}

-- ---- the lines of a text
pub content-short : (r : Raw) → length (content r) ≤ length r.body
unfolding Lines.content Lines.chop
content-short r = go r.ended (eqb (get_or r.body (length r.body - 1) 0) 13)
  where
    go : (a b : Bool) → length (cond a (cond b (take (length r.body - 1) r.body) r.body) r.body) ≤ length r.body
    go true true = omega (arith, length-take (length r.body - 1) r.body)
    go true false = omega arith
    go false b = omega arith

-- the lines with an LF each; the last one may lack it
abbrev pub bodies : List Raw → ℕ
bodies rs = sum (λ r. length r.body + 1) rs

pub bodies_short : (t : List ℕ) → bodies (split t) ≤ length t + 1
unfolding Lines.split SumLaws.sum
bodies_short [] = omega arith
bodies_short (b ∷ t) = go (eqb b 10) (split t) (bodies_short t)
  where
    go : (e : Bool) (rs : List Raw) → bodies rs ≤ length t + 1 → bodies (cond e (record { body = []; ended = true } ∷ rs) (onto b rs)) ≤ suc (length t) + 1
    go true rs h = omega arith
    go false [] h = omega arith
    go false (r ∷ rs) h = omega arith

-- ---- the lines after the version
module _ (ρ : Reading (List ℕ)) (p : ℕ) (r : Raw) where
  abbrev medias : ℕ
  medias = length ρ.session.tables.medias

  line-grown : (f : Form) → form_of (content r) ≡ f → Going (Grown (length r.body + 1 + uses (role_of medias f)) ρ) (step_form bytes_at ρ p (content r) f)
  line-grown (Ok None) e = on _ ρ (omega arith)
  line-grown (Err f) e = off _ _
  line-grown (Ok (Some l)) e = λ τ q.
      omega (arith, step-grown ρ (drop 2 (content r)) (role_at medias l) τ q, content-short r, good_form (content r) l e, length-drop 2 (content r))

run_cost : (rs : List Raw) (s : Session (List ℕ)) (ρ : Reading (List ℕ)) (n p : ℕ) → run bytes_at ρ n p rs ≡ accepted s
    → cost id s ≤ cost id ρ.session + (bodies rs + used_from (length ρ.session.tables.medias) rs)
unfolding Run.run SumLaws.sum Count.sum_from
run_cost [] s ρ n p e = let z : ρ.session ≡ s = cc in omega (arith, ap (cost id) z)
run_cost (r ∷ rs) s ρ n p e =
    go (step_form bytes_at ρ p (content r) (form_of (content r))) (line-grown ρ p r (form_of (content r)) refl) (line-medias bytes_at ρ p (content r) (form_of (content r)))
    (λ τ. run_cost rs s τ (n + 1) (p + width r)) e
  where
    x : Role
    x = role_of (length ρ.session.tables.medias) (form_of (content r))

    go : (σ : Stepped (List ℕ)) → Going (Grown (length r.body + 1 + uses x) ρ) σ
        → Going (λ τ. length τ.session.tables.medias ≡ length ρ.session.tables.medias + opens x) σ
        → ((τ : Reading (List ℕ)) → run bytes_at τ (n + 1) (p + width r) rs ≡ accepted s → cost id s ≤ cost id τ.session + (bodies rs + used_from (length τ.session.tables.medias) rs))
        → after bytes_at σ n (p + 2) (λ τ. run bytes_at τ (n + 1) (p + width r) rs) ≡ accepted s
        → cost id s ≤ cost id ρ.session + (length r.body + 1 + bodies rs + (uses x + used_from (length ρ.session.tables.medias + opens x) rs))
    go (stops w) h m ih e = absurd (let z : ◌≡◌ {A = ℕ} 0 1 = cc in omega arith)
    go (goes τ) h m ih e = omega (arith, ih τ e, h τ refl, ap (λ (k : ℕ). used_from k rs) (m τ refl))

-- ---- the version line, and the whole
-- `v=0` alone is written with 40 bytes
empty_cost : cost id empty ≡ 40
unfolding CostLaws.cost CostLaws.times_cost SumLaws.sum Written.origin_line Written.line Written.zones_line
empty_cost = refl

begin_cost : (rs : List Raw) (s : Session (List ℕ)) (n p : ℕ) → begin bytes_at n p rs ≡ accepted s → cost id s ≤ bodies rs + kept_lines rs + 35
unfolding Run.begin SumLaws.sum Count.kept_lines
begin_cost [] s n p e = absurd (let z : ◌≡◌ {A = ℕ} 0 1 = cc in omega arith)
begin_cost (r ∷ rs) s n p e = form (form_of (content r)) (begin_cost rs s (n + 1) (p + width r)) e
  where
    later : Verdict (List ℕ)
    later = run bytes_at fresh (n + 1) (p + width r) rs

    zero : (a b : Bool) → is_zero (drop 2 (content r)) ≡ b
        → cond a (cond b later (refused (record { number = 7; line = n; field = 0; place = p + 2; len = length (drop 2 (content r)) }))) (refused (record { number = 6; line = 0; field = 0; place = 0; len = 0 })) ≡ accepted s
        → cost id s ≤ length r.body + 1 + bodies rs + (1 + used_from 0 rs) + 35
    zero true true q e =
        let l = eqb-true (length (drop 2 (content r))) 1 (and_left _ _ q) in
        omega (arith, run_cost rs s fresh (n + 1) (p + width r) e, empty_cost, content-short r, length-drop 2 (content r))
    zero true false q e = absurd (let z : ◌≡◌ {A = ℕ} 0 1 = cc in omega arith)
    zero false b q e = absurd (let z : ◌≡◌ {A = ℕ} 0 1 = cc in omega arith)

    form : (f : Form) → (begin bytes_at (n + 1) (p + width r) rs ≡ accepted s → cost id s ≤ bodies rs + kept_lines rs + 35)
        → begin_form bytes_at n p (content r) f (begin bytes_at (n + 1) (p + width r) rs) later ≡ accepted s
        → cost id s ≤ length r.body + 1 + bodies rs + from_version f (kept_lines rs) (1 + used_from 0 rs) + 35
    form (Ok None) ih e = omega (arith, ih e)
    form (Err f) ih e = absurd (let z : ◌≡◌ {A = ℕ} 0 1 = cc in omega arith)
    form (Ok (Some c)) ih e = zero (eqb c 0x76) (is_zero (drop 2 (content r))) refl e

-- "An accepted text's written form is at most its length plus its kept lines (v= and all with a use) plus 36 bytes."
pub written-bound : (t : List ℕ) (s : Session (List ℕ)) → lines bytes_at t ≡ accepted s → length (written id s) ≤ bound t
unfolding Run.lines
written-bound t s e = omega (arith, written_cost id s, begin_cost (split t) s 1 0 e, bodies_short t)

-- ---- over the promises of read and write: what is written of an area that read has just left
module _ (t a : List ℕ) (h : (read_text t a).answer.number ≡ 0) where
  text-bound : length (text_of t (read_text t a).area) ≤ bound t
  text-bound =
      let r = read_then_write t a [] h in
      let e = r.text ∙ written-said (bytes_of t) r.session in
      omega (arith, ap length e, written-bound t (said (bytes_of t) r.session) (accepted_said t r.session r.read))

  -- n bytes are enough where the bound is no more than n
  pub enough : (n : ℕ) → bound t ≤ n → Enough n t a
  enough n l = record {
    short = omega (arith, text-bound);
    known = (let r = read_then_write t a [] h in r.known ∙ ap (λ (w : List ℕ). answer 0 (length w)) (sym r.text));
    written = writes;
  }
    where
      writes : (o : List ℕ) → n ≤ length o → fill_text t (read_text t a).area o ≡ filled (text_of t (read_text t a).area) o
      writes o m =
          let r = read_then_write t a o h in
          r.outcome ∙ (ap (λ (w : List ℕ). fill w o) (sym r.text) ∙ fills (text_of t (read_text t a).area) o (omega (arith, text-bound)))

  pub write_bound : Enough (bound t) t a
  write_bound = enough (bound t) (omega arith)
