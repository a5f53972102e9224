-- A text that is refused with 8: its answer names the bad byte of the refused field. With any other number but 7 it names no place.
-- Assumes nothing.
use Prim.Native.Nat.{ℕ, ◌+◌}
use native.Mathlib.Omega.{arith}
use mathlib.Core.Path.{◌≡◌, refl, sym, ap, ◌∙◌}
use mathlib.Core.Bool.{Bool, true, false, cond}
use mathlib.Core.List.{List, [], ◌∷◌, ◌++◌, append_assoc}
use borrow.Author.Tests.{eq-eqb, ne_eqb}
use lib.Dec.{ltb, eqb}
use lib.ListN.{length, drop, length-take, length-drop, length-append}
use Rattle.sdp_numbers.specs.Refusals.{longest_text}
use Rattle.sdp_utf8.specs.Utf8.{utf8_end}
use Rattle.sdp_utf8.proofs.Utf8Text.{utf8_sound, utf8_longest}
use Rattle.sdp_utf8.proofs.BreakLaws.{utf8_short}
use Rattle.sdp_lines.specs.Lines.{Raw, split, content, width, form_of, Form}
use Rattle.sdp_lines.specs.declared.Span.{Span}
use Rattle.sdp_lines.specs.declared.Fault.{Fault}
use Rattle.sdp_lines.specs.declared.Fault.TheVariants as fault
use Rattle.std.specs.Prelude.{Some, None, Ok, Err}
use Rattle.sdp_lines.specs.Answers.{fault_number}
use Rattle.sdp_lines.proofs.LineLaws.{good_form}
use Rattle.sdp_split.specs.Split.{part}
use Rattle.sdp_judge.specs.declared.Wrong.{Wrong}
use Rattle.sdp_area.specs.Columns.{area_size}
use Rattle.sdp_strings.specs.Strings.{span_at}
use Rattle.sdp_step.specs.Step.{Reading, Stepped, goes, stops, step, fresh}
use Rattle.sdp_blame.specs.Blame.{Blames}
use Rattle.sdp_blame.proofs.StepLaws.{step_blames}
use Rattle.sdp_read.specs.Run as reader
use Rattle.sdp_read.specs.Run.{Verdict, accepted, refused, no_version, bad_version, is_zero, wrong_at, outcome_of, untouched, after, step_form, run, version, begin_form, begin, lines, read_text}
use Rattle.sdp_turn.proofs.TurnLaws.{fault_told}
use Rattle.sdp_same.proofs.LinesLaws.{piece_said, stands_drop, first_stands}
use Rattle.sdp_byte.specs.Byte.{widths, value_of, NamesByte, Tells}

-- ---- lines one by one
module _ (t : List ℕ) where
  -- the lines of t: those above, which stand before place p, and the rest
  record Reached (above rs : List Raw) (n p : ℕ) : Type 0 where
    cut : split t ≡ above ++ rs
    number : n ≡ length above + 1
    start : p ≡ widths above
    rest : split (drop p t) ≡ rs

  begins : Reached [] (split t) 1 0
  unfolding widths
  begins = record { cut = refl; number = refl; start = refl; rest = refl }

  widths_more : (above : List Raw) (r : Raw) → widths (above ++ (r ∷ [])) ≡ widths above + width r
  unfolding widths
  widths_more [] r = omega arith
  widths_more (x ∷ above) r = omega (arith, widths_more above r)

  past : (above rs : List Raw) (r : Raw) (n p : ℕ) → Reached above (r ∷ rs) n p → Reached (above ++ (r ∷ [])) rs (n + 1) (p + width r)
  past above rs r n p h = record {
    cut = h.cut ∙ sym (append_assoc above (r ∷ []) rs);
    number = omega (arith, h.number, length-append above (r ∷ []));
    start = omega (arith, h.start, widths_more above r);
    rest = (first_stands t p r rs h.rest).1;
  }

  -- what an answer must say
  abbrev Told : Verdict Span → Type 0
  Told (accepted s) = Unit {0}
  Told (refused x) = Tells t x

  -- no other number but 7 has a place
  other : (number line field : ℕ) → (number ≡ 8 → ⊥) → Tells t (reader.answer number line field)
  other number line field h = record { byte = λ e. absurd (h e); none = λ e f. refl }

  -- the refused line, of good form
  line-told : (above rs : List Raw) (r : Raw) (n p : ℕ) → Reached above (r ∷ rs) n p → (c : ℕ) → form_of (content r) ≡ Ok (Some c) → (w : Wrong) → Blames c (value_of r) w → w.number ≡ 8
      → NamesByte t (wrong_at n (p + 2) w)
  line-told above rs r n p h c f w b e =
      let v = value_of r in
      let y = b.byte e in
      let x = y.piece in
      let s = part v x in
      let i = y.inside in
      let m : length s ≡ x.len = omega (arith, length-take x.len (drop x.at v), length-drop x.at v) in
      let here = stands_drop t p (content r) (first_stands t p r rs h.rest).0 2 (good_form (content r) c f) in
      let byte = eq-eqb w.number 8 e in
      record {
        above = above;
        line = r;
        below = rs;
        cut = h.cut;
        number = h.number;
        letter = c;
        form = f;
        piece = x;
        field = y.field;
        inside = i;
        start = p + 2 + x.at;
        starts = ap (λ (k : ℕ). k + 2 + x.at) h.start;
        stands = piece_said t (p + 2) v here x i;
        good = utf8_end s;
        place = rw byte (omega (arith, y.at));
        within = let l = utf8_short s y.bad in omega arith;
        before = utf8_sound s;
        longest = λ k l g u. let z = utf8_longest s k (omega arith) u in omega arith;
        first = rw byte (omega (arith, y.first, h.start));
        len = refl;
      }

  fault_other : (f : Fault) → fault_number f ≡ 8 → ⊥
  fault_other fault.NulOrCr e = omega arith
  fault_other fault.NoEquals e = omega arith
  fault_other fault.NotSecond e = omega arith

  -- ---- the lines after the version
  run-told : (rs above : List Raw) (ρ : Reading Span) (n p : ℕ) → Reached above rs n p → Told (run span_at ρ n p rs)
  unfolding reader.run
  run-told [] above ρ n p h = tt
  run-told (r ∷ rs) above ρ n p h = form (form_of (content r)) refl (λ τ. run-told rs (above ++ (r ∷ [])) τ (n + 1) (p + width r) (past above rs r n p h))
    where
      stepped : (c : ℕ) → form_of (content r) ≡ Ok (Some c) → (σ : Stepped Span) → step (span_at (p + 2) (value_of r)) ρ (value_of r) c ≡ σ
          → ((τ : Reading Span) → Told (run span_at τ (n + 1) (p + width r) rs)) → Told (after span_at σ n (p + 2) (λ τ. run span_at τ (n + 1) (p + width r) rs))
      stepped c f (goes τ) q ih = ih τ
      stepped c f (stops w) q ih = record {
        byte = line-told above rs r n p h c f w (step_blames (value_of r) (span_at (p + 2) (value_of r)) ρ c w q);
        none = λ e g. rw (ne_eqb w.number 8 e);
      }

      form : (g : Form) → form_of (content r) ≡ g → ((τ : Reading Span) → Told (run span_at τ (n + 1) (p + width r) rs))
          → Told (after span_at (step_form span_at ρ p (content r) g) n (p + 2) (λ τ. run span_at τ (n + 1) (p + width r) rs))
      form (Ok None) f ih = ih ρ
      form (Err x) f ih = rw (fault_told n (p + 2) x) (other (fault_number x) n 0 (fault_other x))
      form (Ok (Some c)) f ih = stepped c f (step (span_at (p + 2) (value_of r)) ρ (value_of r) c) refl ih

  -- ---- and before it: 3 to 7
  version-told : (n p : ℕ) (v : List ℕ) (c : ℕ) (k : Verdict Span) → Told k → Told (version span_at n p v c k)
  version-told n p v c k h = go (eqb c 0x76) (is_zero v)
    where
      go : (a b : Bool) → Told (cond a (cond b k (refused (bad_version n p (length v)))) (refused no_version))
      go true true = h
      go true false = record { byte = λ e. absurd (omega arith); none = λ e f. absurd (f refl) }
      go false b = other 6 0 0 (λ e. omega arith)

  begin-told : (rs above : List Raw) (n p : ℕ) → Reached above rs n p → Told (begin span_at n p rs)
  unfolding reader.begin
  begin-told [] above n p h = other 6 0 0 (λ e. omega arith)
  begin-told (r ∷ rs) above n p h = form (form_of (content r)) (begin-told rs (above ++ (r ∷ [])) (n + 1) (p + width r) (past above rs r n p h))
    where
      form : (g : Form) → Told (begin span_at (n + 1) (p + width r) rs) → Told (begin_form span_at n p (content r) g (begin span_at (n + 1) (p + width r) rs) (run span_at fresh (n + 1) (p + width r) rs))
      form (Ok None) ih = ih
      form (Err x) ih = other (fault_number x) n 0 (fault_other x)
      form (Ok (Some c)) ih = version-told n (p + 2) (value_of r) c _ (run-told rs (above ++ (r ∷ [])) fresh (n + 1) (p + width r) (past above rs r n p h))

  lines-told : Told (lines span_at t)
  unfolding reader.lines
  lines-told = begin-told (split t) [] 1 0 begins

  -- ---- over the promise of read
  outcome_told : (a : List ℕ) (v : Verdict Span) → Told v → Tells t (outcome_of t a v).answer
  outcome_told a (accepted s) h = other 0 0 0 (λ e. omega arith)
  outcome_told a (refused x) h = h

  pub byte_told : (a : List ℕ) → Tells t (read_text t a).answer
  unfolding reader.read_text
  byte_told a = go (ltb (length a) area_size) (ltb longest_text (length t))
    where
      go : (b c : Bool) → Tells t (cond b (untouched a 2) (cond c (untouched a 1) (outcome_of t a (lines span_at t)))).answer
      go true c = other 2 0 0 (λ e. omega arith)
      go false true = other 1 0 0 (λ e. omega arith)
      go false false = outcome_told a (lines span_at t) lines-told
