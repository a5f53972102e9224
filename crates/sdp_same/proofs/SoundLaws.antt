-- A text gives a sound session, whose strings are UTF-8 and lie in the text, or is refused with a number. Assumes nothing.
use Prim.Native.Nat.{ℕ, ◌+◌, ◌≤◌, ◌<◌}
use native.Mathlib.Omega.{arith}
use mathlib.Core.Path.{◌≡◌, refl, ap, ◌∙◌, subst}
use mathlib.Core.Bool.{Bool, true, false, cond}
use mathlib.Core.List.{List, [], ◌∷◌}
use lib.Dec.{eqb, lit<}
use lib.ListN.{length, drop, length-drop, length-append}
use Rattle.sdp_utf8.specs.Utf8.{is_utf8}
use Rattle.sdp_lines.specs.Lines.{Raw, split, content, width, form_of, Form}
use Rattle.sdp_lines.specs.declared.Span.{Span}
use Rattle.sdp_lines.specs.Answers.{fault_number}
use Rattle.sdp_lines.specs.declared.Answer.{Answer}
use Rattle.sdp_lines.specs.declared.Fault.{Fault}
use Rattle.sdp_lines.specs.declared.Fault.TheVariants as fault
use Rattle.std.specs.Prelude.{Some, None, Ok, Err}
use Rattle.sdp_lines.proofs.LineLaws.{good_form}
use Rattle.sdp_split.specs.declared.Piece.{Piece}
use Rattle.sdp_area.specs.Session.{Session, empty}
use Rattle.sdp_strings.specs.Strings.{span_at}
use Rattle.sdp_step.specs.Step.{Reading, Stepped, goes, stops, fresh}
use Rattle.sdp_read.specs.Run as reader
use Rattle.sdp_read.specs.Run.{Verdict, accepted, refused, no_version, bad_version, is_zero, after, step_form, run, version, begin_form, begin, lines}
use Rattle.sdp_same.specs.Sound.{FineIn, Sound}
use Rattle.sdp_same.proofs.StandsLaws.{Stands}
use Rattle.sdp_same.proofs.LinesLaws.{piece_said, stands_drop, first_stands}
use Rattle.sdp_same.proofs.FineLaws.{Fine}
use Rattle.sdp_same.proofs.KeptLaws.{Goes, line_kept}

pub empty_sound : (P : Span → Type 0) → Sound P empty
empty_sound P = record {
  fits = record {
    head = record { origin = tt; name = tt; description = tt; uri = tt; connection = tt; key = tt };
    tables = record {
      emails = record { few = omega arith; each = tt };
      phones = record { few = omega arith; each = tt };
      connections = record { few = omega arith; each = tt };
      bandwidths = record { few = omega arith; each = tt };
      times = record { few = omega arith; each = tt };
      repeats = record { few = omega arith; each = tt };
      offsets = record { few = omega arith; each = tt };
      zones = record { few = omega arith; each = tt };
      attributes = record { few = omega arith; each = tt };
      medias = record { few = omega arith; each = tt };
    };
  };
  owned = record { connections = tt; bandwidths = tt; repeats = tt; offsets = tt; attributes = tt };
}

fault_number_lem : (f : Fault) → 0 < fault_number f
fault_number_lem fault.NulOrCr = lit< tt
fault_number_lem fault.NoEquals = lit< tt
fault_number_lem fault.NotSecond = lit< tt

module _ (t : List ℕ) where
  -- bytes that stand in the text, where there are any
  stands_inside : (p : ℕ) (l : List ℕ) → Stands t p l → 0 < length l → p + length l ≤ length t
  stands_inside p l w h = let e : length (drop p t) ≡ length l + length w.rest = ap length w.here ∙ length-append l w.rest in omega (arith, length-drop p t)

  -- a piece of a line's value is a string of the text
  fine_in : (p : ℕ) (v : List ℕ) → Stands t p v → p + length v ≤ length t → (x : Piece) → Fine v x → FineIn t (span_at p v x)
  fine_in p v w l x f = record { inside = (let i = f.inside in omega arith); utf8 = ap is_utf8 (piece_said t p v w x f.inside) ∙ f.utf8 }

  abbrev pub Kept : Reading Span → Type 0
  Kept τ = Sound (FineIn t) τ.session

  abbrev Whole : Verdict Span → Type 0
  Whole (accepted s) = Sound (FineIn t) s
  Whole (refused x) = 0 < x.number

  -- ---- the lines after the version
  pub form_sound : (p : ℕ) (l : List ℕ) → Stands t p l → (ρ : Reading Span) → Kept ρ → (g : Form) → form_of l ≡ g → Goes Kept (step_form span_at ρ p l g)
  form_sound p l w ρ h (Ok None) e = h
  form_sound p l w ρ h (Err x) e = fault_number_lem x
  form_sound p l w ρ h (Ok (Some c)) e =
      let two : 2 ≤ length l = good_form l c e in
      let inside : p + length l ≤ length t = stands_inside p l w (omega arith) in
      line_kept (drop 2 l) (span_at (p + 2) (drop 2 l)) (FineIn t) (fine_in (p + 2) (drop 2 l) (stands_drop t p l w 2 two) (omega (arith, length-drop 2 l))) ρ h c

  after_sound : (x : Stepped Span) (n p : ℕ) (k : Reading Span → Verdict Span) → Goes Kept x → ((τ : Reading Span) → Kept τ → Whole (k τ)) → Whole (after span_at x n p k)
  after_sound (goes τ) n p k g h = h τ g
  after_sound (stops w) n p k g h = g

  run_sound : (rs : List Raw) (ρ : Reading Span) (n p : ℕ) → Kept ρ → split (drop p t) ≡ rs → Whole (run span_at ρ n p rs)
  unfolding reader.run
  run_sound [] ρ n p h e = h
  run_sound (r ∷ rs) ρ n p h e =
      let w = first_stands t p r rs e in
      after_sound (step_form span_at ρ p (content r) (form_of (content r))) n (p + 2) (λ τ. run span_at τ (n + 1) (p + width r) rs)
      (form_sound p (content r) w.0 ρ h (form_of (content r)) refl) (λ τ k. run_sound rs τ (n + 1) (p + width r) k w.1)

  -- ---- and before it
  version_sound : (n p : ℕ) (v : List ℕ) (c : ℕ) (k : Verdict Span) → Whole k → Whole (version span_at n p v c k)
  version_sound n p v c k h = go (eqb c 0x76) (is_zero v)
    where
      go : (a b : Bool) → Whole (cond a (cond b k (refused (bad_version n p (length v)))) (refused no_version))
      go true true = h
      go true false = lit< tt
      go false b = lit< tt

  begin_form_sound : (n p : ℕ) (l : List ℕ) (g : Form) (s k : Verdict Span) → Whole s → Whole k → Whole (begin_form span_at n p l g s k)
  begin_form_sound n p l (Ok None) s k x y = x
  begin_form_sound n p l (Err f) s k x y = fault_number_lem f
  begin_form_sound n p l (Ok (Some c)) s k x y = version_sound n (p + 2) (drop 2 l) c k y

  begin_sound : (rs : List Raw) (n p : ℕ) → split (drop p t) ≡ rs → Whole (begin span_at n p rs)
  unfolding reader.begin
  begin_sound [] n p e = lit< tt
  begin_sound (r ∷ rs) n p e =
      let w = first_stands t p r rs e in
      begin_form_sound n p (content r) (form_of (content r)) (begin span_at (n + 1) (p + width r) rs) (run span_at fresh (n + 1) (p + width r) rs)
      (begin_sound rs (n + 1) (p + width r) w.1) (run_sound rs fresh (n + 1) (p + width r) (empty_sound (FineIn t)) w.1)

  lines_sound : Whole (lines span_at t)
  unfolding reader.lines
  lines_sound = begin_sound (split t) 1 0 refl

  pub read_sound : (s : Session Span) → lines span_at t ≡ accepted s → Sound (FineIn t) s
  read_sound s e = subst Whole e lines_sound

  pub refusal_number : (x : Answer) → lines span_at t ≡ refused x → 0 < x.number
  refusal_number x e = subst Whole e lines_sound
