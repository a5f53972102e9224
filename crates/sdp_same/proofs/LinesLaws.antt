-- A text read with places and lengths says what the same text says when it is read with bytes. Assumes nothing.
use Prim.Native.Nat.{ℕ, ◌+◌, ◌≤◌, ◌<◌}
use native.Mathlib.Decide.{dec_lt}
use native.Mathlib.Omega.{arith}
use mathlib.Core.Path.{◌≡◌, refl, sym, ap, ◌∙◌}
use mathlib.Core.Bool.{Bool, true, false, cond}
use mathlib.Core.List.{List, [], ◌∷◌, ◌++◌}
use lib.Dec.{eqb}
use lib.ListN.{length, take, drop, length-drop, take-append-drop, drop_of_length-le}
use lib.Seq.{take-append-le, drop-append-le, drop-drop}
use Rattle.sdp_lines.specs.Lines as cut
use Rattle.sdp_lines.specs.Lines.{Raw, split, content, width, form_of, Form}
use Rattle.sdp_lines.specs.Quick.{first_raw}
use Rattle.sdp_lines.specs.Strings.{bytes_of}
use Rattle.sdp_lines.specs.declared.Span.{Span}
use Rattle.sdp_lines.specs.declared.Answer.{Answer}
use Rattle.std.specs.Prelude.{Some, None, Ok, Err}
use Rattle.sdp_lines.proofs.LineLaws.{split_at_place, content-front, good_form}
use Rattle.sdp_split.specs.Split.{part, Inside}
use Rattle.sdp_split.specs.declared.Piece.{Piece}
use Rattle.sdp_area.specs.Session.{Session}
use Rattle.sdp_strings.specs.Strings.{span_at}
use Rattle.sdp_step.specs.Step.{Reading, Stepped, goes, stops, fresh}
use Rattle.sdp_read.specs.Run as reader
use Rattle.sdp_read.specs.Run.{Verdict, accepted, refused, no_version, bad_version, is_zero, after, step_form, run, version, begin_form, begin, lines}
use Rattle.sdp_same.specs.Said.{bytes_at, said, said_reading, said_step, said_verdict}
use Rattle.sdp_same.proofs.StandsLaws.{Stands}
use Rattle.sdp_same.proofs.StepLaws.{line-said}

module _ (t : List ℕ) where
  -- a piece of v is a string of the text
  pub piece_said : (p : ℕ) (v : List ℕ) → Stands t p v → (x : Piece) → Inside v x → bytes_of t (span_at p v x) ≡ part v x
  piece_said p v w x h =
      ap (take x.len) (sym (drop-drop x.at p t) ∙ ap (drop x.at) w.here ∙ drop-append-le x.at v w.rest (omega arith))
      ∙ take-append-le x.len (drop x.at v) w.rest (omega (arith, length-drop x.at v))

  -- without its first k bytes
  pub stands_drop : (p : ℕ) (v : List ℕ) → Stands t p v → (k : ℕ) → k ≤ length v → Stands t (p + k) (drop k v)
  stands_drop p v w k h = record { rest = w.rest; here = sym (drop-drop k p t) ∙ ap (drop k) w.here ∙ drop-append-le k v w.rest h }

  -- the first line from place p on stands there, and the next ones behind it
  pub first_stands : (p : ℕ) (r : Raw) (rs : List Raw) → split (drop p t) ≡ r ∷ rs → Stands t p (content r) × (split (drop (p + width r) t) ≡ rs)
  unfolding cut.split
  first_stands p r rs e = go (dec_lt p (length t))
    where
      go : Dec (p < length t) → Stands t p (content r) × (split (drop (p + width r) t) ≡ rs)
      go (yes h) =
          let q : first_raw (drop p t) ∷ split (drop (p + width (first_raw (drop p t))) t) ≡ r ∷ rs = sym (split_at_place t p h) ∙ e in
          let x : first_raw (drop p t) ≡ r = cc in
          let y : split (drop (p + width (first_raw (drop p t))) t) ≡ rs = cc in
          let c : List ℕ = content (first_raw (drop p t)) in
          rw (← x) (record { rest = drop (length c) (drop p t); here = sym (take-append-drop (length c) (drop p t)) ∙ ap (λ (l : List ℕ). l ++ drop (length c) (drop p t)) (content-front (drop p t)) }, y)
      go (no h) =
          let q : split [] ≡ r ∷ rs = rw (drop_of_length-le t {i = p} (omega arith)) at e in
          absurd (let z : ◌≡◌ {A = ℕ} 0 1 = cc in omega arith)

  abbrev f : Span → List ℕ
  f = bytes_of t

  -- ---- what follows a line
  after-said : (x : Stepped Span) (y : Stepped (List ℕ)) → said_step f x ≡ y → (n p : ℕ) (j : Reading Span → Verdict Span) (k : Reading (List ℕ) → Verdict (List ℕ))
      → ((ρ : Reading Span) → said_verdict f (j ρ) ≡ k (said_reading f ρ)) → said_verdict f (after span_at x n p j) ≡ after bytes_at y n p k
  after-said (goes ρ) y e n p j k h = h ρ ∙ ap (λ (z : Stepped (List ℕ)). after bytes_at z n p k) e
  after-said (stops w) y e n p j k h = ap (λ (z : Stepped (List ℕ)). after bytes_at z n p k) e

  form_said : (p : ℕ) (l : List ℕ) → Stands t p l → (ρ : Reading Span) (g : Form) → form_of l ≡ g → said_step f (step_form span_at ρ p l g) ≡ step_form bytes_at (said_reading f ρ) p l g
  form_said p l w ρ (Ok None) e = refl
  form_said p l w ρ (Err x) e = refl
  form_said p l w ρ (Ok (Some c)) e =
      line-said f (drop 2 l) (span_at (p + 2) (drop 2 l)) (bytes_at (p + 2) (drop 2 l)) (piece_said (p + 2) (drop 2 l) (stands_drop p l w 2 (good_form l c e))) ρ c

  -- the lines after the version
  run-said : (rs : List Raw) (ρ : Reading Span) (n p : ℕ) → split (drop p t) ≡ rs → said_verdict f (run span_at ρ n p rs) ≡ run bytes_at (said_reading f ρ) n p rs
  unfolding reader.run
  run-said [] ρ n p e = refl
  run-said (r ∷ rs) ρ n p e =
      let w = first_stands p r rs e in
      after-said (step_form span_at ρ p (content r) (form_of (content r))) _ (form_said p (content r) w.0 ρ (form_of (content r)) refl) n (p + 2)
      (λ τ. run span_at τ (n + 1) (p + width r) rs) (λ τ. run bytes_at τ (n + 1) (p + width r) rs) (λ τ. run-said rs τ (n + 1) (p + width r) w.1)

  -- ---- the version line
  version-said : (n p : ℕ) (v : List ℕ) (c : ℕ) (k : Verdict Span) (k' : Verdict (List ℕ)) → said_verdict f k ≡ k' → said_verdict f (version span_at n p v c k) ≡ version bytes_at n p v c k'
  version-said n p v c k k' e = go (eqb c 0x76) (is_zero v)
    where
      go : (a b : Bool) → said_verdict f (cond a (cond b k (refused (bad_version n p (length v)))) (refused no_version)) ≡ cond a (cond b k' (refused (bad_version n p (length v)))) (refused no_version)
      go true true = e
      go true false = refl
      go false b = refl

  begin_form_said : (n p : ℕ) (l : List ℕ) (g : Form) (s k : Verdict Span) (s' k' : Verdict (List ℕ)) → said_verdict f s ≡ s' → said_verdict f k ≡ k' → said_verdict f (begin_form span_at n p l g s k) ≡ begin_form bytes_at n p l g s' k'
  begin_form_said n p l (Ok None) s k s' k' e q = e
  begin_form_said n p l (Err x) s k s' k' e q = refl
  begin_form_said n p l (Ok (Some c)) s k s' k' e q = version-said n (p + 2) (drop 2 l) c k k' q

  begin-said : (rs : List Raw) (n p : ℕ) → split (drop p t) ≡ rs → said_verdict f (begin span_at n p rs) ≡ begin bytes_at n p rs
  unfolding reader.begin
  begin-said [] n p e = refl
  begin-said (r ∷ rs) n p e =
      let w = first_stands p r rs e in
      begin_form_said n p (content r) (form_of (content r)) (begin span_at (n + 1) (p + width r) rs) (run span_at fresh (n + 1) (p + width r) rs) _ _ (begin-said rs (n + 1) (p + width r) w.1) (run-said rs fresh (n + 1) (p + width r) w.1)

  -- ---- a whole text
  pub lines-said : said_verdict (bytes_of t) (lines span_at t) ≡ lines bytes_at t
  unfolding reader.lines
  lines-said = begin-said (split t) 1 0 refl

  pub accepted_said : (s : Session Span) → lines span_at t ≡ accepted s → lines bytes_at t ≡ accepted (said (bytes_of t) s)
  accepted_said s e = sym lines-said ∙ ap (said_verdict (bytes_of t)) e

  pub refused-said : (x : Answer) → lines span_at t ≡ refused x → lines bytes_at t ≡ refused x
  refused-said x e = sym lines-said ∙ ap (said_verdict (bytes_of t)) e
