-- The area that reading leaves is written, and says the session that was read. Assumes nothing.
use Prim.Native.Nat.{ℕ, ◌≤◌}
use native.Mathlib.Omega.{arith}
use mathlib.Core.Path.{◌≡◌, refl, sym, ap, ◌∙◌}
use mathlib.Core.Logic.{◌⊎◌, inl, inr}
use mathlib.Core.Bool.{Bool, true, false, cond}
use mathlib.Core.List.{List, [], ◌∷◌, ◌++◌}
use Rattle.std.specs.Prelude.{Option, Some, None}
use borrow.Author.Tests.{le-ltb, ltb-false}
use lib.Dec.{ltb}
use lib.ListN.{length, drop}
use Rattle.sdp_put.specs.Strings as strings
use Rattle.sdp_lines.specs.Strings.{bytes_of}
use Rattle.sdp_lines.specs.declared.Span.{Span}
use Rattle.sdp_area.specs.Session.{Session}
use Rattle.sdp_area.specs.Area.{encode}
use Rattle.sdp_area.specs.Columns.{area_size, area_of}
use Rattle.sdp_strings.specs.Strings.{span_at}
use Rattle.sdp_read.specs.Run as reader
use Rattle.sdp_read.specs.Run.{Verdict, accepted, refused, outcome_of, untouched, lines, stamps_of, read_text}
use Rattle.sdp_decode.specs.Rows.{each}
use Rattle.sdp_row.specs.Written as form
use Rattle.sdp_row.specs.Written.{line, origin_line, name_line, string_line, optional, head_lines, contact_lines, closing_lines, media_lines, written}
use Rattle.sdp_stamp_valid.specs.Fine.{fine_lines}
use Rattle.sdp_unfit.specs.Unfit.{unfit}
use Rattle.sdp_unfit.proofs.UnfitLaws.{fit}
use Rattle.sdp_write.specs.Write as writer
use Rattle.sdp_write.specs.Write.{Outcome, text_of, length_text, fill, fill_text}
use Rattle.sdp_same.specs.Fits.{name_of, named}
use Rattle.sdp_same.specs.Sound.{FineIn, Sound}
use Rattle.sdp_same.specs.Same.{ReadThenWritten, filled}
use Rattle.sdp_same.proofs.DecodeLaws.{decode-encode}
use Rattle.sdp_same.proofs.SoundLaws.{read_sound, refusal_number}
use Rattle.sdp_same.proofs.JudgeLaws.{fine_room, well_formed_lem}
use Rattle.sdp_same.proofs.ColumnLaws.{lines_full, lines_fine}

-- ---- no name is written as an empty one
module _ (t : List ℕ) where
  name_same : (o : Option Span) → name_line (bytes_of t) (Some (name_of o)) ≡ name_line (bytes_of t) o
  unfolding strings.clean
  name_same None = refl
  name_same (Some x) = refl

  head_same : (s : Session Span) → head_lines (bytes_of t) (named s).head ≡ head_lines (bytes_of t) s.head
  unfolding form.head_lines
  head_same s =
      ap (λ (l : List ℕ). line 0x76 (0x30 ∷ []) ++ (origin_line (bytes_of t) s.head.origin ++ (l ++ (optional (string_line (bytes_of t) 0x69) s.head.description ++ optional (string_line (bytes_of t) 0x75) s.head.uri))))
      (name_same s.head.name)

  written_same : (s : Session Span) → written (bytes_of t) (named s) ≡ written (bytes_of t) s
  unfolding form.written form.contact_lines form.closing_lines
  written_same s =
      ap (λ (l : List ℕ). l ++ (contact_lines (bytes_of t) s ++ (closing_lines (bytes_of t) s ++ each (media_lines (bytes_of t) s.tables) 1 s.tables.medias))) (head_same s)

-- ---- the writer's answer where it judges the session well
fill-answer : (w o : List ℕ) → ((fill w o).answer.number ≡ 0) ⊎ ((fill w o).answer.number ≡ 22)
fill-answer w o = go (ltb (length o) (length w))
  where
    go : (b : Bool) → let r : Outcome = cond b (record { answer = writer.answer 22 (length w); out = o }) (record { answer = writer.answer 0 (length w); out = w ++ drop (length w) o }) in (r.answer.number ≡ 0) ⊎ (r.answer.number ≡ 22)
    go true = inr refl
    go false = inl refl

-- ---- where the output has room
pub fills : (w o : List ℕ) → length w ≤ length o → fill w o ≡ filled w o
fills w o h = rw (le-ltb (length o) (length w) h)

-- ---- what reading leaves, by what the lines of the text say
module _ (t a : List ℕ) where
  pub read_is : length t ≤ 32768 → area_size ≤ length a → (r : Verdict Span) → lines span_at t ≡ r → read_text t a ≡ outcome_of t a r
  unfolding reader.read_text
  read_is short room r e = rw (le-ltb (length a) area_size room, le-ltb 32768 (length t) short, e)

  -- an accepted text is within the limit, and its area had room
  pub read_fits : (read_text t a).answer.number ≡ 0 → (length t ≤ 32768) × (area_size ≤ length a)
  unfolding reader.read_text
  read_fits = go (ltb (length a) area_size) (ltb 32768 (length t)) refl refl
    where
      result : Bool → Bool → reader.Outcome
      result b c = cond b (untouched a 2) (cond c (untouched a 1) (outcome_of t a (lines span_at t)))

      go : (b c : Bool) → ltb (length a) area_size ≡ b → ltb 32768 (length t) ≡ c → (result b c).answer.number ≡ 0 → (length t ≤ 32768) × (area_size ≤ length a)
      go true c p q n = absurd (let z : ◌≡◌ {A = ℕ} 2 0 = n in omega arith)
      go false true p q n = absurd (let z : ◌≡◌ {A = ℕ} 1 0 = n in omega arith)
      go false false p q n = (ltb-false 32768 (length t) q, ltb-false (length a) area_size p)

-- ---- and what writing makes of a sound session
module _ (t : List ℕ) (short : length t ≤ 32768) (s : Session Span) (sound : Sound (FineIn t) s) where
  text_is : (x : List ℕ) → text_of t (encode s ++ x) ≡ written (bytes_of t) s
  text_is x = ap (written (bytes_of t)) (decode-encode (FineIn t) (fine_room t short) s sound.fits x) ∙ written_same t s

  -- in an area of full size with fine lines
  module _ (x : List ℕ) (full : area_size ≤ length (encode s ++ x)) (fine : fine_lines (encode s ++ x) ≡ true) where
    fits : unfit t (encode s ++ x) ≡ 0
    fits = fit t (encode s ++ x) full short (well_formed_lem t short s sound x) fine

    pub length_is : length_text t (encode s ++ x) ≡ writer.answer 0 (length (written (bytes_of t) s))
    unfolding writer.length_text
    length_is = rw (fits, text_is x)

    pub write_is : (o : List ℕ) → fill_text t (encode s ++ x) o ≡ fill (written (bytes_of t) s) o
    unfolding writer.fill_text
    write_is o = rw (fits, text_is x)

  -- and in the one that reading leaves
  module _ (x : List ℕ) where
    pub left_length : length_text t (area_of s (stamps_of t) x) ≡ writer.answer 0 (length (written (bytes_of t) s))
    left_length = length_is _ (lines_full t short s x) (lines_fine t short s x sound)

    pub left_written : (o : List ℕ) → fill_text t (area_of s (stamps_of t) x) o ≡ fill (written (bytes_of t) s) o
    left_written = write_is _ (lines_full t short s x) (lines_fine t short s x sound)

  accepted_written : lines span_at t ≡ accepted s → (a o : List ℕ) → area_size ≤ length a → ReadThenWritten t a o
  accepted_written read a o h =
      let left = read_is t a short h (accepted s) read in
      let e : fill_text t (read_text t a).area o ≡ fill (written (bytes_of t) s) o = ap (λ r. fill_text t r.area o) left ∙ left_written (drop area_size a) o in
      record {
        session = s;
        read = read;
        text = ap (λ r. text_of t r.area) left ∙ text_is _;
        known = ap (λ r. length_text t r.area) left ∙ left_length (drop area_size a);
        outcome = e;
        answer = rw e (fill-answer (written (bytes_of t) s) o);
      }

-- ---- over the promises of read and write
pub read_then_write : (t a o : List ℕ) → (read_text t a).answer.number ≡ 0 → ReadThenWritten t a o
read_then_write t a o h = go (lines span_at t) refl (read_fits t a h)
  where
    go : (r : Verdict Span) → lines span_at t ≡ r → (length t ≤ 32768) × (area_size ≤ length a) → ReadThenWritten t a o
    go (accepted s) e f = accepted_written t f.0 s (read_sound t s e) e a o f.1
    go (refused x) e f =
        let z : x.number ≡ 0 = sym (ap (λ y. y.answer.number) (read_is t a f.0 f.1 (refused x) e)) ∙ h in
        absurd (omega (arith, refusal_number t x e))
