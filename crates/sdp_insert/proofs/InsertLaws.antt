-- Lines put into a text leave its answer, but for the counts, the refused line's number and its bad byte's place. Assumes nothing.
use mathlib.Core.Path.{◌≡◌, refl, sym, ap, ◌∙◌}
use mathlib.Core.Logic.{◌⊎◌, inl, inr}
use mathlib.Core.List.{List}
use Prim.Native.Nat.{ℕ, ◌+◌, ◌≤◌, ◌<◌}
use native.Mathlib.Omega.{arith}
use borrow.Author.Tests.{lt-ltb}
use lib.ListN.{length}
use Rattle.sdp_numbers.specs.Refusals.{longest_text}
use Rattle.sdp_bytes.specs.Runs
use Rattle.sdp_lines.specs.Lines
use Rattle.sdp_lines.specs.Lines.{split, width}
use Rattle.sdp_lines.specs.Strings.{bytes_of}
use Rattle.sdp_lines.specs.declared.Span.{Span}
use Rattle.sdp_lines.specs.declared.Answer.{Answer}
use Rattle.sdp_area.specs.Session.{Session, empty}
use Rattle.sdp_area.specs.Columns.{area_size}
use Rattle.sdp_strings.specs.Strings.{span_at}
use Rattle.sdp_step.specs.Step.{fresh}
use Rattle.sdp_read.specs.Run
use Rattle.sdp_read.specs.Run.{Verdict, accepted, refused, untouched, begin, lines, read_text}
use Rattle.sdp_same.specs.Said.{bytes_at, said, said_verdict}
use Rattle.sdp_same.proofs.LinesLaws.{lines-said}
use Rattle.sdp_same.proofs.SoundLaws.{refusal_number}
use Rattle.sdp_same.proofs.SameLaws.{read_is}
use Rattle.sdp_insert.specs.Insert.{ended, Inserted, blank, begun, alone, above_from, above, bytes_from, bytes_above, SameSession, SameRefusal, SameAnswer}
use Rattle.sdp_insert.proofs.SplitLaws.{split-line}
use Rattle.sdp_insert.proofs.RunLaws.{Follows, follows_past, run_follows}
use Rattle.sdp_insert.proofs.RiseLaws.{text-rise}

-- ---- up to the version
begin_follows : {t t' : List ℕ} (i : Inserted t t') (n p : ℕ) → Follows n (above i) (bytes_above i) (begin bytes_at n p (split t)) (begin bytes_at n p (split t'))
unfolding Run.begin Run.run Lines.split Lines.content Lines.form_of Lines.has_nul_or_cr Lines.plain_form Runs.index_of
begin_follows (blank {t = t} {t' = t'} l h e i) n p =
    rw (split-line l t h, split-line l t' h, e)
    (follows_past n (above i) (above (blank l h e i)) (bytes_above i) (bytes_above (blank l h e i)) _ _ (λ k. refl) (λ k. refl) (begin_follows i (n + 1) (p + width (ended l))))
begin_follows (begun {t = t} {t' = t'} l h e i) n p =
    rw (split-line l t h, split-line l t' h, e)
    (follows_past n (λ k. 0 + above_from i k) (above (begun l h e i)) (λ k. 0 + bytes_from i k) (bytes_above (begun l h e i)) _ _ (λ k. omega arith) (λ k. omega arith)
    (let x : n + 1 + 0 ≡ n + 1 = omega arith in
    let y : p + width (ended l) + 0 ≡ p + width (ended l) = omega arith in
    rw (x, y) at (run_follows i fresh refl (n + 1) 0 (p + width (ended l)) 0)))
begin_follows alone n p = inl (record { session = empty; first = refl; second = refl })

-- strings as bytes
pub lines_follow : {t t' : List ℕ} (i : Inserted t t') → Follows 1 (above i) (bytes_above i) (lines bytes_at t) (lines bytes_at t')
unfolding Run.lines
lines_follow i = begin_follows i 1 0

-- ---- strings as places again
module _ (t : List ℕ) where
  accepted_from : (s : Session (List ℕ)) → lines bytes_at t ≡ accepted s → (x : Session Span) × (lines span_at t ≡ accepted x) × (said (bytes_of t) x ≡ s)
  accepted_from s e = go (lines span_at t) refl (lines-said t ∙ e)
    where
      go : (r : Verdict Span) → lines span_at t ≡ r → said_verdict (bytes_of t) r ≡ accepted s → (x : Session Span) × (lines span_at t ≡ accepted x) × (said (bytes_of t) x ≡ s)
      go (accepted x) p q = (x, p, (cc))
      go (refused y) p q = absurd (let z : ◌≡◌ {A = ℕ} 0 1 = cc in omega arith)

  refused_from : (y : Answer) → lines bytes_at t ≡ refused y → lines span_at t ≡ refused y
  refused_from y e = go (lines span_at t) (lines-said t ∙ e)
    where
      go : (r : Verdict Span) → said_verdict (bytes_of t) r ≡ refused y → r ≡ refused y
      go (accepted x) q = absurd (let z : ◌≡◌ {A = ℕ} 0 1 = cc in omega arith)
      go (refused x) q = let z : x ≡ y = cc in ap refused z

  read_short : (a : List ℕ) → length a < area_size → read_text t a ≡ untouched a 2
  unfolding Run.read_text
  read_short a few = rw (lt-ltb (length a) area_size few)

-- ---- over the promise of read: "the same session, or the same refusal with its line moved down by the insertions above it", and
-- its place by their bytes
pub insertion : {t t' : List ℕ} (i : Inserted t t') → length t ≤ longest_text → length t' ≤ longest_text → (a a' : List ℕ) → SameAnswer i a a'
insertion {t} {t'} i short short' a a' = record {
  full = go (lines_follow i);
  short = λ few few'. record { read = read_short t a few; read' = read_short t' a' few' };
}
  where
    go : Follows 1 (above i) (bytes_above i) (lines bytes_at t) (lines bytes_at t') → area_size ≤ length a → area_size ≤ length a' → SameSession i a a' ⊎ SameRefusal i a a'
    go (inl h) room room' =
        let x = accepted_from t h.session h.first in
        let x' = accepted_from t' h.session h.second in
        let left = read_is t a short room _ x.1 in
        let left' = read_is t' a' short' room' _ x'.1 in
        inl (record {
          session = x.0;
          session' = x'.0;
          says = x.1;
          says' = x'.1;
          read = left;
          read' = left';
          said = x.2 ∙ sym x'.2;
          rise = rw (left, left') (text-rise i);
        })
    go (inr h) room room' =
        let x = refused_from t _ h.first in
        let x' = refused_from t' _ h.second in
        inr (record {
          number = h.number;
          field = h.field;
          k = h.k;
          place = h.place;
          refusal = refusal_number t _ x;
          read = read_is t a short room _ x;
          read' = read_is t' a' short' room' _ x';
        })
