-- Document 01, "Lines", "Refusal numbers": a text, line by line. The runner alone knows a line's number and its place;
-- where both are plain numbers, the line's stands first.
use Rattle.std.specs.Prelude.{ℕ, ◌+◌, cond, List, [], ◌∷◌, ◌++◌, length, drop, ltb, eqb, Some, None, Ok, Err}
use Rattle.sdp_numbers.specs.Refusals as refusals
use Rattle.sdp_numbers.specs.Refusals.{longest_text}
use Rattle.sdp_lines.specs.Lines.{Raw, split, content, width, form_of, Form}
use Rattle.sdp_lines.specs.Answers.{fault_number}
use Rattle.sdp_lines.specs.declared.Span.{Span}
use Rattle.sdp_split.specs.declared.Piece.{Piece}
use Rattle.sdp_cells.specs.Bytes.{zeros}
use Rattle.sdp_area.specs.Columns.{area_size, area_of}
use Rattle.sdp_stamp.specs.Stamp.{no_stamps, stamped}
use Rattle.sdp_strings.specs.Strings.{span_at}
use Rattle.sdp_step.specs.Step.{Reading, Stepped, goes, stops, stop, step, fresh}
use Rattle.sdp_lines.specs.declared.Answer.{Answer}
use Rattle.sdp_counts.specs.Count.{counts_of, no_counts, from_version}
use Rattle.sdp_counts.specs.declared.Counts.{Counts}
use Rattle.sdp_read.specs.declared.Told.{Told}
-- the answers, the version line's value and what reading says are defined there
pub use Rattle.sdp_line.specs.Version.{answer, no_version, bad_version, is_zero}
pub use Rattle.sdp_turn.specs.Turn.{Verdict, accepted, refused, on_line, place_of, wrong_at}

-- at p v makes the strings of a line whose value is v and stands at place p
module _ {S : Type 0} (at : ℕ → List ℕ → Piece → S) where
  -- what follows a line with number n, whose value stands at place p
  abbrev pub after : Stepped S → ℕ → ℕ → (Reading S → Verdict S) → Verdict S
  after (goes ρ) n p k = k ρ
  after (stops w) n p k = refused (wrong_at n p w)

  -- a line by its form. "Empty lines are counted, then skipped"; 3, 4 and 5 have no field; the value starts at the third byte
  abbrev pub step_form : Reading S → ℕ → List ℕ → Form → Stepped S
  step_form ρ p l (Ok None) = goes ρ
  step_form ρ p l (Err f) = stop (fault_number f) 0
  step_form ρ p l (Ok (Some c)) = step (at (p + 2) (drop 2 l)) ρ (drop 2 l) c

  -- the lines after the version, from number n and place p on
  unfoldable pub run : Reading S → ℕ → ℕ → List Raw → Verdict S
  run ρ n p [] = accepted ρ.session
  run ρ n p (r ∷ rs) =
      after (step_form ρ p (content r) (form_of (content r))) n (p + 2) (λ τ. run τ (n + 1) (p + width r) rs)

  -- the version line with the letter c and the value v at place p, and what follows it
  abbrev pub version : ℕ → ℕ → List ℕ → ℕ → Verdict S → Verdict S
  version n p v c k = cond (eqb c 0x76) (cond (is_zero v) k (refused (bad_version n p (length v)))) (refused no_version)

  -- "The first non-empty line must have letter `v`, else 6, also when there is none; its own form refusal comes first."
  abbrev pub begin_form : ℕ → ℕ → List ℕ → Form → Verdict S → Verdict S → Verdict S
  begin_form n p l (Ok None) skip k = skip
  begin_form n p l (Err f) skip k = on_line (fault_number f) n 0
  begin_form n p l (Ok (Some c)) skip k = version n (p + 2) (drop 2 l) c k

  unfoldable pub begin : ℕ → ℕ → List Raw → Verdict S
  begin n p [] = refused no_version
  begin n p (r ∷ rs) =
      begin_form n p (content r) (form_of (content r)) (begin (n + 1) (p + width r) rs) (run fresh (n + 1) (p + width r) rs)

  -- a whole text: lines from 1, places from 0
  unfoldable pub lines : List ℕ → Verdict S
  lines s = begin 1 0 (split s)

  -- ---- document 02, P9: the lines of what the session has
  -- past a line with number n; ρ was the session before it, and ls the lines of what it had
  abbrev pub stamps_after : Stepped S → Reading S → ℕ → List ℕ → (Reading S → List ℕ → List ℕ) → List ℕ
  stamps_after (goes τ) ρ n ls k = k τ (stamped n ρ.session τ.session ls)
  stamps_after (stops w) ρ n ls k = ls

  -- past the lines after the version, as run
  unfoldable pub run_stamps : Reading S → List ℕ → ℕ → ℕ → List Raw → List ℕ
  run_stamps ρ ls n p [] = ls
  run_stamps ρ ls n p (r ∷ rs) =
      stamps_after (step_form ρ p (content r) (form_of (content r))) ρ n ls (λ τ ks. run_stamps τ ks (n + 1) (p + width r) rs)

  -- past all lines, as begin: the version line leaves no record
  unfoldable pub begin_stamps : ℕ → ℕ → List Raw → List ℕ
  begin_stamps n p [] = no_stamps
  begin_stamps n p (r ∷ rs) =
      from_version (form_of (content r)) (begin_stamps (n + 1) (p + width r) rs) (run_stamps fresh no_stamps (n + 1) (p + width r) rs)

-- of a whole text
abbrev pub stamps_of : List ℕ → List ℕ
stamps_of s = begin_stamps span_at 1 0 (split s)

-- ---- the promise of read
pub record Outcome : Type 0 where
  pub answer : Answer
  pub counts : Counts
  pub area : List ℕ

-- "Any other reading refusal: area all zero. Area bytes beyond the stated size always stay as found." Document 02, P11: "An accepted reading
-- also returns three counts"; "A refusal returns zeros." P9: each record "carries the line it was read from".
abbrev pub outcome_of : List ℕ → List ℕ → Verdict Span → Outcome
outcome_of s a (accepted x) = record { answer = answer 0 0 0; counts = counts_of s; area = area_of x (stamps_of s) (drop area_size a) }
outcome_of s a (refused x) = record { answer = x; counts = no_counts; area = zeros area_size ++ drop area_size a }

-- "Area too short or text too long: area unchanged"
abbrev pub untouched : List ℕ → ℕ → Outcome
untouched a number = record { answer = answer number 0 0; counts = no_counts; area = a }

-- "Order: 2, 1, then line by line"
unfoldable pub read_text : List ℕ → List ℕ → Outcome
read_text s a =
    cond (ltb (length a) area_size) (untouched a refusals.area_too_short)
    (cond (ltb longest_text (length s)) (untouched a refusals.text_too_long)
    (outcome_of s a (lines span_at s)))

-- what is returned of it
abbrev pub told_of : Outcome → Told
told_of o = record { answer = o.answer; counts = o.counts }
