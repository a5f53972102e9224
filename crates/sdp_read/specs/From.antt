-- Reading from a cursor on: what the functions promise that are lent the cutter.
use Rattle.std.specs.Prelude.{ℕ, ◌+◌, ◌≤◌, ◌≡◌, List, length, drop, Result, Ok, Err}
use Rattle.sdp_lines.specs.Lines.{split}
use Rattle.sdp_lines.specs.declared.Span.{Span}
use Rattle.sdp_lines.specs.declared.Cursor.{Cursor}
use Rattle.sdp_area.specs.Session.{empty}
use Rattle.sdp_area.specs.Columns.{area_size, area_of}
use Rattle.sdp_stamp.specs.Stamp.{no_stamps}
use Rattle.sdp_strings.specs.Strings.{span_at}
use Rattle.sdp_step.specs.Step.{Reading}
use Rattle.sdp_counts.specs.Count.{counts_of}
use Rattle.sdp_counts.specs.declared.Counts.{Counts}
use Rattle.sdp_cutter.specs.Cutter.{move_at}
use Rattle.sdp_turn.specs.Turn.{Standing, Lined, line_of}
use Rattle.sdp_turn.specs.declared.Failure.{Failure}
use Rattle.sdp_turn.specs.declared.Failure.TheVariants.{Stopped, Unread}
use Rattle.sdp_read.specs.Run.{Verdict, accepted, refused, run, begin, run_stamps, begin_stamps}

-- a cursor that cutting from the start leads to: a line takes a byte at least
pub record Reached (s : List ℕ) (c : Cursor) : Type 0 where
  pub inside : c.at.0 ≤ length s
  pub counted : c.line.0 ≤ c.at.0 + 1

-- the lines from a cursor on, after the version
unfoldable pub run_at : List ℕ → Reading Span → Cursor → Verdict Span
run_at s ρ c = run span_at ρ c.line.0 c.at.0 (split (drop c.at.0 s))

-- and before it
unfoldable pub begin_at : List ℕ → Cursor → Verdict Span
begin_at s c = begin span_at c.line.0 c.at.0 (split (drop c.at.0 s))

-- their counts
abbrev pub counts_at : List ℕ → Cursor → Counts
counts_at s c = counts_of (drop c.at.0 s)

-- the lines of what the session has, past the lines from a cursor on
unfoldable pub run_stamps_at : List ℕ → Reading Span → List ℕ → Cursor → List ℕ
run_stamps_at s ρ ls c = run_stamps span_at ρ ls c.line.0 c.at.0 (split (drop c.at.0 s))

-- and from one before the version line on
unfoldable pub begin_stamps_at : List ℕ → Cursor → List ℕ
begin_stamps_at s c = begin_stamps span_at c.line.0 c.at.0 (split (drop c.at.0 s))

-- what the line that stands at a cursor does to a reading
unfoldable pub line_at : List ℕ → Standing → Cursor → Lined
line_at s x c = line_of s x (move_at s c.at c.line).next

-- the answer for lines that say v and have the counts c, where ls are the lines of what was read, and the area: where the version is refused,
-- it is as it was
abbrev pub Ends : Verdict Span → List ℕ → Counts → Result Counts Failure → List ℕ → List ℕ → Type 0
Ends (accepted s) ls c (Ok d) a t = (d ≡ c) × (a ≡ area_of s ls t)
Ends (accepted s) ls c (Err e) a t = ⊥
Ends (refused x) ls c (Ok d) a t = ⊥
Ends (refused x) ls c (Err (Stopped y)) a t = (y ≡ x) × (drop area_size a ≡ t)
Ends (refused x) ls c (Err (Unread y)) a t = (y ≡ x) × (a ≡ area_of empty no_stamps t)

-- the same of the lines from a cursor on
abbrev pub EndsFrom : List ℕ → Cursor → Result Counts Failure → List ℕ → List ℕ → Type 0
EndsFrom s c r a t = Ends (begin_at s c) (begin_stamps_at s c) (counts_at s c) r a t
