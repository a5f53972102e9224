-- Document 01, "Lines", "Refusal numbers": what one line does to a reading, by what the cutter found. Document 02, P9: to the lines
-- of what was read; P11: and to the counts.
use Rattle.std.specs.Prelude.{◌≡◌, ℕ, ◌+◌, ◌≤◌, Bool, true, false, cond, List, ◌++◌, length, drop, ◌==◌, Option, Some, None, Result, Ok, Err}
use Rattle.sdp_numbers.specs.Refusals as refusals
use Rattle.sdp_numbers.specs.Refusals.{longest_text}
use Rattle.sdp_lines.specs.Strings.{bytes_of}
use Rattle.sdp_lines.specs.Answers.{fault_number}
use Rattle.sdp_lines.specs.declared.Span.{Span}
use Rattle.sdp_lines.specs.declared.Answer.{Answer}
use Rattle.sdp_cutter.specs.declared.Next.{Next}
use Rattle.sdp_cutter.specs.declared.Next.TheVariants.{Found, Empty, Refused, End}
use Rattle.sdp_judge.specs.declared.Wrong.{Wrong}
use Rattle.sdp_area.specs.Session.{Session, empty}
use Rattle.sdp_area.specs.Columns.{cells, area_size, area_of}
use Rattle.sdp_cells.specs.Tables.{pairs}
use Rattle.sdp_stamp.specs.Stamp.{no_stamps, stamped}
use Rattle.sdp_roles.specs.Kinds.{Kind, kind_of, by_kind}
use Rattle.sdp_strings.specs.Strings.{span_at}
use Rattle.sdp_step.specs.Step.{Reading, Stepped, goes, stops, step, fresh}
use Rattle.sdp_step.specs.Hold.{Holds, role_in}
use Rattle.sdp_step.specs.declared.Marks.{Marks}
use Rattle.sdp_counts.specs.declared.Counts.{Counts}
use Rattle.sdp_line.specs.Version.{answer, no_version, opening_of}
use Rattle.sdp_turn.specs.declared.State.{State}
use Rattle.sdp_turn.specs.declared.Failure.{Failure}
use Rattle.sdp_turn.specs.declared.Failure.TheVariants.{Stopped, Unread}

-- what the cutter found stands in the text
abbrev pub Inside : List ℕ → Next → Type 0
Inside s (Found n l v) = v.at.0 + v.len ≤ length s
Inside s Empty = Unit {0}
Inside s (Refused f n) = Unit {0}
Inside s End = Unit {0}

-- ---- what a text says
-- what reading a text says: a session, or the refusal
pub data Verdict (S : Type 0) : Type 0 where
  accepted : Session S → Verdict S
  refused : Answer → Verdict S

-- a refusal of a line: its number, and its field where it has one
abbrev pub on_line : {S : Type 0} → ℕ → ℕ → ℕ → Verdict S
on_line number line field = refused (answer number line field)

-- document 02, P2: "Refusal 8 now returns that place besides line and field"; the others name none
abbrev pub place_of : ℕ → ℕ → ℕ
place_of number place = cond (number == refusals.encoding) place 0

-- the refusal of the line n whose value stands at place p of the text: the place of the bad byte is one of the whole text
abbrev pub wrong_at : ℕ → ℕ → Wrong → Answer
wrong_at n p w = record { number = w.number; line = n; field = w.field; place = place_of w.number (p + w.at); len = 0 }

-- ---- counts
-- one empty line more
abbrev pub one_empty : Counts → Counts
one_empty c = record { empty = c.empty + 1; ignored = c.ignored; kept = c.kept }

-- one ignored line more
abbrev pub one_ignored : Counts → Counts
one_ignored c = record { empty = c.empty; ignored = c.ignored + 1; kept = c.kept }

-- one kept line more
abbrev pub one_kept : Counts → Counts
one_kept c = record { empty = c.empty; ignored = c.ignored; kept = c.kept + 1 }

-- a line of good form, by the kind of its role
abbrev pub one_of : Kind → Counts → Counts
one_of k c = by_kind k (one_ignored c) (one_kept c) (one_kept c)

-- ---- what a line does
-- where a reading stands: the version line is still looked for, or the session so far, with the lines of what it has; with the counts of the
-- lines so far
pub data Standing : Type 0 where
  searching : Counts → Standing
  reading : Reading Span → List ℕ → Counts → Standing

-- what a line does: the reading goes on, ends, or is refused, at a line after the version or where none was read
pub data Lined : Type 0 where
  on : Standing → Lined
  ended : Session Span → List ℕ → Counts → Lined
  stopped : Answer → Lined
  unread : Answer → Lined

-- the first line that is not empty
abbrev pub opened_to : Counts → Result (Unit {0}) Answer → Lined
opened_to c (Ok u) = on (reading fresh no_stamps (one_kept c))
opened_to c (Err x) = unread x

-- after the step of the line with number n, whose value stands at place p; x was the session before it and l its lines, c are the counts with it
abbrev pub stepped : ℕ → ℕ → Session Span → List ℕ → Counts → Stepped Span → Lined
stepped n p x l c (goes ρ) = on (reading ρ (stamped n x ρ.session l) c)
stepped n p x l c (stops w) = stopped (wrong_at n p w)

-- a line of good form, its number n, its letter l, its value v of the text s; ls are the lines of what the session has
abbrev pub good_line : List ℕ → Reading Span → List ℕ → Counts → ℕ → ℕ → Span → Lined
good_line s ρ ls c n l v =
    stepped n v.at.0 ρ.session ls (one_of (kind_of (role_in l ρ)) c) (step (span_at v.at.0 (bytes_of s v)) ρ (bytes_of s v) l)

-- by what the cutter found
abbrev pub line_of : List ℕ → Standing → Next → Lined
line_of s (searching c) (Found n l v) = opened_to c (opening_of n.0 v.at.0 l (bytes_of s v))
line_of s (searching c) Empty = on (searching (one_empty c))
line_of s (searching c) (Refused f n) = unread (answer (fault_number f) n.0 0)
line_of s (searching c) End = unread no_version
line_of s (reading ρ ls c) (Found n l v) = good_line s ρ ls c n.0 l v
line_of s (reading ρ ls c) Empty = on (reading ρ ls (one_empty c))
line_of s (reading ρ ls c) (Refused f n) = stopped (answer (fault_number f) n.0 0)
line_of s (reading ρ ls c) End = ended ρ.session ls c

-- ---- the code's state
-- its marks
abbrev pub marks_in : State → Marks
marks_in g = record { named = g.named; zoned = g.zoned }

-- its counts
abbrev pub counts_in : State → Counts
counts_in g = record { empty = g.empty; ignored = g.ignored; kept = g.kept }

-- the lines so far
abbrev pub lines_in : State → ℕ
lines_in g = g.empty + g.ignored + g.kept

-- no more lines than a text has bytes
abbrev pub Few : State → Type 0
Few g = lines_in g ≤ longest_text

-- the state after an empty line
abbrev pub empty_more : State → State
empty_more g = record { named = g.named; zoned = g.zoned; begun = g.begun; empty = g.empty + 1; ignored = g.ignored; kept = g.kept }

-- after an ignored one
abbrev pub ignored_more : State → State
ignored_more g = record { named = g.named; zoned = g.zoned; begun = g.begun; empty = g.empty; ignored = g.ignored + 1; kept = g.kept }

-- after a kept one, which leaves the marks m; the first of these is the version line
abbrev pub kept_more : State → Marks → State
kept_more g m = record { named = m.named; zoned = m.zoned; begun = true; empty = g.empty; ignored = g.ignored; kept = g.kept + 1 }

-- ---- the code's answers
-- a reading goes on with a state; the lines are at their end, and the state before it has their counts; or the reading fails
abbrev pub Turn : Type 0
Turn = Option (Result State Failure)

-- a refusal, after the version line or before it
abbrev pub failure_of : Bool → Answer → Failure
failure_of true x = Stopped x
failure_of false x = Unread x

-- no line is left
abbrev pub end_turn : State → Turn
end_turn g = cond g.begun None (Some (Err (Unread no_version)))

-- the first line that is not empty, by what it says
abbrev pub opened_turn_to : State → Result (Unit {0}) Answer → Turn
opened_turn_to g (Ok u) = Some (Ok (kept_more g (marks_in g)))
opened_turn_to g (Err x) = Some (Err (Unread x))

-- a line of good form, as good_line
abbrev pub opened_turn : List ℕ → State → ℕ → ℕ → Span → Turn
opened_turn s g n l v = opened_turn_to g (opening_of n v.at.0 l (bytes_of s v))

-- ---- what the code holds
-- the state g and the area a hold the session ρ, its lines and the counts c, with t behind them
pub record Carries (begun : Bool) (ρ : Reading Span) (ls : List ℕ) (c : Counts) (g : State) (a t : List ℕ) : Type 0 where
  pub begun_is : g.begun ≡ begun
  pub holds : Holds ρ (marks_in g) a (pairs ls ++ t)
  pub lines : length ls ≡ cells
  pub counts : counts_in g ≡ c

-- before the version line the session is empty
abbrev pub Stands : Standing → State → List ℕ → List ℕ → Type 0
Stands (searching c) g a t = Carries false fresh no_stamps c g a t
Stands (reading ρ ls c) g a t = Carries true ρ ls c g a t

-- the code's answer for a line, where g was the state before it, and the area: after a refused line of a session only the bytes behind it
-- still count
abbrev pub Turned : Lined → State → Turn → List ℕ → List ℕ → Type 0
Turned (on x) g (Some (Ok h)) a t = Stands x h a t
Turned (on x) g None a t = ⊥
Turned (on x) g (Some (Err e)) a t = ⊥
Turned (ended s ls c) g (Some (Ok h)) a t = ⊥
Turned (ended s ls c) g None a t = (counts_in g ≡ c) × (a ≡ area_of s ls t)
Turned (ended s ls c) g (Some (Err e)) a t = ⊥
Turned (stopped x) g (Some (Ok h)) a t = ⊥
Turned (stopped x) g None a t = ⊥
Turned (stopped x) g (Some (Err (Stopped y))) a t = (y ≡ x) × (drop area_size a ≡ t)
Turned (stopped x) g (Some (Err (Unread y))) a t = ⊥
Turned (unread x) g (Some (Ok h)) a t = ⊥
Turned (unread x) g None a t = ⊥
Turned (unread x) g (Some (Err (Stopped y))) a t = ⊥
Turned (unread x) g (Some (Err (Unread y))) a t = (y ≡ x) × (a ≡ area_of empty no_stamps t)

-- whatever the state and the area held
abbrev pub Turns : (Standing → Lined) → State → Turn → List ℕ → List ℕ → Type 0
Turns f g r a a' = (x : Standing) (t : List ℕ) → Stands x g a t → Turned (f x) g r a' t

-- a reading that goes on has one line more
abbrev pub Counted : State → Turn → Type 0
Counted g (Some (Ok h)) = lines_in h ≡ lines_in g + 1
Counted g None = Unit {0}
Counted g (Some (Err e)) = Unit {0}

-- a line of good form after the version line
abbrev pub GoodTurns : List ℕ → ℕ → ℕ → Span → State → Turn → List ℕ → List ℕ → Type 0
GoodTurns s n l v g r a a' =
    ((ρ : Reading Span) (ls : List ℕ) (c : Counts) (t : List ℕ) → Carries true ρ ls c g a t → Turned (good_line s ρ ls c n l v) g r a' t) × Counted g r

-- a reading doesn't go on
abbrev pub Stays : Turn → Type 0
Stays (Some (Ok h)) = ⊥
Stays None = Unit {0}
Stays (Some (Err e)) = Unit {0}

-- a reading goes on only past a line
abbrev pub Passes : Next → State → Turn → Type 0
Passes (Found n l v) g r = Counted g r
Passes Empty g r = Counted g r
Passes (Refused f n) g r = Stays r
Passes End g r = Stays r
