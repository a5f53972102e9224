-- What the functions of this crate do to a list that is being made: it stands in three columns, and n is how many starts it has, 257 for
-- more than 256.
use Rattle.std.specs.Prelude.{Result, Ok, Err, ℕ, zero, suc, ◌+◌, ◌≤◌, ◌≡◌, Bool, false, cond, ◌||◌, List, [], length, ltb, eqb}
use Rattle.sdp_numbers.specs.Refusals.{most_starts}
use Rattle.sdp_cells.specs.Bytes.{num}
use Rattle.sdp_area.specs.Session.{Time, Repeat}
use Rattle.sdp_decode.specs.Decode.{times_in, repeats_in, offsets_in, zones_in}
use Rattle.sdp_hours.specs.Hours.{repeated}
use Rattle.sdp_hours.specs.Listing.{Start, into}
use Rattle.sdp_hours.specs.Starts.{numbered, of_repeat, of_time, starts_of}
use Rattle.sdp_window.specs.Parts.{until, steps_for, segment_from}
use Rattle.sdp_window.specs.declared.Series.{Series}
use Rattle.sdp_window.specs.declared.Part.{Part}
use Rattle.sdp_window.specs.declared.Window.{Window}
use Rattle.sdp_listing.specs.Columns.{Columns, columns_of, held}
use Rattle.sdp_listing.specs.declared.Whose.{Whose}
use Rattle.sdp_listing.specs.declared.Listing.{Listing}
use Rattle.sdp_starts.specs.declared.Rule.{Rule}

-- as far as 257
unfoldable pub capped : ℕ → ℕ
capped n = cond (ltb most_starts n) (most_starts + 1) n

-- room for so many starts in each column
pub record Roomy (c : Columns) : Type 0 where
  pub ats : length c.ats ≡ most_starts
  pub times : length c.times ≡ most_starts
  pub repeats : length c.repeats ≡ most_starts

-- the list l stands in the columns, as far as it fits
pub record Holds (c : Columns) (n : ℕ) (l : List Start) : Type 0 where
  pub count : n ≡ capped (length l)
  pub held : length l ≤ most_starts → c ≡ columns_of most_starts l

-- whatever list stood there, xs are put into it
pub record Fills (c : Columns) (n : ℕ) (xs : List Start) (c' : Columns) (n' : ℕ) : Type 0 where
  pub roomy : Roomy c → Roomy c'
  pub holds : (l : List Start) → Holds c n l → Holds c' n' (into l xs)

-- the count of an answer: 257 for more than 256
abbrev pub counted : {E : Type 0} → Result (Unit {0}) E → ℕ → ℕ
counted (Ok u) n = n
counted (Err e) n = most_starts + 1

-- the same of a list that is lent and what the function answers
abbrev pub Puts : {E : Type 0} → Listing → List Start → Listing → Result (Unit {0}) E → Type 0
Puts a xs b r = Fills (held a) a.len xs (held b) (counted r b.len)

-- ---- owners
-- one of n rows of w bytes each, from p on, belongs to k: a row begins with its owner
unfoldable pub owns_at : List ℕ → ℕ → ℕ → ℕ → ℕ → Bool
owns_at a w k zero p = false
owns_at a w k (suc n) p = eqb (num 2 a p) k || owns_at a w k n (p + w)

-- ---- what each function lists
-- a series in a part of the line of time
unfoldable pub part_of : Whose → Series → Part → Window → List Start
part_of x s p w =
    numbered x.time x.repeat
    (segment_from s.interval p.after p.end p.zone w.from w.to (steps_for s.interval w.to) (s.start + s.offset))

-- the part of it before the adjustment time a
unfoldable pub before_of : Whose → Series → Part → ℕ → Window → List Start
before_of x s p a w =
    numbered x.time x.repeat
    (cond (eqb a 0) []
    (segment_from s.interval p.after (until p.end a) p.zone w.from w.to (steps_for s.interval w.to) (s.start + s.offset)))

-- a repeat with the offset o, over all zones of the area a
unfoldable pub series_of : List ℕ → Whose → Rule → ℕ → Window → List Start
series_of a x u o w =
    numbered x.time x.repeat (repeated u.start u.stop u.interval o (zones_in a) w.from w.to)

-- whose the starts of repeat j of time i are
abbrev pub whose_by : ℕ → ℕ → Whose
whose_by i j = record { time = i; repeat = j }

-- a time of two numbers
abbrev pub time_for : ℕ → ℕ → Time
time_for start stop = record { start_time = start; stop_time = stop }

-- the time of a rule, and its repeat
abbrev pub time_by : Rule → Time
time_by u = time_for u.start u.stop

abbrev pub repeat_by : ℕ → Rule → Repeat
repeat_by i u = record { owner = i; repeat_interval = u.interval; active_duration = 0 }

-- over the tables of the area a: repeat j of time i, time i, all times
abbrev pub repeat_in : List ℕ → Window → ℕ → Time → ℕ → Repeat → List Start
repeat_in a w i t j r = of_repeat (repeats_in a) (offsets_in a) (zones_in a) w.from w.to i t j r

abbrev pub time_in : List ℕ → Window → ℕ → Time → List Start
time_in a w i t = of_time (repeats_in a) (offsets_in a) (zones_in a) w.from w.to i t

abbrev pub found_in : List ℕ → Window → List Start
found_in a w = starts_of (repeats_in a) (offsets_in a) (zones_in a) w.from w.to (times_in a)
