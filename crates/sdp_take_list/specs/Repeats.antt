-- An r line while its offsets are read: whether all of its records fitted so far.
use Rattle.std.specs.Prelude.{ℕ, ◌+◌, ◌≤◌, ◌<◌, ◌≡◌, cond, List, [], ◌++◌, eqb, length, drop, Option, Some, None, Result, Ok, Err}
use Rattle.sdp_numbers.specs.Refusals as refusals
use Rattle.sdp_numbers.specs.Tables as tables
use Rattle.sdp_numbers.specs.Tables.{most_repeats, most_offsets}
use Rattle.sdp_lines.specs.declared.Span.{Span}
use Rattle.sdp_split.specs.Split.{words_at}
use Rattle.sdp_judge.specs.Read.{Read, plain}
use Rattle.sdp_lists.specs.Lists.{offsets_of}
use Rattle.sdp_area.specs.Session.{Repeat, Session}
use Rattle.sdp_area.specs.Area.{encode, size}
use Rattle.sdp_cells.specs.declared.Full.{Full}
use Rattle.sdp_step.specs.Step.{Reading, Stepped, stops, with_repeat, repeat_taken}
use Rattle.sdp_step.specs.Hold.{Holds, Handled}
use Rattle.sdp_step.specs.declared.Marks.{Marks}
use Rattle.sdp_take_list.specs.declared.Lacking.{Lacking}
use Rattle.sdp_take_list.specs.declared.Lacking.TheVariants.{Repeats, Offsets}
use Rattle.sdp_judge.specs.declared.Wrong.{Wrong}

-- the latest of n times
abbrev pub latest_of : ℕ → Option ℕ
latest_of n = cond (eqb n 0) None (Some n)

-- whether all fitted so far, or which table is full
abbrev pub Room : Type 0
Room = Result (Unit {0}) Lacking

-- the refusal
abbrev pub full_table : Lacking → Wrong
full_table Repeats = plain refusals.table_full tables.repeats
full_table Offsets = plain refusals.table_full tables.offsets

-- the room after the repeat was pushed
abbrev pub repeat_room : Result (Unit {0}) Full → Room
repeat_room (Ok _) = Ok tt
repeat_room (Err _) = Err Repeats

-- the same of an offset
abbrev pub offset_room : Result (Unit {0}) Full → Room
offset_room (Ok _) = Ok tt
offset_room (Err _) = Err Offsets

-- an offset is pushed only where all fitted so far
abbrev pub room_after : Room → Result (Unit {0}) Full → Room
room_after (Ok _) p = offset_room p
room_after (Err x) p = Err x

-- what is told after all offsets were read
abbrev pub offsets_told : Room → Marks → Result Marks Wrong
offsets_told (Ok _) m = Ok m
offsets_told (Err x) m = Err (full_table x)

-- the area a becomes b only where all fitted so far
abbrev pub area_after : Room → List ℕ → List ℕ → List ℕ
area_after (Ok _) a b = b
area_after (Err x) a b = a

-- what the area holds after the offsets ns
abbrev pub RoomHolds : Session Span → Repeat → List ℕ → Room → List ℕ → List ℕ → Type 0
RoomHolds s q ns (Ok _) a t =
    (length s.tables.repeats < most_repeats) × (length s.tables.offsets + length ns ≤ most_offsets) × (a ≡ encode (with_repeat s q ns) ++ t)
RoomHolds s q ns (Err Repeats) a t = (most_repeats ≤ length s.tables.repeats) × (drop size a ≡ t)
RoomHolds s q ns (Err Offsets) a t =
    (length s.tables.repeats < most_repeats) × (most_offsets < length s.tables.offsets + length ns) × (drop size a ≡ t)

-- the step of an r line whose repeat is q
abbrev pub offsets_step : Reading Span → Repeat → Read (List ℕ) → Stepped Span
offsets_step ρ q (Err w) = stops w
offsets_step ρ q (Ok ns) = repeat_taken ρ q ns

-- what taking the offsets promises. a₀ held the session before the line
abbrev pub TakesOffsets : List ℕ → ℕ → ℕ → Room → Marks → Result Marks Wrong → List ℕ → List ℕ → Type 0
TakesOffsets v from owner first m r a a' =
    (ρ : Reading Span) (q : Repeat) (a₀ t : List ℕ) → Holds ρ m a₀ t → owner ≡ length ρ.session.tables.repeats + 1
    → RoomHolds ρ.session q [] first a t → Handled (offsets_step ρ q (offsets_of v (words_at v from))) r a' t
