-- What the promise of a function that takes a line says of the area at the exit: docs/ONE-ANSWER.md has the reason.
use Rattle.std.specs.Prelude.{List, ℕ, drop, Some, None, Result, Ok, Err}
use Rattle.sdp_area.specs.Area.{size}
use Rattle.sdp_area.specs.Columns.{area_size}
use Rattle.sdp_judge.specs.declared.Wrong.{Wrong}
use Rattle.sdp_turn.specs.Turn.{Turn}
use Rattle.sdp_turn.specs.declared.Failure.TheVariants.{Stopped, Unread}

-- a line that is not refused leaves all of the area, a refusal the bytes behind the session
abbrev pub seen : {X : Type 0} → Result X Wrong → List ℕ → List ℕ
seen (Ok m) a = a
seen (Err w) a = drop size a

-- the same of what a line does to a reading: a refusal leaves the bytes behind the session and its lines
abbrev pub seen_turn : Turn → List ℕ → List ℕ
seen_turn (Some (Ok g)) a = a
seen_turn None a = a
seen_turn (Some (Err (Stopped x))) a = drop area_size a
seen_turn (Some (Err (Unread x))) a = a
