-- Of the public functions that call a closure: for one rule that the closure obeys, the promise has one answer. docs/ONE-ANSWER.md has the
-- reason. Assumes nothing.
use mathlib.Core.Path.{◌≡◌}
use mathlib.Core.Bool.{Bool}
use mathlib.Core.List.{List}
use Prim.Native.Nat.{ℕ, ◌<◌}
use Rattle.sdp_valid.specs.Judge.{every_at}
use Rattle.sdp_room.specs.Room.{sum_rows}
use Rattle.sdp_one.proofs.OneLaws.{same}

pub sdp_valid_every_at : (rule : ℕ → Bool) (n w p : ℕ) (r r' : Bool) → r ≡ every_at rule w n p → r' ≡ every_at rule w n p → r ≡ r'
sdp_valid_every_at rule n w p r r' e f = same e f

pub sdp_room_sum_rows : (rule : ℕ → ℕ) (a : List ℕ) (base w r r' : ℕ)
    → (r ≡ sum_rows a rule base w) × (r < 27000000000)
    → (r' ≡ sum_rows a rule base w) × (r' < 27000000000)
    → r ≡ r'
sdp_room_sum_rows rule a base w r r' e f = same e.0 f.0
