-- `sdp_room::sum_rows` meets its contract. The invariant: what the rows that are left take is due. Assumes nothing.
use Rattle.sdp_room.specs.Room.{sum_at, sum_rows}
use mathlib.Core.Path.{◌≡◌}
use Prim.Native.Nat.{◌+◌, ◌*◌, ◌-◌, ◌≤◌}
use Rattle.sdp_room.proofs.sum_rows.Given as goal

abbrev pub invariant-loop-i : goal.invariant-loop-i
invariant-loop-i g l =
    (l.sum ≤ l.i * 400000) × (sum_rows l.area g.rule l.base l.w ≡ l.sum + sum_at g.rule l.w (l.n - l.i) (l.base + 2 + l.i * l.w))
