-- `sdp_starts::owns` meets its contract. Assumes nothing.
use Rattle.sdp_starts.specs.Fill.{owns_at}
use Rattle.sdp_cells.specs.Bytes.{num}
use mathlib.Core.Path.{◌≡◌}
use Prim.Native.Nat.{◌+◌, ◌*◌, ◌-◌, ◌≤◌, ◌<◌}
use Rattle.sdp_starts.proofs.owns.Given as goal

abbrev pub invariant-loop-i : goal.invariant-loop-i
invariant-loop-i l =
    (l.rows < 65536) × (l.p ≤ l.base + 2 + l.i * 40) × (l.i ≤ l.rows) × (owns_at l.area l.w l.n (num 2 l.area l.base) (l.base + 2) ≡ owns_at l.area l.w l.n (l.rows - l.i) l.p)
