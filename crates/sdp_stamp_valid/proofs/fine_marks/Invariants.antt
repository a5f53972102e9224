-- `sdp_stamp_valid::fine_marks` meets its contract. The invariant: the medias that are left give what all of them give. Assumes nothing.
use Rattle.sdp_stamp_valid.specs.Fine.{fine_marks}
use Rattle.sdp_cells.specs.Bytes.{num}
use Rattle.sdp_area.specs.Area.{medias_at}
use mathlib.Core.Path.{◌≡◌}
use Prim.Native.Nat.{◌+◌, ◌*◌, ◌-◌}
use Rattle.sdp_stamp_valid.proofs.fine_marks.Given as goal

abbrev pub invariant-loop-i : goal.invariant-loop-i
invariant-loop-i l =
    fine_marks l.area (num 2 l.area medias_at) l.mark l.at ≡ fine_marks l.area (l.n - l.i) (l.mark + l.i * 36) (l.at + l.i * 2)
