-- `sdp_valid::rising` meets its contract. The invariant: the rows that are left give what all of them give. Assumes nothing.
use Rattle.sdp_valid.specs.Judge.{rising}
use Rattle.sdp_cells.specs.Bytes.{num}
use mathlib.Core.Path.{◌≡◌}
use Prim.Native.Nat.{◌+◌, ◌*◌, ◌-◌}
use Rattle.sdp_valid.proofs.rising.Given as goal

abbrev pub invariant-loop-i : goal.invariant-loop-i
invariant-loop-i l =
    rising l.area l.w l.most (num 2 l.area l.base) l.low (l.base + 2) ≡ rising l.area l.w l.most (l.n - l.i) l.lo (l.base + 2 + l.i * l.w)
