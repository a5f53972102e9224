-- `sdp_valid::every_at` meets its contract. The invariant: the rows that are left give what all of them give. Assumes nothing.
use Rattle.sdp_valid.specs.Judge.{every_at}
use mathlib.Core.Path.{◌≡◌}
use Prim.Native.Nat.{◌+◌, ◌*◌, ◌-◌}
use Rattle.sdp_valid.proofs.every_at.Given as goal

abbrev pub invariant-loop-i : goal.invariant-loop-i
invariant-loop-i g l = every_at g.rule l.w l.n l.p ≡ every_at g.rule l.w (l.n - l.i) (l.p + l.i * l.w)
