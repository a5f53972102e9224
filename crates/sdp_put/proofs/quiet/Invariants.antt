-- `sdp_put::quiet` meets its contract. The invariant: the first i bytes are above CR. Assumes nothing.
use Rattle.sdp_put.proofs.StringLaws as strings
use Rattle.sdp_put.proofs.ByteLaws.{every}
use lib.ListN.{length, take}
use mathlib.Core.Bool.{true}
use mathlib.Core.Path.{◌≡◌}
use Prim.Native.Nat.{◌-◌, ◌<◌}
use Rattle.sdp_put.proofs.quiet.Given as goal

abbrev pub invariant-loop-i : goal.invariant-loop-i
invariant-loop-i l = (l.n ≡ length l.s) × (l.i < l.n) × (every strings.quiet (take l.i l.s) ≡ true)

abbrev pub decreases-loop-i : goal.decreases-loop-i
decreases-loop-i l = l.n - l.i
