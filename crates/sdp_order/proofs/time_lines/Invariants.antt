-- `sdp_order::time_lines` meets its contract. Assumes nothing.
use Prim.Native.Nat.{◌-◌}
use mathlib.Core.Path.{◌≡◌}
use lib.ListN.{length}
use Rattle.sdp_order.specs.From.{run_from, from_repeats}
use Rattle.sdp_order.proofs.time_lines.Given as goal

abbrev pub invariant-loop-next : goal.invariant-loop-next
invariant-loop-next l = run_from l.text l.initial.c from_repeats ≡ run_from l.text l.c from_repeats

abbrev pub decreases-loop-next : goal.decreases-loop-next
decreases-loop-next l = length l.text - l.c.at.0
