-- `sdp_order::many` meets its contract. Assumes nothing.
use Prim.Native.Nat.{◌-◌}
use mathlib.Core.Path.{◌≡◌}
use mathlib.Core.Bool.{false}
use lib.ListN.{length}
use Rattle.sdp_order.specs.Expression.{Expr, letter, ◌·◌, ◌*}
use Rattle.sdp_order.specs.From.{begins, Passes}
use Rattle.sdp_order.proofs.many.Given as goal

abbrev pub invariant-loop-next : goal.invariant-loop-next
invariant-loop-next l =
    (y : Expr) → begins l.l y ≡ false → Passes l.text (letter l.l * · y) (letter l.l * · y) l.initial.c l.c

abbrev pub decreases-loop-next : goal.decreases-loop-next
decreases-loop-next l = length l.text - l.c.at.0
