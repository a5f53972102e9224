-- `sdp_order::ended` meets its contract. Assumes nothing.
use mathlib.Core.Path.{sym}
use Rattle.sdp_order.specs.Expression.{empty, maybe_empty}
use Rattle.sdp_order.proofs.FindLaws.{good_more}
use Rattle.sdp_order.proofs.ended.Goals as goal

pub returns-in-Ok-None : goal.returns-in-Ok-None
unfolding maybe_empty
returns-in-Ok-None c = sym ((rw c.in-Ok-None.field-0-is at c.in-Ok-None.ensures) empty)

pub returns-in-Ok-Some : goal.returns-in-Ok-Some
returns-in-Ok-Some c = sym (good_more _ _ _ _ (rw c.in-Ok-Some.field-0-is at c.in-Ok-Some.ensures))
