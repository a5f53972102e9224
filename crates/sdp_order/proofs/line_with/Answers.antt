-- `sdp_order::line_with` meets its contract. Assumes nothing.
use Rattle.sdp_order.proofs.FindLaws.{finds_one, finds_bad, finds_end}
use Rattle.sdp_order.proofs.line_with.Goals as goal

pub returns-in-Ok-Some : goal.returns-in-Ok-Some
returns-in-Ok-Some c = rw c.then_some.ensures (finds_one _ _ _ _ _ (rw c.in-Ok-Some.field-0-is at c.in-Ok-Some.ensures))

pub returns-in-Ok-None : goal.returns-in-Ok-None
returns-in-Ok-None c = finds_end _ _ _ (rw c.in-Ok-None.field-0-is at c.in-Ok-None.ensures)

pub returns-in-Err : goal.returns-in-Err
returns-in-Err c = finds_bad _ _ _ c.in-Err.field-0 c.in-Err.ensures
