-- `sdp_order::maybe` meets its contract. Assumes nothing.
use Rattle.sdp_order.proofs.PassLaws.{maybe_or}
use Rattle.sdp_order.proofs.maybe.Goals as goal

pub returns : goal.returns
returns c = λ y b. rw c.unwrap_or.ensures (maybe_or _ _ _ y b _ c.line_with.ensures)
