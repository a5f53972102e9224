-- `sdp_split::rest_after` meets its contract. Assumes nothing.
use Rattle.sdp_split.proofs.SplitLaws.{rest_here, rest_past}
use Rattle.sdp_split.proofs.rest_after.Goals as goal

pub returns-then-e-v : goal.returns-then-e-v
returns-then-e-v c = rest_here _ _ c.if-e-v.true

pub returns : goal.returns
returns c = rest_past _ _ c.if-e-v.false
