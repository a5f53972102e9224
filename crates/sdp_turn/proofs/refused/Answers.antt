-- `sdp_turn::refused` meets its contract. Assumes nothing.
use Rattle.sdp_turn.proofs.refused.Goals as goal

pub returns-then-begun : goal.returns-then-begun
returns-then-begun c = rw c.if-begun.true

pub returns : goal.returns
returns c = rw c.if-begun.false
