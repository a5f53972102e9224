-- `sdp_turn::at_end` meets its contract. Assumes nothing.
use Rattle.sdp_turn.proofs.at_end.Goals as goal

pub returns-then-state : goal.returns-then-state
returns-then-state c = rw c.if-state.true

pub returns : goal.returns
returns c = rw (c.if-state.false, c.plain.ensures)
