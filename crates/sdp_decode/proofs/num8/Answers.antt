-- `sdp_decode::num8` meets its contract. Assumes nothing.
use Rattle.sdp_decode.proofs.CellLaws.{num-past}
use mathlib.Core.Path.{sym}
use Rattle.sdp_decode.proofs.num8.Goals as goal

pub returns-then-a-at : goal.returns-then-a-at
returns-then-a-at c = sym (num-past 8 _ _ c.if-a-at.true)
