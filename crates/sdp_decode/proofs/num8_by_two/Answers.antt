-- `sdp_decode::num8_by_two` meets its contract. Assumes nothing.
use Rattle.sdp_cells.proofs.ByteLaws.{num_eight}
use Rattle.sdp_decode.proofs.CellLaws.{num-past}
use mathlib.Core.Path.{sym}
use native.Mathlib.Omega.{arith}
use Rattle.sdp_decode.proofs.num8_by_two.Goals as goal

pub returns-then-a-at : goal.returns-then-a-at
returns-then-a-at c = sym (num-past 8 _ _ c.if-a-at.true)

pub returns : goal.returns
returns c = omega (arith, num_eight c.args.a.now c.args.at)
