-- `sdp_window::zoned` meets its contract. Assumes nothing.
use mathlib.Core.Path.{◌∙◌}
use native.Mathlib.Omega.{arith}
use Rattle.sdp_window.proofs.SumLaws.{to_east, to_west}
use Rattle.sdp_window.proofs.zoned.Goals as goal

pub returns-then-z-ge-LEAST : goal.returns-then-z-ge-LEAST
returns-then-z-ge-LEAST c = c.less_west.ensures ∙ to_west _ _ _ c.if-z-ge-LEAST.true (omega arith)

pub returns : goal.returns
returns c = c.plus_east.ensures ∙ to_east _ _ c.if-z-ge-LEAST.false
