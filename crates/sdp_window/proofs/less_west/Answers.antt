-- `sdp_window::less_west` meets its contract. Assumes nothing.
use mathlib.Core.Path.{◌∙◌}
use native.Mathlib.Omega.{arith}
use Rattle.sdp_window.proofs.SumLaws.{sum_at_lem, sum_below, sum_same}
use Rattle.sdp_window.proofs.less_west.Goals as goal

pub returns-then-w-a : goal.returns-then-w-a
returns-then-w-a c = c.plus.ensures ∙ sum_same _ _ _ _ (omega arith)

pub returns-then-w-a-2 : goal.returns-then-w-a-2
returns-then-w-a-2 c = sum_at_lem _ _ _ (omega arith) (omega arith)

pub returns : goal.returns
returns c = sum_below _ _ _ (omega arith) (omega arith)
