-- `sdp_window::plus` meets its contract. Assumes nothing.
use native.Mathlib.Omega.{arith}
use Rattle.sdp_window.proofs.SumLaws.{sum_above, sum_at_lem}
use Rattle.sdp_window.proofs.plus.Goals as goal

pub returns-in-Some : goal.returns-in-Some
returns-in-Some c = sum_at_lem _ _ _ (omega (arith, c.in-Some.ensures)) (omega (arith, c.in-Some.ensures))

pub returns-in-None : goal.returns-in-None
returns-in-None c = sum_above _ _ (omega (arith, c.in-None.ensures))
