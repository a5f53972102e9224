-- `sdp_window::plus_east` meets its contract. Assumes nothing.
use native.Mathlib.Omega.{arith}
use Rattle.sdp_window.proofs.SumLaws.{sum_above}
use Rattle.sdp_window.proofs.plus_east.Goals as goal

pub returns-in-None : goal.returns-in-None
returns-in-None c = sum_above _ _ (omega (arith, c.in-None.ensures))
