-- `sdp_window::add_mod` meets its contract. Assumes nothing.
use native.Mathlib.Omega.{arith}
use Rattle.sdp_window.proofs.RunLaws.{mod_under, mod_over}
use Rattle.sdp_window.proofs.add_mod.Goals as goal

pub returns-then-a-d : goal.returns-then-a-d
returns-then-a-d c = mod_under _ _ _ (omega arith)

pub returns : goal.returns
returns c = mod_over _ _ _ (omega arith) (omega arith) (omega arith)
