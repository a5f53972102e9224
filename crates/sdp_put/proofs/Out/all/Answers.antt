-- `sdp_put::Out::all` meets its contract. Assumes nothing.
use Rattle.sdp_put.proofs.OutLaws.{put_here}
use mathlib.Core.Path.{refl}
use native.Mathlib.Omega.{arith}
use Rattle.sdp_put.proofs.Out.all.Goals as goal

pub returns : goal.returns
returns c = record { same = refl; put = record { puts = λ l h. (rw c.copy.ensures (put_here _ _ _ _ (omega arith) (omega arith)), omega arith) } }
