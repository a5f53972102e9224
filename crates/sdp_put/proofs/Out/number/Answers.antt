-- `sdp_put::Out::number` meets its contract. Assumes nothing.
use mathlib.Core.Path.{refl}
use Rattle.sdp_put.proofs.Out.number.Goals as goal

pub returns : goal.returns
returns c = record { same = refl; put = c.number_at-self.ensures }
