-- `sdp_put::Out::two` meets its contract. Assumes nothing.
use mathlib.Core.Path.{refl}
use Rattle.sdp_put.proofs.Out.two.Goals as goal

pub returns : goal.returns
returns c = record { same = refl; put = c.two_at-self.ensures }
