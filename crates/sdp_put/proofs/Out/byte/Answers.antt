-- `sdp_put::Out::byte` meets its contract. Assumes nothing.
use mathlib.Core.Path.{refl}
use Rattle.sdp_put.proofs.Out.byte.Goals as goal

pub returns : goal.returns
returns c = record { same = refl; put = c.byte_at-self.ensures }
