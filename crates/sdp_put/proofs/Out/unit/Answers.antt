-- `sdp_put::Out::unit` meets its contract. Assumes nothing.
use Rattle.sdp_put.proofs.PutsLaws.{◌then◌}
use Rattle.sdp_put.proofs.Out.unit.Goals as goal

pub returns : goal.returns
returns c = c.number.ensures then c.byte.ensures
