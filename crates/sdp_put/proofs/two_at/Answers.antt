-- `sdp_put::two_at` meets its contract. Assumes nothing.
use Rattle.sdp_put.proofs.OutLaws.{◌then◌}
use Rattle.sdp_put.proofs.two_at.Goals as goal

pub returns : goal.returns
returns c = c.byte_at-next.ensures then c.byte_at.ensures
