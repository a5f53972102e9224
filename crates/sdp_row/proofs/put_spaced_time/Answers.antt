-- `sdp_row::put_spaced_time` meets its contract. Assumes nothing.
use Rattle.sdp_put.proofs.PutsLaws.{◌then◌}
use Rattle.sdp_row.proofs.put_spaced_time.Goals as goal

pub returns : goal.returns
returns c = c.byte.ensures then c.time.ensures
