-- `sdp_tables::put_closing` meets its contract. Assumes nothing.
use Rattle.sdp_put.proofs.PutsLaws.{◌then◌}
use Rattle.sdp_row.specs.Written.{closing_lines}
use Rattle.sdp_decode.specs.Decode.{decode}
use Rattle.sdp_tables.proofs.put_closing.Goals as goal

pub returns : goal.returns
unfolding closing_lines decode
returns c = c.put_zone_line.ensures then c.put_attributes.ensures
