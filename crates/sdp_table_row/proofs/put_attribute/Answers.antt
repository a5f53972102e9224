-- `sdp_table_row::put_attribute` meets its contract. Assumes nothing.
use Rattle.sdp_row.proofs.LineLaws.{in_line}
use Rattle.sdp_put.proofs.PutsLaws.{◌then◌}
use Rattle.sdp_row.specs.Written.{attribute_line}
use Rattle.sdp_table_row.proofs.put_attribute.Goals as goal

pub returns : goal.returns
unfolding attribute_line
returns c =
    in_line c.two.ensures (c.put_string.ensures then c.put_value.ensures) c.two-2.ensures
