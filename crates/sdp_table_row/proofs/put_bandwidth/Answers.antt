-- `sdp_table_row::put_bandwidth` meets its contract. Assumes nothing.
use Rattle.sdp_row.proofs.LineLaws.{in_line}
use Rattle.sdp_put.proofs.PutsLaws.{◌then◌, said}
use Rattle.sdp_put.specs.Digits.{digits}
use Rattle.sdp_row.specs.Written.{bandwidth_line}
use mathlib.Core.Path.{ap}
use Rattle.sdp_table_row.proofs.put_bandwidth.Goals as goal

pub returns : goal.returns
unfolding bandwidth_line
returns c =
    in_line c.two.ensures (c.put_string.ensures then c.byte.ensures then said (ap digits c.get8.ensures) c.number.ensures) c.two-2.ensures
