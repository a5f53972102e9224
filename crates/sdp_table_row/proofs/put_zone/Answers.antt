-- `sdp_table_row::put_zone` meets its contract. Assumes nothing.
use Rattle.sdp_put.proofs.PutsLaws.{◌then◌, said}
use Rattle.sdp_put.specs.Digits.{digits}
use Rattle.sdp_row.specs.Written.{signed_text, zone_text}
use mathlib.Core.Path.{ap}
use Rattle.sdp_table_row.proofs.put_zone.Goals as goal

pub returns : goal.returns
unfolding zone_text
returns c =
    c.put_between.ensures then said (ap digits c.get8.ensures) c.number.ensures then c.byte.ensures then said (ap signed_text c.get8-2.ensures) c.put_signed.ensures
