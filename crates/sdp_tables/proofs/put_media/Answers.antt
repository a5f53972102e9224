-- `sdp_tables::put_media` meets its contract. Assumes nothing.
use Rattle.std.proofs.Common.{rules}
use Rattle.sdp_valid.proofs.CountedLaws.{connections_inside}
use Rattle.sdp_tables.proofs.OwnerLaws.{connections-rise}
use Rattle.sdp_decode.proofs.RowLaws.{each_rows}
use Rattle.sdp_put.proofs.PutsLaws.{◌then◌, said}
use Rattle.sdp_decode.specs.Decode.{media_connection_of, decode}
use Rattle.sdp_row.specs.Written.{media_lines}
use Rattle.sdp_tables.proofs.RowLaws.{captured}
use native.Mathlib.Omega.{arith}
use Rattle.sdp_tables.proofs.put_media.Goals as goal

pub returns : goal.returns
unfolding media_lines decode
returns c = c.put_media_line.ensures then c.put_maybe_line.ensures then said (each_rows _ media_connection_of 14 _ _ _ _) c.put_mine_of.ensures then c.put_bandwidths.ensures then c.put_attributes.ensures

pub put_mine_of-requires : goal.put_mine_of-requires
put_mine_of-requires c = λ k h. (captured h.0 h.1.0, ((omega arith, connections_inside _ c.requires.counted), (connections-rise _ c.requires.area_value, (search rules, search rules))))
