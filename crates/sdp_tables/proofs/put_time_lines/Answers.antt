-- `sdp_tables::put_time_lines` meets its contract. Assumes nothing.
use Rattle.std.proofs.Common.{rules}
use Rattle.sdp_valid.proofs.CountedLaws.{repeats_inside}
use Rattle.sdp_tables.proofs.OwnerLaws.{repeats-rise}
use Rattle.sdp_decode.proofs.RowLaws.{each_rows}
use Rattle.sdp_put.proofs.PutsLaws.{◌then◌, said}
use Rattle.sdp_decode.specs.Decode.{repeat_of}
use Rattle.sdp_row.specs.Written.{time_lines}
use Rattle.sdp_tables.proofs.RowLaws.{captured}
use native.Mathlib.Omega.{arith}
use Rattle.sdp_tables.proofs.put_time_lines.Goals as goal

pub returns : goal.returns
unfolding time_lines
returns c = c.put_time_line.ensures then said (each_rows _ repeat_of 18 _ _ _ _) c.put_mine_of.ensures

pub put_mine_of-requires : goal.put_mine_of-requires
put_mine_of-requires c = λ k h. (captured h.0 h.1.0, ((omega arith, repeats_inside _ c.requires.counted), (repeats-rise _ c.requires.area_value, (search rules, search rules))))
