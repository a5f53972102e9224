-- `sdp_tables::put_attributes` meets its contract. Assumes nothing.
use Rattle.std.proofs.Common.{rules}
use Rattle.sdp_valid.proofs.CountedLaws.{attributes_inside}
use Rattle.sdp_tables.proofs.OwnerLaws.{attributes-rise}
use Rattle.sdp_decode.proofs.RowLaws.{each_rows}
use Rattle.sdp_put.proofs.PutsLaws.{said}
use Rattle.sdp_decode.specs.Decode.{attribute_of, decode}
use Rattle.sdp_tables.proofs.RowLaws.{captured}
use native.Mathlib.Omega.{arith}
use Rattle.sdp_tables.proofs.put_attributes.Goals as goal

pub returns : goal.returns
unfolding decode
returns c = said (each_rows _ attribute_of 12 _ _ _ _) c.put_mine_of.ensures

pub put_mine_of-requires : goal.put_mine_of-requires
put_mine_of-requires c = λ k h. (captured h.0 h.1.0, ((omega arith, attributes_inside _ c.requires.counted), (attributes-rise _ c.requires.area_value, (search rules, search rules))))
