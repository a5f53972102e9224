-- `sdp_tables::put_medias` meets its contract. Assumes nothing.
use Rattle.std.proofs.Common.{rules}
use Rattle.sdp_valid.proofs.CountedLaws.{medias_inside}
use Rattle.sdp_decode.proofs.RowLaws.{each_rows}
use Rattle.sdp_put.proofs.PutsLaws.{said}
use Rattle.sdp_decode.specs.Decode.{media_of, decode}
use Rattle.sdp_tables.proofs.RowLaws.{captured}
use Rattle.sdp_tables.proofs.put_medias.Goals as goal

pub returns : goal.returns
unfolding decode
returns c = said (each_rows _ media_of 36 _ _ _ _) c.put_rows.ensures

pub put_rows-requires : goal.put_rows-requires
put_rows-requires c = λ k h. (captured h.0 h.1.0, (medias_inside _ c.requires.counted, (search rules, search rules)))
