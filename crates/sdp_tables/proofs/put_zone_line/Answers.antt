-- `sdp_tables::put_zone_line` meets its contract. Assumes nothing.
use Rattle.std.proofs.Common.{rules}
use Rattle.sdp_valid.proofs.CountedLaws.{zones_inside}
use Rattle.sdp_row.proofs.LineLaws.{in_line}
use Rattle.sdp_decode.proofs.RowLaws.{each_rows}
use Rattle.sdp_tables.proofs.RowLaws.{captured, zones_none, zones_some}
use Rattle.sdp_put.proofs.PutsLaws.{said, nothing}
use Rattle.sdp_row.specs.Written.{zone_text}
use Rattle.sdp_decode.specs.Decode.{zone_of}
use Rattle.sdp_tables.proofs.put_zone_line.Goals as goal

pub returns-then-get2-eq0 : goal.returns-then-get2-eq0
returns-then-get2-eq0 c = said (zones_none _ _ _ _ c.get2.ensures.0 c.if-get2-eq0.true) (nothing _)

pub returns : goal.returns
returns c = said (zones_some _ _ _ _ c.get2.ensures.0 c.if-get2-eq0.false) (in_line c.two.ensures (said (each_rows zone_text zone_of 16 _ _ _ _) c.put_rows.ensures) c.two-2.ensures)

pub put_rows-requires : goal.put_rows-requires
put_rows-requires c = λ k h. (captured h.0 h.1.0, (zones_inside _ c.requires, (search rules, search rules)))
