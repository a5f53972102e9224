-- `sdp_tables::put_times` meets its contract. Assumes nothing.
use Rattle.std.proofs.Common.{rules}
use Rattle.sdp_valid.proofs.CountedLaws.{times_inside}
use Rattle.sdp_decode.proofs.RowLaws.{each_rows}
use Rattle.sdp_tables.proofs.RowLaws.{captured, times_none, times_some}
use Rattle.sdp_put.proofs.PutsLaws.{said}
use Rattle.sdp_row.specs.Written.{line, time_lines}
use Rattle.sdp_decode.specs.Decode.{time_of}
use mathlib.Core.Path.{◌∙◌}
use Rattle.sdp_tables.proofs.put_times.Goals as goal

pub returns-then-get2-eq0 : goal.returns-then-get2-eq0
unfolding line
returns-then-get2-eq0 c = said (times_none _ _ _ _ c.get2.ensures.0 _ _ c.if-get2-eq0.true) c.all.ensures

pub returns : goal.returns
unfolding line
returns c = said (each_rows (time_lines _ _) time_of 16 _ _ _ _ ∙ times_some _ _ _ _ c.get2.ensures.0 _ _ c.if-get2-eq0.false) c.put_rows.ensures

pub put_rows-requires : goal.put_rows-requires
put_rows-requires c = λ k h. (captured h.0 h.1.0, (times_inside _ c.requires.counted, (search rules, search rules)))
