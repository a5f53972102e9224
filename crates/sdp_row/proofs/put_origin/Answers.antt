-- `sdp_row::put_origin` meets its contract. Assumes nothing.
use Rattle.sdp_row.proofs.LineLaws.{in_line}
use Rattle.sdp_decode.proofs.CellLaws.{marked_none, marked_some}
use Rattle.sdp_put.proofs.PutsLaws.{said}
use Rattle.sdp_lines.specs.Strings.{bytes_of}
use Rattle.sdp_row.specs.Written.{line, origin_line}
use Rattle.sdp_decode.specs.Decode.{origin_of}
use mathlib.Core.Path.{sym, ap}
use Rattle.sdp_row.proofs.put_origin.Goals as goal

pub returns-then-get2-eq0 : goal.returns-then-get2-eq0
unfolding origin_line line
returns-then-get2-eq0 c =
    said (sym (ap (origin_line (bytes_of c.args.s.text.now)) (marked_none origin_of _ _ _ c.get2.ensures.0 c.if-get2-eq0.true))) c.all.ensures

pub returns : goal.returns
unfolding origin_line line
returns c =
    said (sym (ap (origin_line (bytes_of c.args.s.text.now)) (marked_some origin_of _ _ _ c.get2.ensures.0 c.if-get2-eq0.false))) (in_line c.two.ensures c.put_origin_value.ensures c.two-2.ensures)
