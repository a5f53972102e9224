-- `sdp_row::put_username` meets its contract. Assumes nothing.
use Rattle.sdp_decode.proofs.CellLaws.{marked_none, marked_some}
use Rattle.sdp_put.proofs.PutsLaws.{said}
use Rattle.sdp_lines.specs.Strings.{bytes_of}
use Rattle.sdp_row.specs.Written.{username_text}
use Rattle.sdp_decode.specs.Decode.{span_of}
use mathlib.Core.Path.{sym, ap}
use Rattle.sdp_row.proofs.put_username.Goals as goal

pub returns-then-get2-eq0 : goal.returns-then-get2-eq0
unfolding username_text
returns-then-get2-eq0 c =
    said (sym (ap (username_text (bytes_of c.args.s.text.now)) (marked_none span_of _ _ _ c.get2.ensures.0 c.if-get2-eq0.true))) c.byte.ensures

pub returns : goal.returns
unfolding username_text
returns c =
    said (sym (ap (username_text (bytes_of c.args.s.text.now)) (marked_some span_of _ _ _ c.get2.ensures.0 c.if-get2-eq0.false))) c.put_name.ensures
