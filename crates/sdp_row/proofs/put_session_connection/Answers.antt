-- `sdp_row::put_session_connection` meets its contract. Assumes nothing.
use Rattle.sdp_row.proofs.LineLaws.{absent, present}
use Rattle.sdp_put.proofs.PutsLaws.{said, nothing}
use Rattle.sdp_lines.specs.Strings.{bytes_of}
use Rattle.sdp_row.specs.Written.{connection_line}
use Rattle.sdp_decode.specs.Decode.{connection_of}
use Rattle.sdp_row.proofs.put_session_connection.Goals as goal

pub returns-then-get2-eq0 : goal.returns-then-get2-eq0
returns-then-get2-eq0 c =
    said (absent (connection_line (bytes_of c.args.s.text.now)) connection_of _ _ _ c.get2.ensures.0 c.if-get2-eq0.true) (nothing _)

pub returns : goal.returns
returns c =
    said (present (connection_line (bytes_of c.args.s.text.now)) connection_of _ _ _ c.get2.ensures.0 c.if-get2-eq0.false) c.put_connection.ensures
