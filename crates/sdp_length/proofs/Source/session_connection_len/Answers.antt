-- `sdp_length::Source::session_connection_len` meets its contract. Assumes nothing.
use Rattle.sdp_row.proofs.LineLaws.{absent, present}
use Rattle.sdp_lines.specs.Strings.{bytes_of}
use Rattle.sdp_decode.specs.Decode.{connection_of}
use Rattle.sdp_row.specs.Written.{connection_line}
use lib.ListN.{length}
use mathlib.Core.Path.{ap, ◌∙◌}
use native.Mathlib.Omega.{arith}
use Rattle.sdp_length.proofs.Source.session_connection_len.Goals as goal

pub returns-then-get2-eq0 : goal.returns-then-get2-eq0
returns-then-get2-eq0 c =
    (ap length (absent (connection_line (bytes_of c.args.self.now.text.now)) connection_of _ _ _ c.get2.ensures.0 c.if-get2-eq0.true), omega arith)

pub returns : goal.returns
returns c =
    (c.connection_len.ensures.0 ∙ ap length (present (connection_line (bytes_of c.args.self.now.text.now)) connection_of _ _ _ c.get2.ensures.0 c.if-get2-eq0.false), c.connection_len.ensures.1)
