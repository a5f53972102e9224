-- `sdp_length::Source::maybe_line_len` meets its contract. Assumes nothing.
use Rattle.sdp_row.proofs.LineLaws.{absent, present}
use Rattle.sdp_lines.specs.Strings.{bytes_of}
use Rattle.sdp_decode.specs.Decode.{span_of}
use Rattle.sdp_row.specs.Written.{string_line}
use lib.ListN.{length}
use mathlib.Core.Path.{ap, ◌∙◌}
use native.Mathlib.Omega.{arith}
use Rattle.sdp_length.proofs.Source.maybe_line_len.Goals as goal

pub returns-then-get2-eq0 : goal.returns-then-get2-eq0
returns-then-get2-eq0 c =
    (λ l. ap length (absent (string_line (bytes_of c.args.self.now.text.now) l) span_of _ _ _ c.get2.ensures.0 c.if-get2-eq0.true), omega arith)

pub returns : goal.returns
returns c =
    (λ l. c.line_len.ensures.0 l ∙ ap length (present (string_line (bytes_of c.args.self.now.text.now) l) span_of _ _ _ c.get2.ensures.0 c.if-get2-eq0.false), c.line_len.ensures.1)
