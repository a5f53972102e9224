-- `sdp_length::Source::head_len` meets its contract. Assumes nothing.
use Rattle.sdp_length.proofs.LineLaws.{head_lines_lem}
use native.Mathlib.Omega.{arith}
use Rattle.sdp_length.proofs.Source.head_len.Goals as goal

pub returns : goal.returns
returns c =
    (omega (arith, head_lines_lem c.args.self.now.text.now c.args.self.now.area.now, c.line_len.ensures.0 0x73, c.maybe_line_len.ensures.0 0x69, c.maybe_line_len-2.ensures.0 0x75), omega arith)
