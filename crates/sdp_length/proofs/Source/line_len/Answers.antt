-- `sdp_length::Source::line_len` meets its contract. Assumes nothing.
use Rattle.sdp_length.proofs.LineLaws.{string_line_lem}
use native.Mathlib.Omega.{arith}
use Rattle.sdp_length.proofs.Source.line_len.Goals as goal

pub returns : goal.returns
returns c =
    (λ l. omega (arith, string_line_lem c.args.self.now.text.now c.args.self.now.area.now l c.args.p), omega arith)
