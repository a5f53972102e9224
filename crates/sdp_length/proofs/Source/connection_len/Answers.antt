-- `sdp_length::Source::connection_len` meets its contract. Assumes nothing.
use Rattle.sdp_length.proofs.LineLaws.{connection_line_lem}
use native.Mathlib.Omega.{arith}
use Rattle.sdp_length.proofs.Source.connection_len.Goals as goal

pub returns : goal.returns
returns c = (omega (arith, connection_line_lem c.args.self.now.text.now c.args.self.now.area.now c.args.p), omega arith)
