-- `sdp_length::Source::attribute_len` meets its contract. Assumes nothing.
use Rattle.sdp_length.proofs.LineLaws.{attribute-line}
use native.Mathlib.Omega.{arith}
use Rattle.sdp_length.proofs.Source.attribute_len.Goals as goal

pub returns : goal.returns
returns c = (omega (arith, attribute-line c.args.self.now.text.now c.args.self.now.area.now c.args.p), omega arith)
