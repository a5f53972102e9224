-- `sdp_length::Source::origin_len` meets its contract. Assumes nothing.
use Rattle.sdp_length.proofs.LineLaws.{no_origin, some_origin_lem}
use native.Mathlib.Omega.{arith}
use Rattle.sdp_length.proofs.Source.origin_len.Goals as goal

pub returns-then-get2-eq0 : goal.returns-then-get2-eq0
returns-then-get2-eq0 c = (no_origin _ _ _ _ c.get2.ensures.0 c.if-get2-eq0.true, omega arith)

pub returns : goal.returns
returns c =
    (omega (arith, some_origin_lem c.args.self.now.text.now c.args.self.now.area.now 0 c.get2.result c.get2.ensures.0 c.if-get2-eq0.false), omega arith)
