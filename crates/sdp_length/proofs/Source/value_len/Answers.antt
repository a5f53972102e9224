-- `sdp_length::Source::value_len` meets its contract. Assumes nothing.
use Rattle.sdp_row.proofs.LineLaws.{absent, present}
use Rattle.sdp_lines.specs.Strings.{bytes_of}
use Rattle.sdp_decode.specs.Decode.{span_of}
use Rattle.sdp_put.specs.Strings.{clean}
use lib.ListN.{length}
use mathlib.Core.Path.{ap}
use mathlib.Core.List.{[], ◌∷◌, ◌++◌}
use native.Mathlib.Omega.{arith}
use Rattle.sdp_length.proofs.Source.value_len.Goals as goal

pub returns-then-get2-eq0 : goal.returns-then-get2-eq0
returns-then-get2-eq0 c =
    (ap length (absent (λ x. (0x3a ∷ []) ++ clean (bytes_of c.args.self.now.text.now x)) span_of _ _ _ c.get2.ensures.0 c.if-get2-eq0.true), omega arith)

pub returns : goal.returns
returns c =
    (omega (arith, ap length (present (λ x. (0x3a ∷ []) ++ clean (bytes_of c.args.self.now.text.now x)) span_of c.args.self.now.area.now c.args.p c.get2.result c.get2.ensures.0 c.if-get2-eq0.false)), omega arith)
