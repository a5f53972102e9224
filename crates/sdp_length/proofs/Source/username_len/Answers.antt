-- `sdp_length::Source::username_len` meets its contract. Assumes nothing.
use Rattle.sdp_length.proofs.LineLaws.{no_name_lem, some_name}
use mathlib.Core.Path.{◌∙◌}
use native.Mathlib.Omega.{arith}
use Rattle.sdp_length.proofs.Source.username_len.Goals as goal

pub returns-then-get2-eq0 : goal.returns-then-get2-eq0
returns-then-get2-eq0 c = (no_name_lem _ _ _ _ c.get2.ensures.0 c.if-get2-eq0.true, omega arith)

pub returns : goal.returns
returns c =
    (c.name_len.ensures.0 ∙ some_name _ _ _ _ c.get2.ensures.0 c.if-get2-eq0.false, c.name_len.ensures.1)
