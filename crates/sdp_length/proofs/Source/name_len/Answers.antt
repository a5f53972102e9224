-- `sdp_length::Source::name_len` meets its contract. Assumes nothing.
use Rattle.sdp_row.proofs.LineLaws.{name-empty, name-past, name-there}
use lib.ListN.{length}
use mathlib.Core.Path.{ap, ◌∙◌}
use native.Mathlib.Omega.{arith}
use Rattle.sdp_length.proofs.Source.name_len.Goals as goal

pub returns-then-get2-eq0 : goal.returns-then-get2-eq0
returns-then-get2-eq0 c = (ap length (name-empty _ _ _ _ c.get2.ensures.0 c.if-get2-eq0.true), omega arith)

pub returns-then-self-get2 : goal.returns-then-self-get2
returns-then-self-get2 c = (ap length (name-past _ _ _ _ c.get2-2.ensures.0 c.if-self-get2.true), omega arith)

pub returns : goal.returns
returns c =
    (c.string_len.ensures.0 ∙ ap length (name-there _ _ _ _ c.get2-2.ensures.0 _ c.get2.ensures.0 c.if-get2-eq0.false c.if-self-get2.false), c.string_len.ensures.1)
