-- `sdp_length::Source::times_len` meets its contract. Assumes nothing.
use Rattle.sdp_length.proofs.TableLaws.{no_times, some_times}
use mathlib.Core.Path.{◌∙◌}
use Rattle.sdp_valid.proofs.LentLaws.{two_live}
use Rattle.std.proofs.Common.{rules}
use native.Mathlib.Omega.{arith}
use Rattle.sdp_length.proofs.Source.times_len.Goals as goal

pub returns-then-get2-eq0 : goal.returns-then-get2-eq0
returns-then-get2-eq0 c = (no_times _ _ c.get2.ensures.0 c.if-get2-eq0.true, omega arith)

pub returns : goal.returns
returns c =
    (c.sum_rows.ensures.0 ∙ some_times _ _ c.get2.ensures.0 c.if-get2-eq0.false, c.sum_rows.ensures.1)

pub get2-requires : goal.get2-requires
get2-requires c = omega (arith, c.requires)

pub sum_rows-requires : goal.sum_rows-requires
sum_rows-requires c = λ k h. (two_live k.1.0 k.1.1.0 k.1.1.1.0 h.0 h.1.0, (c.requires, (search rules, search rules)))
