-- `sdp_length::Source::zones_len` meets its contract. Assumes nothing.
use Rattle.sdp_length.proofs.TableLaws.{no_zones_lem, some_zones}
use Rattle.sdp_valid.proofs.LentLaws.{two_live}
use Rattle.std.proofs.Common.{rules}
use native.Mathlib.Omega.{arith}
use Rattle.sdp_length.proofs.Source.zones_len.Goals as goal

pub returns-then-get2-eq0 : goal.returns-then-get2-eq0
returns-then-get2-eq0 c = (no_zones_lem _ _ c.get2.ensures.0 c.if-get2-eq0.true, omega arith)

pub returns : goal.returns
returns c =
    (omega (arith, c.sum_rows.ensures.0, some_zones c.args.self.now.area.now c.get2.result c.get2.ensures.0 c.if-get2-eq0.false), omega arith)

pub get2-requires : goal.get2-requires
get2-requires c = omega (arith, c.requires)

pub sum_rows-requires : goal.sum_rows-requires
sum_rows-requires c = λ k h. (two_live k.1.0 k.1.1.0 k.1.1.1.0 h.0 h.1.0, (c.requires, (search rules, search rules)))
