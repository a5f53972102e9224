-- `sdp_put::short_at` meets its contract. Assumes nothing.
use Rattle.sdp_put.proofs.OutLaws.{said, ◌then◌}
use Rattle.sdp_put.proofs.DigitLaws.{one_is, two_are, three_are, four_digits_lem}
use Prim.Native.Nat.{◌<◌}
use mathlib.Core.Path.{sym}
use native.Mathlib.Omega.{arith}
use Rattle.sdp_put.proofs.short_at.Goals as goal

pub returns-then-v-lt10 : goal.returns-then-v-lt10
returns-then-v-lt10 c = said (one_is _ _ c.if-v-lt10.true c.digit.ensures) c.byte_at.ensures

pub returns-then-v-lt100 : goal.returns-then-v-lt100
returns-then-v-lt100 c =
    said (two_are _ _ _ c.if-v-lt10.false c.if-v-lt100.true c.digit-then-v-lt100.ensures c.digit-then-v-lt100-2.ensures) c.two_at.ensures

pub returns-then-v-lt1000 : goal.returns-then-v-lt1000
returns-then-v-lt1000 c =
    said
    (three_are _ _ _ _ c.if-v-lt100.false c.if-v-lt1000.true c.digit-then-v-lt1000.ensures c.digit-then-v-lt1000-2.ensures c.digit-then-v-lt1000-3.ensures)
    (c.byte_at-next.ensures then c.two_at-then-v-lt1000.ensures)

pub returns : goal.returns
returns c =
    let v = c.args.v in
    let h : v < 10000 = omega arith in
    said (sym (four_digits_lem v c.if-v-lt1000.false h)) c.four_at.ensures
