-- `sdp_table_row::put_signed` meets its contract. Assumes nothing.
use Rattle.sdp_table_row.proofs.ZoneLaws.{signed-minus, signed-plain}
use Rattle.sdp_put.proofs.PutsLaws.{said}
use native.Mathlib.Omega.{arith}
use Rattle.sdp_table_row.proofs.put_signed.Goals as goal

pub returns-then-v-ge9223372036854775808 : goal.returns-then-v-ge9223372036854775808
returns-then-v-ge9223372036854775808 c =
    said (signed-minus _ _ c.if-v-ge9223372036854775808.true (omega arith)) c.offset.ensures

pub returns : goal.returns
returns c = said (signed-plain _ c.if-v-ge9223372036854775808.false) c.offset-2.ensures
