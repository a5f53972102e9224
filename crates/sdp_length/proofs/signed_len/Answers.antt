-- `sdp_length::signed_len` meets its contract. Assumes nothing.
use Rattle.sdp_length.proofs.NumberLaws.{minus, plain}
use native.Mathlib.Omega.{arith}
use Rattle.sdp_length.proofs.signed_len.Goals as goal

pub returns-then-v-ge9223372036854775808 : goal.returns-then-v-ge9223372036854775808
returns-then-v-ge9223372036854775808 c =
    (minus _ _ _ c.if-v-ge9223372036854775808.true (omega arith) c.time_len.ensures.0, omega arith)

pub returns : goal.returns
returns c = (plain _ _ c.if-v-ge9223372036854775808.false c.time_len-2.ensures.0, omega arith)
