-- `sdp_length::digits_len` meets its contract. Assumes nothing.
use Prim.Native.Nat.{◌<◌, ◌^◌}
use native.Mathlib.Omega.{arith}
use Rattle.sdp_length.proofs.NumberLaws.{one-digit, two_digits, three-digits, some_digits, more_digits}
use Rattle.sdp_length.proofs.+digits_len.Goals as goal

pub returns-then-v-lt10 : goal.returns-then-v-lt10
returns-then-v-lt10 t c = (one-digit _ c.if-v-lt10.true, omega arith)

pub returns-then-v-lt100 : goal.returns-then-v-lt100
returns-then-v-lt100 t c = (two_digits _ c.if-v-lt10.false c.if-v-lt100.true, omega arith)

pub returns-then-v-lt1000 : goal.returns-then-v-lt1000
returns-then-v-lt1000 t c = (three-digits _ c.if-v-lt100.false c.if-v-lt1000.true, omega arith)

pub returns-then-v-lt10000 : goal.returns-then-v-lt10000
returns-then-v-lt10000 t c = (some_digits _ c.if-v-lt1000.false c.if-v-lt10000.true, omega arith)

pub returns : goal.returns
returns t c =
    let l : c.args.v < 2 ^ 64 = omega arith in
    more_digits _ _ l c.if-v-lt10000.false c.digits_len.ensures.0
