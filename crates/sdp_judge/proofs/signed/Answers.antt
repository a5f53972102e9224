-- `sdp_judge::signed` meets its contract. Assumes nothing.
use borrow.Author.Tests.{lt-ltb, le-ltb, le-leb, lt-leb}
use Rattle.sdp_judge.proofs.signed.Goals as goal

pub returns-then-m-le9223372036854775808 : goal.returns-then-m-le9223372036854775808
returns-then-m-le9223372036854775808 c = rw (c.negated.ensures, c.if-negative.true, le-leb _ _ c.if-m-le9223372036854775808.true)

pub returns-then-negative : goal.returns-then-negative
returns-then-negative c = rw (c.if-negative.true, lt-leb _ _ c.if-m-le9223372036854775808.false)

pub returns-then-m-lt9223372036854775808 : goal.returns-then-m-lt9223372036854775808
returns-then-m-lt9223372036854775808 c = rw (c.if-negative.false, lt-ltb _ _ c.if-m-lt9223372036854775808.true)

pub returns : goal.returns
returns c = rw (c.if-negative.false, le-ltb _ _ c.if-m-lt9223372036854775808.false)
