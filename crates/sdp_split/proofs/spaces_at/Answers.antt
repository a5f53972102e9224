-- `sdp_split::spaces_at` meets its contract. The invariant: the run from i is the bytes passed and the run from j.
-- Assumes nothing.
use native.Mathlib.Omega.{arith}
use Rattle.sdp_split.proofs.SplitLaws.{spaces_next, spaces-stop, spaces_end}
use Rattle.sdp_split.proofs.spaces_at.Goals as goal

pub returns-then-v-j-ne32 : goal.returns-then-v-j-ne32
returns-then-v-j-ne32 c =
    let l = c.loop-j in omega (arith, spaces-stop c.args.v.now l.j (omega arith) c.if-v-j-ne32.true, l.invariant)

pub loop-j-preserved : goal.loop-j-preserved
loop-j-preserved c =
    let l = c.loop-j in
    omega (arith, spaces_next c.args.v.now l.j (omega arith) c.if-v-j-ne32.false, l.invariant)

pub returns : goal.returns
returns c =
    let l = c.loop-j in omega (arith, spaces_end c.args.v.now l.j (omega arith), l.invariant)
