-- `sdp_put::kept_len` meets its contract. Assumes nothing.
use Rattle.sdp_put.specs.Strings.{kept, clean}
use Rattle.sdp_put.proofs.StringLaws.{clean_more, clean_done}
use lib.ListN.{length, drop, get_or, length-append}
use mathlib.Core.Path.{ap}
use native.Mathlib.Omega.{arith}
use Prim.Native.Nat.{◌+◌}
use Rattle.sdp_put.proofs.kept_len.Goals as goal

pub loop-b-init : goal.loop-b-init
loop-b-init c = (omega arith, omega arith)

pub loop-b-preserved : goal.loop-b-preserved
loop-b-preserved c =
    let s = c.args.s.now in
    let i = c.loop-b.b-index in
    let e = (clean_more s i c.loop-b-test.true).is in
    (omega arith, omega (arith, c.loop-b.invariant.1, ap length e, length-append (kept (get_or s i 0)) (clean (drop (i + 1) s)), c.one_len-n.ensures.0))

pub returns : goal.returns
returns c =
    let s = c.args.s.now in
    omega (arith, c.loop-b.invariant.1, ap length (clean_done s c.loop-b.b-index c.loop-b-test.false))
