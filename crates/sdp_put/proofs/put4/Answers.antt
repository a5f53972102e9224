-- `sdp_put::put4` meets its contract. Assumes nothing.
use Rattle.sdp_put.proofs.OutLaws.{four_in, ◌then◌}
use Prim.Native.Nat.{◌+◌, ◌≤◌}
use lib.ListN.{length, length-set}
use native.Mathlib.Omega.{arith}
use Rattle.sdp_put.proofs.put4.Goals as goal

pub returns-then-out-at-lt4 : goal.returns-then-out-at-lt4
returns-then-out-at-lt4 c = c.two_at-next.ensures then c.two_at.ensures

pub returns : goal.returns
returns c =
    let o = c.args.out.now in
    let i = c.args.at in
    let l : i + 4 ≤ length o = omega arith in
    four_in o i _ _ _ _ l

pub bounds-out-at-2 : goal.bounds-out-at-2
bounds-out-at-2 c = simp length-set (omega arith)

pub bounds-out-at-3 : goal.bounds-out-at-3
bounds-out-at-3 c = simp length-set (omega arith)

pub bounds-out-at-4 : goal.bounds-out-at-4
bounds-out-at-4 c = simp length-set (omega arith)
