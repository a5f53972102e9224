-- `sdp_put::store8` meets its contract. Eight stores, one after the other. Assumes nothing.
use Rattle.sdp_put.proofs.OutLaws.{eight_in}
use Rattle.sdp_put.proofs.StringLaws.{stores, length_stores, next_in}
use Rattle.sdp_cells.specs.Bytes.{le}
use Prim.Native.Nat.{ℕ, suc, ◌+◌, ◌≤◌, ◌<◌}
use mathlib.Core.List.{List}
use lib.ListN.{length}
use lib.Dec.{lit<}
use native.Mathlib.Omega.{arith}
use Rattle.sdp_put.proofs.store8.Goals as goal

module _ (c : goal.Start) where
  abbrev o : List ℕ
  o = c.args.out.now

  abbrev at : ℕ
  at = c.args.at

  abbrev bs : List ℕ
  bs = le 8 c.args.x

  room : at + 8 ≤ length o
  room = omega arith

  next : (k : ℕ) → k < 7 → at + suc k < length (stores k o at bs)
  next k h = next_in k o at bs (omega arith)

pub bounds-out-at-2 : goal.bounds-out-at-2
unfolding le
bounds-out-at-2 c = next c 0 (lit< tt)

pub bounds-out-at-3 : goal.bounds-out-at-3
unfolding le
bounds-out-at-3 c = next c 1 (lit< tt)

pub bounds-out-at-4 : goal.bounds-out-at-4
unfolding le
bounds-out-at-4 c = next c 2 (lit< tt)

pub bounds-out-at-5 : goal.bounds-out-at-5
unfolding le
bounds-out-at-5 c = next c 3 (lit< tt)

pub bounds-out-at-6 : goal.bounds-out-at-6
unfolding le
bounds-out-at-6 c = next c 4 (lit< tt)

pub bounds-out-at-7 : goal.bounds-out-at-7
unfolding le
bounds-out-at-7 c = next c 5 (lit< tt)

pub bounds-out-at-8 : goal.bounds-out-at-8
unfolding le
bounds-out-at-8 c = next c 6 (lit< tt)

pub shape_of-out : goal.shape_of-out
unfolding le
shape_of-out c = length_stores 7 (o c) (at c) (bs c)

pub returns : goal.returns
unfolding le
returns c = ((eight_in (o c) (at c) _ _ _ _ _ _ _ _ (room c)).puts (omega arith) (omega arith)).0
