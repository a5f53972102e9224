-- `sdp_cells::put2` meets its contract. Two stores, one after the other, are the two bytes written over the slice.
-- Assumes nothing.
use mathlib.Core.Path.{sym, ap, ◌∙◌}
use native.Mathlib.Numerals.{add-one}
use native.Mathlib.Omega.{arith}
use Prim.Native.Nat.{ℕ, ◌+◌, ◌/◌, ◌%◌, ◌≤◌}
use lib.ListN.{length, set, length-set}
use Rattle.sdp_cells.specs.Bytes.{le}
use Rattle.sdp_cells.proofs.ByteLaws.{over_sets}
use Rattle.sdp_cells.proofs.put2.Goals as goal

pub bounds-a-at-2 : goal.bounds-a-at-2
bounds-a-at-2 c = simp length-set (omega arith)

pub returns : goal.returns
unfolding le
returns c =
    let a = c.args.a.now in
    let i = c.args.at in
    let v = c.args.v in
    let h : i + 2 ≤ length a = omega arith in
    ap (λ (k : ℕ). set (set a i (v % 256)) k (v / 256 % 256)) (add-one i) ∙ sym (over_sets a (le 2 v) i h)
