-- `sdp_stamp::put_since` meets its contract. The invariant: the rows from `from` to i have the line. Assumes nothing.
use mathlib.Core.Path.{◌≡◌, sym, ap, ◌∙◌}
use Prim.Native.Nat.{ℕ, ◌+◌, ◌*◌, ◌-◌}
use native.Mathlib.Omega.{arith}
use lib.ListN.{replicate}
use Rattle.sdp_cells.specs.Bytes.{over}
use Rattle.sdp_cells.specs.Tables.{flat, pairs}
use Rattle.sdp_cells.proofs.ByteLaws.{over_none}
use Rattle.sdp_stamp.proofs.PutLaws.{since_past, since_put, since_more}
use Rattle.sdp_stamp.proofs.put_since.Goals as goal

pub returns-then-most-n : goal.returns-then-most-n
returns-then-most-n c =
    let a = c.args in
    since_past a.area.now a.base a.most a.at a.line _ (sym c.get2-n.ensures.0) a.from c.if-most-n.true

pub loop-i-init : goal.loop-i-init
unfolding flat
loop-i-init c =
    let a = c.args in
    let z : a.from - a.from ≡ 0 = omega arith in
    (omega arith, rw z (over_none a.area.now (a.at + a.from * 2)))

pub loop-i-preserved : goal.loop-i-preserved
loop-i-preserved c =
    let i = c.loop-i.i in
    let more : i + 1 - c.args.from ≡ i - c.args.from + 1 = omega arith in (
      omega (arith, c.loop-i-test.true),
      rw more
          (since_more c.args.area.now c.loop-i.area c.put_line.new.area (c.args.at + c.args.from * 2) (c.args.at + i * 2) (i - c.args.from) c.args.line
          (omega arith) (omega (arith, c.if-most-n.false, c.requires, c.loop-i-test.true)) c.loop-i.invariant.1 c.put_line.ensures),
    )

pub returns : goal.returns
returns c =
    let a = c.args in
    let n = c.loop-i.i in
    let done : n - a.from ≡ c.get2-n.result - a.from = omega (arith, c.loop-i.invariant.0, c.loop-i-test.false) in
    c.loop-i.invariant.1
    ∙ ap (λ (j : ℕ). over a.area.now (a.at + a.from * 2) (pairs (replicate j a.line))) done
    ∙ sym (since_put a.area.now a.base a.most a.at a.line _ (sym c.get2-n.ensures.0) a.from c.if-most-n.false)
