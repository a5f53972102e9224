-- `sdp_cells::put_words` meets its contract. The invariant: the first i numbers stand from at on.
-- Assumes nothing.
use mathlib.Core.Path.{ap, ◌∙◌}
use mathlib.Core.List.{List}
use Prim.Native.Nat.{ℕ}
use native.Mathlib.Omega.{arith}
use lib.Seq.{take_all}
use Rattle.sdp_cells.specs.Bytes.{over}
use Rattle.sdp_cells.specs.Tables.{flat, pairs}
use Rattle.sdp_cells.proofs.ByteLaws.{over_none}
use Rattle.sdp_cells.proofs.StoreLaws.{put_more}
use Rattle.sdp_cells.proofs.put_words.Goals as goal

pub loop-i-init : goal.loop-i-init
unfolding flat
loop-i-init c = over_none c.args.a.now c.args.at

pub loop-i-preserved : goal.loop-i-preserved
loop-i-preserved c =
    put_more c.args.a.now c.loop-i.a c.put2.new.a c.args.ws.now c.args.at c.loop-i.i c.loop-i-test.true c.requires c.loop-i.invariant c.put2.ensures

pub returns : goal.returns
returns c =
    c.loop-i.invariant ∙ ap (λ (l : List ℕ). over c.args.a.now c.args.at (pairs l)) (take_all c.loop-i.i c.args.ws.now (omega arith))
