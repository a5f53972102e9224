-- `Asked::put_offset` of `sdp_starts` meets its contract. Assumes nothing.
use Rattle.sdp_starts.specs.Fill.{series_of}
use Rattle.sdp_starts.proofs.FillLaws.{fills_none, fills_as}
use Rattle.sdp_starts.proofs.RowLaws.{mine-not, mine_is}
use mathlib.Core.Path.{ap}
use Prim.Native.Nat.{ℕ}
use Rattle.sdp_starts.proofs.Asked.put_offset.Goals as goal

pub returns-then-num2-whose : goal.returns-then-num2-whose
returns-then-num2-whose c = fills_as (mine-not _ _ _ c.num2.ensures.0 _ c.if-num2-whose.true) fills_none

pub returns : goal.returns
returns c =
    fills_as (mine_is _ _ _ c.num2.ensures.0 _ _ c.if-num2-whose.false (ap (λ (o : ℕ). series_of c.args.self.now.area.now c.args.whose c.args.rule o c.args.self.now.window) c.num8-offset.ensures))
    c.put_series.ensures
