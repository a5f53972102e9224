-- `sdp_decode::num2` meets its contract. Assumes nothing.
use Rattle.sdp_cells.specs.Bytes as bytes
use Rattle.sdp_decode.proofs.CellLaws.{num-past}
use mathlib.Core.Path.{sym}
use Prim.Native.Nat.{◌+◌}
use native.Mathlib.Omega.{arith}
use Rattle.sdp_decode.proofs.num2.Goals as goal

pub returns-then-a-at : goal.returns-then-a-at
returns-then-a-at c = (sym (num-past 2 _ _ c.if-a-at.true), omega arith)

pub overflow_cast-result : goal.overflow_cast-result
overflow_cast-result c = omega (arith, c.shared_slice_known-then-a-at-lt2-1.given c.args.at)

-- one byte is left
pub returns-then-a-at-lt2 : goal.returns-then-a-at-lt2
unfolding bytes.num
returns-then-a-at-lt2 c =
    (omega (arith, num-past 1 c.args.a.now (c.args.at + 1) (omega arith)), omega (arith, c.shared_slice_known-then-a-at-lt2-1.given c.args.at))
