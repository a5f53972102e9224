-- `sdp_cells::get2` meets its contract. Two bytes, each below 256, make a number below 65536.
-- Assumes nothing.
use native.Mathlib.Omega.{arith}
use Prim.Native.Nat.{◌+◌}
use Rattle.sdp_cells.specs.Bytes.{num}
use Rattle.sdp_cells.proofs.get2.Goals as goal

pub overflow_cast-result : goal.overflow_cast-result
overflow_cast-result c = omega (arith, c.shared_slice_known-1.given c.args.at)

pub overflow_cast-result-2 : goal.overflow_cast-result-2
overflow_cast-result-2 c = omega (arith, c.shared_slice_known-2-1.given (c.args.at + 1))

pub overflow_mul-result : goal.overflow_mul-result
overflow_mul-result c = omega (arith, c.shared_slice_known-2-1.given (c.args.at + 1))

pub overflow_add-result-2 : goal.overflow_add-result-2
overflow_add-result-2 c =
    omega (arith, c.shared_slice_known-2-1.given (c.args.at + 1), c.shared_slice_known-1.given c.args.at)

pub returns : goal.returns
unfolding num
returns c =
    omega (arith, c.shared_slice_known-2-1.given (c.args.at + 1), c.shared_slice_known-1.given c.args.at)
