-- `sdp_cells::get8` meets its contract. Assumes nothing.
use Rattle.sdp_cells.specs.Bytes.{num}
use Rattle.sdp_cells.proofs.ByteLaws.{num_eight, num_rest}
use Prim.Native.Nat.{◌-◌}
use mathlib.Core.Path.{ap}
use lib.ListN.{length, take, drop}
use native.Mathlib.Nat.{add-zero}
use native.Mathlib.Omega.{arith}
use Rattle.sdp_cells.proofs.get8.Goals as goal

pub returns : goal.returns
returns c =
    let a = c.args.a.now in
    let s = take (length a - c.args.at) (drop c.args.at a) in
    omega (arith, num_eight s 0, num_rest a c.args.at 8 0, ap (num 8 a) (add-zero c.args.at), c.get2.ensures.0, c.get2-2.ensures.0, c.get2-3.ensures.0, c.get2-4.ensures.0)
