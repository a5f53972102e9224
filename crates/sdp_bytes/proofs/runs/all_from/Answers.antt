-- `sdp_bytes::runs::all_from` meets its contract. Assumes nothing.
use native.Mathlib.Omega.{arith}
use lib.Bits.{and_le_r}
use Rattle.sdp_bytes.proofs.WordLaws.{tops8}
use Rattle.sdp_bytes.proofs.runs.all_from.Goals as goal

pub overflow_add-sum : goal.overflow_add-sum
overflow_add-sum c = omega (arith, and_le_r c.args.x 0x7f7f_7f7f_7f7f_7f7f)

pub returns : goal.returns
returns c = tops8 _ _ c.requires
