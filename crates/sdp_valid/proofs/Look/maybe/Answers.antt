-- `sdp_valid::Look::maybe` meets its contract. Assumes nothing.
use native.Mathlib.Omega.{arith}
use Rattle.std.proofs.Common.{rules}
use Rattle.sdp_valid.proofs.LentLaws.{two_live}
use Rattle.sdp_valid.proofs.Look.maybe.Goals as goal

pub marked-requires : goal.marked-requires
marked-requires c = λ k h. (two_live k.1.1.0 k.1.1.1.0 k.1.1.1.1.0 h.0 h.1.0, (omega arith, (search rules, search rules)))
