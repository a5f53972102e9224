-- `sdp_valid::Look::media` meets its contract. Assumes nothing.
use native.Mathlib.Omega.{arith}
use Rattle.std.proofs.Common.{rules}
use Rattle.sdp_valid.proofs.LentLaws.{two_live}
use Rattle.sdp_valid.proofs.Look.media.Goals as goal

pub marked-requires-then-maybe : goal.marked-requires-then-maybe
marked-requires-then-maybe c = λ k h. (two_live k.1.1.0 k.1.1.1.0 k.1.1.1.1.0 h.0 h.1.0, (omega arith, (search rules, search rules)))
