-- `sdp_put::clean_at` meets its contract. The invariant: what is left to be put. Assumes nothing.
use Rattle.sdp_put.specs.Strings.{clean}
use Rattle.sdp_put.proofs.OutLaws.{Same}
use lib.ListN.{length, drop}
use mathlib.Core.Path.{◌≡◌}
use Rattle.sdp_put.proofs.clean_at.Given as goal

abbrev pub invariant-loop-b : goal.invariant-loop-b
invariant-loop-b l =
    (length l.out ≡ length l.initial.out) × Same l.initial.out l.at (clean l.s) l.out l.p (clean (drop l.b-index l.s))
