-- `sdp_number::digits_to` meets its contract. Assumes nothing.
use Prim.Native.Nat.{◌+◌, ◌≤◌}
use mathlib.Core.Path.{◌≡◌}
use lib.ListN.{drop}
use Rattle.sdp_number.specs.Number.{digits_below}
use Rattle.sdp_number.proofs.NumberLaws.{continued}
use Rattle.sdp_number.proofs.digits_to.Given as goal

abbrev pub invariant-loop-b : goal.invariant-loop-b
invariant-loop-b l =
    (l.v ≤ l.max) × (digits_below (l.max + 1) l.s ≡ continued (l.max + 1) l.v (drop l.b-index l.s))
