-- `sdp_listing::shift_in` meets its contract. The invariant: what is still to be done gives the whole. Assumes nothing.
use mathlib.Core.Path.{◌≡◌}
use Prim.Native.Nat.{◌≤◌, ◌-◌}
use lib.ListN.{length}
use Rattle.sdp_listing.specs.Columns.{shift_in}
use Rattle.sdp_listing.proofs.shift_in.Given as goal

abbrev pub invariant-loop-i : goal.invariant-loop-i
invariant-loop-i l =
    (l.i ≤ l.n) × (length l.a ≡ length l.initial.a) × (shift_in l.i (l.n - l.i) l.x l.a ≡ shift_in l.p (l.n - l.p) l.v l.initial.a)
