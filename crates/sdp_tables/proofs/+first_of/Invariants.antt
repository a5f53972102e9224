-- `sdp_tables::first_of` calls itself with a half of the rows. The measure is hi - lo. Assumes nothing.
use Prim.Native.Nat.{◌-◌}
use Rattle.sdp_tables.proofs.+first_of.Given as goal

abbrev pub decreases-first_of : goal.decreases-first_of
decreases-first_of l = l.hi - l.lo
