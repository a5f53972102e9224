-- `sdp_starts::refused` meets its contract. Assumes nothing.
use mathlib.Core.Path.{refl}
use Rattle.sdp_listing.specs.Columns as listing
use Rattle.sdp_starts.proofs.refused.Goals as goal

pub returns : goal.returns
unfolding listing.cells
returns c = refl
