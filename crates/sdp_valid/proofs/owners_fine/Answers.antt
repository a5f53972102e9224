-- `sdp_valid::owners_fine` meets its contract. Assumes nothing.
use native.Mathlib.Omega.{arith}
use Rattle.sdp_valid.proofs.CountedLaws.{connections_inside, bandwidths_inside, repeats_inside, offsets_inside, attributes_inside}
use Rattle.sdp_valid.proofs.owners_fine.Goals as goal

pub owned-requires-clause-le_w : goal.owned-requires-clause-le_w
owned-requires-clause-le_w c = (omega arith, connections_inside _ c.requires)

pub owned-requires-then-owned-clause-le_w : goal.owned-requires-then-owned-clause-le_w
owned-requires-then-owned-clause-le_w c = (omega arith, bandwidths_inside _ c.requires)

pub owned-requires-then-owned-2-clause-le_w : goal.owned-requires-then-owned-2-clause-le_w
owned-requires-then-owned-2-clause-le_w c = (omega arith, repeats_inside _ c.requires)

pub owned-requires-then-owned-3-clause-le_w : goal.owned-requires-then-owned-3-clause-le_w
owned-requires-then-owned-3-clause-le_w c = (omega arith, offsets_inside _ c.requires)

pub owned-requires-then-owned-4-clause-le_w : goal.owned-requires-then-owned-4-clause-le_w
owned-requires-then-owned-4-clause-le_w c = (omega arith, attributes_inside _ c.requires)
