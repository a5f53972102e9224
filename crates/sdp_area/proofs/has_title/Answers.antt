-- `sdp_area::has_title` meets its contract.
-- Assumes nothing.
use native.Mathlib.Omega.{arith}
use Rattle.sdp_area.specs.Latest.{mark_title}
use Rattle.sdp_area.proofs.LatestLaws.{none_there, too_many, one-there}
use Rattle.sdp_area.proofs.has_title.Goals as goal

pub returns-then-n-eq0 : goal.returns-then-n-eq0
unfolding mark_title
returns-then-n-eq0 c = rw (none_there _ _ c.get2-n.ensures.0 c.if-n-eq0.true)

pub returns-then-n-gt32 : goal.returns-then-n-gt32
unfolding mark_title
returns-then-n-gt32 c = rw (too_many _ _ c.get2-n.ensures.0 c.if-n-gt32.true)

pub returns : goal.returns
unfolding mark_title
returns c =
    let n = c.get2-n in
    rw (one-there _ _ n.ensures.0 (omega arith) (omega arith), ← n.ensures.0) c.marked.ensures
