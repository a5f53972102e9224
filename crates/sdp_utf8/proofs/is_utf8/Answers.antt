-- `sdp_utf8::is_utf8` meets its contract. Assumes nothing.
use Rattle.sdp_utf8.specs.Utf8.{is_utf8}
use Rattle.sdp_utf8.proofs.is_utf8.Goals as goal

pub returns : goal.returns
unfolding is_utf8
returns c = rw c.utf8_end.ensures
