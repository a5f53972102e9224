-- `sdp_media_line::ports_of` meets its contract. Assumes nothing.
use mathlib.Core.Path.{sym}
use lib.Seq.{length-take-le}
use Rattle.sdp_bytes.proofs.ScanLaws.{index_le}
use Rattle.sdp_media_line.proofs.ports_of.Goals as goal

pub slice_bounds-port_number-end : goal.slice_bounds-port_number-end
slice_bounds-port_number-end c = sym (length-take-le _ _ (rw c.index_of-slash.ensures (index_le _ _)))
