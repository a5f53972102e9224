-- `sdp_write::put_head` meets its contract. Assumes nothing.
use Rattle.sdp_put.proofs.PutsLaws.{◌then◌}
use Rattle.sdp_row.specs.Written.{line, head_lines}
use Rattle.sdp_decode.specs.Decode.{decode}
use Rattle.sdp_write.proofs.put_head.Goals as goal

pub returns : goal.returns
unfolding head_lines decode line
returns c =
    c.all.ensures then c.put_origin.ensures then c.put_string_line.ensures then c.put_maybe_line.ensures then c.put_maybe_line-2.ensures
