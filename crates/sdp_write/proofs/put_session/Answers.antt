-- `sdp_write::put_session` meets its contract. Assumes nothing.
use Rattle.sdp_put.proofs.PutsLaws.{◌then◌}
use Rattle.sdp_row.specs.Written.{written}
use Rattle.sdp_decode.specs.Decode.{decode}
use Rattle.sdp_write.proofs.put_session.Goals as goal

pub returns : goal.returns
unfolding written decode
returns c =
    c.put_head.ensures then c.put_contact.ensures then c.put_closing.ensures then c.put_medias.ensures
