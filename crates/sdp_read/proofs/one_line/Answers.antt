-- `sdp_read::one_line` meets its contract. Assumes nothing.
use Rattle.sdp_cutter.specs.Cutter.{due}
use Rattle.sdp_read.proofs.CutLaws.{found_inside, turned_at}
use Rattle.sdp_read.proofs.one_line.Goals as goal

pub turn_of-requires : goal.turn_of-requires
turn_of-requires c =
    let a = c.args in
    (c.requires.0, (c.requires.1.0, (c.requires.1.1, rw c.next_line-next.ensures.0 (found_inside a.text.now (due a.c.now)))))

pub returns : goal.returns
returns c =
    let a = c.args in
    (turned_at a.text.now (due a.c.now) _ c.next_line-next.ensures.0 a.state _ _ _ c.turn_of.ensures, c.next_line-next.ensures.1)
