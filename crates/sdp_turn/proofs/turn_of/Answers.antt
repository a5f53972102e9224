-- `sdp_turn::turn_of` meets its contract. Assumes nothing.
use Rattle.sdp_turn.proofs.TurnLaws.{turns_end, turns_bad, turns_empty, turns_good, turns_opened}
use Rattle.sdp_turn.proofs.turn_of.Goals as goal

pub good_line-requires : goal.good_line-requires
good_line-requires c = (c.requires.0, (c.requires.1.0, (c.requires.1.1.0, rw c.in-Found.is at c.requires.1.1.1)))

pub returns-then-state : goal.returns-then-state
returns-then-state c =
    let a = c.args in
    rw c.in-Found.is (turns_good a.text.now a.state a.area.now c.in-Found.number _ _ _ _ c.if-state.true c.good_line.ensures)

pub opened_line-requires : goal.opened_line-requires
opened_line-requires c = (c.requires.1.1.0, rw c.in-Found.is at c.requires.1.1.1)

pub returns-in-End : goal.returns-in-End
returns-in-End c =
    let a = c.args in
    rw (c.at_end.ensures, c.in-End.is) (turns_end a.text.now a.state a.area.now)

pub returns-in-Refused : goal.returns-in-Refused
returns-in-Refused c =
    let a = c.args in
    rw (c.refused.ensures, c.on_line.ensures, c.number.ensures, c.in-Refused.is) (turns_bad a.text.now a.state a.area.now c.in-Refused.fault _)

pub returns-in-Empty : goal.returns-in-Empty
returns-in-Empty c =
    let a = c.args in
    rw (c.one_empty.ensures, c.in-Empty.is) (turns_empty a.text.now a.state a.area.now)

pub returns-else-state : goal.returns-else-state
returns-else-state c =
    let a = c.args in
    rw (c.opened_line.ensures, c.in-Found.is) (turns_opened a.text.now a.state a.area.now c.in-Found.number _ _ c.if-state.false)
