-- `sdp_turn::good_line` meets its contract. Assumes nothing.
use Rattle.std.proofs.Common.{arith}
use Rattle.sdp_strings.specs.Strings.{span_at}
use Rattle.sdp_lines.specs.Strings.{bytes_of}
use Rattle.sdp_turn.proofs.PartLaws.{part_is, part-fits, byte_fits}
use Rattle.sdp_turn.proofs.TurnLaws.{good_kept, good_idle, good_refused}
use Rattle.sdp_blame.proofs.StepLaws.{step_blames, blamed_inside}
use Rattle.sdp_turn.proofs.good_line.Goals as goal

pub take-requires : goal.take-requires
take-requires c =
    (omega (arith, c.requires.0), part-fits c.args.text.now c.args.value c.requires.1.0 c.requires.1.1.1)

pub one_kept-requires : goal.one_kept-requires
one_kept-requires c = c.requires.1.1.0

pub returns-in-Ok-Some : goal.returns-in-Ok-Some
returns-in-Ok-Some c =
    let a = c.args in
    rw (rw c.in-Ok-Some.field-0-is at c.one_kept.ensures)
    (good_kept a.text.now a.number.0 a.letter a.value a.state a.area.now _ _ _ _ _ _ c.medias.ensures.0 c.offsets-before.ensures.0 c.role_at-role.ensures c.stamp.ensures
    (rw (c.in-Ok-Some.is, c.in-Ok-Some.field-0-is, c.marks.ensures, part_is a.text.now a.value) at c.take.ensures))

pub returns-in-Ok-None : goal.returns-in-Ok-None
returns-in-Ok-None c =
    let a = c.args in
    rw c.one_ignored.ensures
    (good_idle a.text.now a.number.0 a.letter a.value a.state a.area.now _
    (rw (c.in-Ok-None.is, c.in-Ok-None.field-0-is, c.marks.ensures, part_is a.text.now a.value) at c.take.ensures))

pub returns-in-Err : goal.returns-in-Err
returns-in-Err c =
    let a = c.args in
    let v = bytes_of a.text.now a.value in
    good_refused a.text.now a.number.0 a.letter a.value a.state a.area.now _ _ _
    (λ ρ e. c.wrong_at.ensures (λ n. byte_fits a.text.now a.value _ c.requires.1.0 c.requires.1.1.1 (blamed_inside a.letter v _ (step_blames v (span_at a.value.at.0 v) ρ a.letter _ e) n)))
    (rw (c.in-Err.is, c.marks.ensures, part_is a.text.now a.value) at c.take.ensures)
