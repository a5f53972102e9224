-- `sdp_unfit::unfit` meets its contract. Assumes nothing.
use mathlib.Core.Path.{sym, ◌∙◌}
use native.Mathlib.Omega.{arith}
use Rattle.sdp_unfit.proofs.UnfitLaws.{formed_counted, area_short, text_long, bad_session_lem, bad_lines, fit}
use Rattle.sdp_unfit.proofs.unfit.Goals as goal
use Rattle.sdp_unfit.proofs.unfit.Goals.{else-judge-via-then-judge+else-lines_fine, else-judge-via-else-judge}

pub returns-then-area-lt-AREA_SIZE : goal.returns-then-area-lt-AREA_SIZE
returns-then-area-lt-AREA_SIZE c = sym (area_short _ _ c.if-area-lt-AREA_SIZE.true)

pub returns-then-text-gt32768 : goal.returns-then-text-gt32768
returns-then-text-gt32768 c = sym (text_long _ _ c.if-area-lt-AREA_SIZE.false c.if-text-gt32768.true)

pub lines_fine-requires : goal.lines_fine-requires
lines_fine-requires c =
    let p = c.if-area-lt-AREA_SIZE.false in
    (formed_counted _ _ (omega (arith, p)) (sym c.judge.ensures ∙ c.if-judge.true), p)

pub returns-then-lines_fine : goal.returns-then-lines_fine
returns-then-lines_fine c =
    sym (fit _ _ c.if-area-lt-AREA_SIZE.false c.if-text-gt32768.false
    (sym c.judge.ensures ∙ c.if-judge.true)
    (sym c.lines_fine.ensures ∙ c.if-lines_fine.true))

pub returns-else-judge : goal.returns-else-judge
returns-else-judge c =
    elim c.else-judge.branch [
      | else-judge-via-then-judge+else-lines_fine w ↦
          sym (bad_lines _ _ c.if-area-lt-AREA_SIZE.false c.if-text-gt32768.false (sym w.lines_fine.ensures ∙ w.if-lines_fine.false))
      | else-judge-via-else-judge w ↦
          sym (bad_session_lem _ _ c.if-area-lt-AREA_SIZE.false c.if-text-gt32768.false (sym c.judge.ensures ∙ w.if-judge.false))
    ]
