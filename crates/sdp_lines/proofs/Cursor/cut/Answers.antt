-- `sdp_lines::Cursor::cut` meets its contract. Assumes nothing.
use native.Mathlib.Omega.{arith}
use Rattle.sdp_lines.proofs.CutLaws.{cut_end, cut_spoilt, whole-fits, good_has_two, cut_blank, cut_bad, cut_good}
use Rattle.sdp_lines.proofs.Cursor.cut.Goals as goal

pub returns-then-text-at : goal.returns-then-text-at
returns-then-text-at c = cut_end _ _ c.if-text-at.true

pub overflow_add-end : goal.overflow_add-end
overflow_add-end c =
    omega (arith, whole-fits c.args.text.now c.args.self c.if-text-at.false c.first_line.result c.first_line.ensures _ _ c.in-Ok.is)

pub overflow_add-next : goal.overflow_add-next
overflow_add-next c =
    omega (arith, whole-fits c.args.text.now c.args.self c.if-text-at.false c.first_line.result c.first_line.ensures _ _ c.in-Ok.is)

pub slice_bounds-form_of-end : goal.slice_bounds-form_of-end
slice_bounds-form_of-end c =
    omega (arith, whole-fits c.args.text.now c.args.self c.if-text-at.false c.first_line.result c.first_line.ensures _ _ c.in-Ok.is)

pub overflow_sub-value : goal.overflow_sub-value
overflow_sub-value c =
    good_has_two c.args.text.now c.args.self c.if-text-at.false c.first_line.result c.first_line.ensures _ _ c.in-Ok.is c.form_of.result c.form_of.ensures c.in-Ok-Some.letter (rw c.in-Ok-Some.field-0-is at c.in-Ok-Some.is)

pub returns-in-Err : goal.returns-in-Err
returns-in-Err c =
    cut_spoilt c.args.text.now c.args.self c.if-text-at.false c.first_line.result c.first_line.ensures _ c.in-Err.is

pub returns-in-Ok-None : goal.returns-in-Ok-None
returns-in-Ok-None c =
    cut_blank c.args.text.now c.args.self c.if-text-at.false c.first_line.result c.first_line.ensures _ _ c.in-Ok.is c.form_of.result c.form_of.ensures _ c.next.ensures (rw c.in-Ok-None.field-0-is at c.in-Ok-None.is)

pub returns-in-Err-form_of : goal.returns-in-Err-form_of
returns-in-Err-form_of c =
    cut_bad c.args.text.now c.args.self c.if-text-at.false c.first_line.result c.first_line.ensures _ _ c.in-Ok.is c.form_of.result c.form_of.ensures _ c.in-Err-form_of.is

pub returns-in-Ok-Some : goal.returns-in-Ok-Some
returns-in-Ok-Some c =
    rw c.in-Ok-Some.field-0-is
    (cut_good c.args.text.now c.args.self c.if-text-at.false c.first_line.result c.first_line.ensures _ _ c.in-Ok.is c.form_of.result c.form_of.ensures _ c.next.ensures c.in-Ok-Some.letter (rw c.in-Ok-Some.field-0-is at c.in-Ok-Some.is))
