-- `sdp_order::first_lines` meets its contract. Assumes nothing.
use mathlib.Core.Path.{◌∙◌}
use Rattle.std.specs.Prelude.{Some, None}
use Rattle.sdp_lines.specs.Lines.{start}
use Rattle.sdp_order.specs.Order.{grammar}
use Rattle.sdp_order.specs.From.{parts_from, from_title}
use Rattle.sdp_order.proofs.PassLaws.{leads_on, must_come}
use Rattle.sdp_order.proofs.first_lines.Goals as goal

pub returns-in_err-o : goal.returns-in_err-o
returns-in_err-o c =
    rw c.from_residual.ensures (must_come _ start 0x76 _ None (rw c.new.ensures at c.in_err-o.ensures))

pub returns-in_err-s : goal.returns-in_err-s
returns-in_err-s c =
    rw c.from_residual-in_err-s.ensures (must_come _ start 0x76 _ (Some _) (rw c.new.ensures at c.in_ok-o.ensures) ∙ must_come _ _ 0x6f _ None c.in_err-s.ensures)

pub returns : goal.returns
returns c =
    let t = c.args.text.now in
    let s = c.in_ok-s.s in
    leads_on t grammar (parts_from 2 grammar) from_title start s c.line_with-3.result
    (must_come t start 0x76 _ (Some _) (rw c.new.ensures at c.in_ok-o.ensures) ∙ must_come t _ 0x6f _ (Some _) c.in_ok-s.ensures)
    (must_come t s 0x73 from_title c.line_with-3.result c.line_with-3.ensures)
