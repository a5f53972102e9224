-- `sdp_line::opening_at` meets its contract. Assumes nothing.
use borrow.Author.Tests.{eq-eqb, ne_eqb}
use Rattle.sdp_line.proofs.ZeroLaws.{zero_yes, zero_other, zero_long}
use Rattle.sdp_line.proofs.opening_at.Goals as goal

pub returns-then-letter-ne118 : goal.returns-then-letter-ne118
returns-then-letter-ne118 c = rw (ne_eqb _ _ c.if-letter-ne118.true, c.plain.ensures)

pub returns-then-value-ne1 : goal.returns-then-value-ne1
returns-then-value-ne1 c =
    rw (eq-eqb _ _ c.if-letter-ne118.false, c.on_line.ensures, zero_long c.args.value.now c.if-value-ne1.true)

pub returns-then-value-eq48 : goal.returns-then-value-eq48
returns-then-value-eq48 c =
    rw (eq-eqb _ _ c.if-letter-ne118.false, zero_yes c.args.value.now c.if-value-ne1.false c.if-value-eq48.true)

pub returns : goal.returns
returns c =
    rw (eq-eqb _ _ c.if-letter-ne118.false, c.on_line.ensures, zero_other c.args.value.now c.if-value-ne1.false c.if-value-eq48.false)
