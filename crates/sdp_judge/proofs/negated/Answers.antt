-- `sdp_judge::negated` meets its contract. Assumes nothing.
use native.Mathlib.Omega.{arith}
use borrow.Author.Tests.{eq-eqb, ne_eqb}
use Rattle.sdp_judge.proofs.negated.Goals as goal

pub returns-then-m-eq0 : goal.returns-then-m-eq0
returns-then-m-eq0 c = rw (eq-eqb _ _ c.if-m-eq0.true)

pub returns : goal.returns
returns c = rw (ne_eqb _ _ c.if-m-eq0.false) (omega arith)
