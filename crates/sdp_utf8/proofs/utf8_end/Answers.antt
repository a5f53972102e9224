-- `sdp_utf8::utf8_end` meets its contract. The invariant: the whole list's end is i and the end of the rest from i.
-- Assumes nothing.
use native.Mathlib.Omega.{arith}
use Rattle.sdp_utf8.proofs.Utf8Laws.{plain_on, utf8_steps}
use Rattle.sdp_bytes.proofs.ScanLaws.{rest_from, step_on, step_here, step_done}
use Rattle.sdp_utf8.proofs.utf8_end.Goals as goal

pub loop-i-init : goal.loop-i-init
loop-i-init c = rw (← c.plain_len-i.ensures) at (plain_on c.args.s.now)

pub returns-then-n-eq0 : goal.returns-then-n-eq0
returns-then-n-eq0 c = step_here utf8_steps _ _ c.loop-i.invariant _ (rw rest_from at c.step_len-n.ensures) c.if-n-eq0.true

pub loop-i-preserved : goal.loop-i-preserved
loop-i-preserved c = step_on utf8_steps _ _ c.loop-i.invariant _ (rw rest_from at c.step_len-n.ensures) c.if-n-eq0.false

pub overflow_add-i : goal.overflow_add-i
overflow_add-i c = let h = loop-i-preserved c in omega arith

pub loop-i-smaller : goal.loop-i-smaller
loop-i-smaller c = let h = loop-i-preserved c in omega arith

pub returns : goal.returns
returns c = step_done utf8_steps _ _ c.loop-i.invariant c.loop-i-test.false
