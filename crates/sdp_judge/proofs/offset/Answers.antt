-- `sdp_judge::offset` meets its contract. Assumes nothing.
use mathlib.Core.Path.{◌∙◌}
use native.Mathlib.Omega.{arith}
use Rattle.sdp_judge.proofs.SignedLaws.{offset_none, offset-plain, offset-minus}
use Rattle.sdp_judge.proofs.offset.Goals as goal

pub returns-then-s-eq0 : goal.returns-then-s-eq0
returns-then-s-eq0 c = c.signed_of.ensures ∙ offset_none _ _ c.typed_time.ensures c.if-s-eq0.true

pub returns-then-s-eq45 : goal.returns-then-s-eq45
returns-then-s-eq45 c =
    c.signed_of-then-s-eq45.ensures ∙ offset-minus c.args.s.now _ c.typed_time-then-s-eq45.ensures (omega (arith, c.if-s-eq0.false)) c.if-s-eq45.true

pub returns : goal.returns
returns c = c.signed_of-2.ensures ∙ offset-plain _ _ c.typed_time-2.ensures c.if-s-eq45.false
