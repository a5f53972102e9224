-- `sdp_valid::Look::string` meets its contract. Assumes nothing.
use mathlib.Core.Path.{sym, ◌∙◌}
use borrow.Author.Tests.{lt-leb}
use Rattle.sdp_valid.proofs.JudgeLaws.{string_outside, string_inside}
use Rattle.sdp_valid.proofs.PlainLaws.{string_plain}
use Rattle.sdp_valid.proofs.Look.string.Goals as goal

pub returns-then-self : goal.returns-then-self
returns-then-self c =
    c.if-self.true ∙ sym (string_plain _ _ _ _ _ c.get2-place.ensures.0 c.get2-len.ensures.0 c.if-end-self.true (sym c.args.self.now.plain_value ∙ c.if-self.true))

pub returns-else-self : goal.returns-else-self
returns-else-self c =
    c.is_utf8.ensures ∙ sym (string_inside _ _ _ _ _ c.get2-place.ensures.0 c.get2-len.ensures.0 c.if-end-self.true)

pub returns-else-end-self : goal.returns-else-end-self
returns-else-end-self c =
    lt-leb _ _ c.if-end-self.false ∙ sym (string_outside _ _ _ _ _ c.get2-place.ensures.0 c.get2-len.ensures.0 c.if-end-self.false)
