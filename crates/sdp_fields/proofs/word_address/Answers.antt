-- `sdp_fields::word_address` meets its contract: each field is taken out of the definition by its answer. Assumes nothing.
use mathlib.Core.Path.{sym, ap, ◌∙◌}
use Rattle.std.specs.Prelude.{Err}
use Rattle.sdp_fields.specs.Records.{address_of}
use Rattle.sdp_judge.proofs.ReadLaws.{left, text_next, token_next, more_next, end_next}
use Rattle.sdp_fields.proofs.word_address.Goals as goal

pub returns-in_err-nettype : goal.returns-in_err-nettype
unfolding address_of
returns-in_err-nettype c =
    left c.from_residual.ensures
    (token_next _ _ _ _ c.word_token.ensures c.in_err-nettype.was)

pub returns-in_err-addrtype : goal.returns-in_err-addrtype
unfolding address_of
returns-in_err-addrtype c =
    left c.from_residual-in_err-addrtype.ensures
    (token_next _ _ _ _ c.word_token.ensures c.in_ok-nettype.was
    ∙ token_next _ _ _ _ c.word_token-2.ensures c.in_err-addrtype.was)

pub returns-in_err-connection_address : goal.returns-in_err-connection_address
unfolding address_of
returns-in_err-connection_address c =
    left c.from_residual-in_err-connection_address.ensures
    (token_next _ _ _ _ c.word_token.ensures c.in_ok-nettype.was
    ∙ token_next _ _ _ _ c.word_token-2.ensures c.in_ok-addrtype.was
    ∙ text_next _ _ _ _ c.word_text.ensures c.in_err-connection_address.was)

pub returns-then-is_some : goal.returns-then-is_some
unfolding address_of
returns-then-is_some c =
    ap Err c.wrong_of.ensures ∙ sym
    (token_next _ _ _ _ c.word_token.ensures c.in_ok-nettype.was
    ∙ token_next _ _ _ _ c.word_token-2.ensures c.in_ok-addrtype.was
    ∙ text_next _ _ _ _ c.word_text.ensures c.in_ok-connection_address.was
    ∙ more_next _ _ _ _ c.word_at.ensures c.is_some.ensures c.if-is_some.true)

pub returns : goal.returns
unfolding address_of
returns c =
    sym
    (token_next _ _ _ _ c.word_token.ensures c.in_ok-nettype.was
    ∙ token_next _ _ _ _ c.word_token-2.ensures c.in_ok-addrtype.was
    ∙ text_next _ _ _ _ c.word_text.ensures c.in_ok-connection_address.was
    ∙ end_next _ _ _ _ c.word_at.ensures c.is_some.ensures c.if-is_some.false)
