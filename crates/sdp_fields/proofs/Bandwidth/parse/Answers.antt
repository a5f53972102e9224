-- `sdp_fields::Bandwidth::parse` meets its contract: each field is taken out of the definition by its answer. Assumes nothing.
use mathlib.Core.Path.{sym, ap, ◌∙◌}
use Rattle.std.specs.Prelude.{Err}
use Rattle.sdp_judge.specs.Read.{text_of, number_of}
use Rattle.sdp_fields.specs.Records.{bandwidth_of}
use Rattle.sdp_judge.proofs.ReadLaws.{left, by_after, by_some, by_none}
use Rattle.sdp_split.proofs.SplitLaws.{first_within, after-within}
use Rattle.sdp_fields.proofs.Bandwidth.parse.Goals as goal

pub text_of-requires : goal.text_of-requires
text_of-requires c = rw c.first_piece.ensures (first_within _ _)

pub returns-in_err-bwtype : goal.returns-in_err-bwtype
unfolding bandwidth_of
returns-in_err-bwtype c =
    left c.from_residual.ensures
    (by_after _ (c.text_of.ensures ∙ ap (text_of _ _) c.first_piece.ensures) c.in_err-bwtype.was)

pub number_of-requires : goal.number_of-requires
number_of-requires c = rw c.piece_after.ensures (after-within _ _ _)

pub returns-in_err-bandwidth : goal.returns-in_err-bandwidth
unfolding bandwidth_of
returns-in_err-bandwidth c =
    left c.from_residual-in_err-bandwidth.ensures
    (by_after _ (c.text_of.ensures ∙ ap (text_of _ _) c.first_piece.ensures) c.in_ok-bwtype.was
    ∙ by_after _ (c.number_of.ensures ∙ ap (number_of _ _) c.piece_after.ensures) c.in_err-bandwidth.was)

pub returns-then-is_some : goal.returns-then-is_some
unfolding bandwidth_of
returns-then-is_some c =
    ap Err c.wrong_of.ensures ∙ sym
    (by_after _ (c.text_of.ensures ∙ ap (text_of _ _) c.first_piece.ensures) c.in_ok-bwtype.was
    ∙ by_after _ (c.number_of.ensures ∙ ap (number_of _ _) c.piece_after.ensures) c.in_ok-bandwidth.was
    ∙ by_some _ _ c.piece_after-2.ensures c.is_some.ensures c.if-is_some.true)

pub returns : goal.returns
unfolding bandwidth_of
returns c =
    sym
    (by_after _ (c.text_of.ensures ∙ ap (text_of _ _) c.first_piece.ensures) c.in_ok-bwtype.was
    ∙ by_after _ (c.number_of.ensures ∙ ap (number_of _ _) c.piece_after.ensures) c.in_ok-bandwidth.was
    ∙ by_none _ _ c.piece_after-2.ensures c.is_some.ensures c.if-is_some.false)
