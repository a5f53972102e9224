-- `sdp_fields::Attribute::parse` meets its contract: each field is taken out of the definition by its answer. Assumes nothing.
use mathlib.Core.Path.{sym, ap, ◌∙◌}
use Rattle.sdp_judge.specs.Read.{text_of, choice_of}
use Rattle.sdp_fields.specs.Records.{attribute_of}
use Rattle.sdp_judge.proofs.ReadLaws.{left, by_after, by_then}
use Rattle.sdp_split.proofs.SplitLaws.{first_within, rest_within}
use Rattle.sdp_fields.proofs.Attribute.parse.Goals as goal

pub text_of-requires : goal.text_of-requires
text_of-requires c = rw c.first_piece.ensures (first_within _ _)

pub returns-in_err-attribute : goal.returns-in_err-attribute
unfolding attribute_of
returns-in_err-attribute c =
    left c.from_residual.ensures
    (by_after _ (c.text_of.ensures ∙ ap (text_of _ _) c.first_piece.ensures) c.in_err-attribute.was)

pub choice_of-requires : goal.choice_of-requires
choice_of-requires c = rw c.rest_after.ensures (rest_within _ _)

pub returns-in_err-value : goal.returns-in_err-value
unfolding attribute_of
returns-in_err-value c =
    left c.from_residual-in_err-value.ensures
    (by_after _ (c.text_of.ensures ∙ ap (text_of _ _) c.first_piece.ensures) c.in_ok-attribute.was
    ∙ by_then _ (c.choice_of.ensures ∙ ap (choice_of _ _) c.rest_after.ensures) c.in_err-value.was)

pub returns : goal.returns
unfolding attribute_of
returns c =
    sym
    (by_after _ (c.text_of.ensures ∙ ap (text_of _ _) c.first_piece.ensures) c.in_ok-attribute.was
    ∙ by_then _ (c.choice_of.ensures ∙ ap (choice_of _ _) c.rest_after.ensures) c.in_ok-value.was)
