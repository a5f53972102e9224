-- `sdp_fields::Origin::parse` meets its contract: each field is taken out of the definition by its answer. Assumes nothing.
use mathlib.Core.Path.{sym, ap, ◌∙◌}
use Rattle.sdp_fields.specs.Records.{origin_of}
use Rattle.sdp_judge.proofs.ReadLaws.{left, by_then, text_next, number_next, text-within}
use Rattle.sdp_split.proofs.WordLaws.{word_within}
use Rattle.sdp_fields.proofs.Origin.parse.Goals as goal

pub returns-in_err-username : goal.returns-in_err-username
unfolding origin_of
returns-in_err-username c =
    left c.from_residual.ensures
    (text_next _ _ _ _ c.word_text.ensures c.in_err-username.was)

pub returns-in_err-sess_id : goal.returns-in_err-sess_id
unfolding origin_of
returns-in_err-sess_id c =
    left c.from_residual-in_err-sess_id.ensures
    (text_next _ _ _ _ c.word_text.ensures c.in_ok-username.was
    ∙ text_next _ _ _ _ c.word_text-2.ensures c.in_err-sess_id.was)

pub returns-in_err-sess_version : goal.returns-in_err-sess_version
unfolding origin_of
returns-in_err-sess_version c =
    left c.from_residual-in_err-sess_version.ensures
    (text_next _ _ _ _ c.word_text.ensures c.in_ok-username.was
    ∙ text_next _ _ _ _ c.word_text-2.ensures c.in_ok-sess_id.was
    ∙ number_next _ _ _ _ c.word_number.ensures c.in_err-sess_version.was)

pub returns-in_err-place : goal.returns-in_err-place
unfolding origin_of
returns-in_err-place c =
    left c.from_residual-in_err-place.ensures
    (text_next _ _ _ _ c.word_text.ensures c.in_ok-username.was
    ∙ text_next _ _ _ _ c.word_text-2.ensures c.in_ok-sess_id.was
    ∙ number_next _ _ _ _ c.word_number.ensures c.in_ok-sess_version.was
    ∙ by_then _ c.word_address.ensures c.in_err-place.was)

pub username_of-requires : goal.username_of-requires
username_of-requires c = (text-within _ _ _ _ _ (word_within _ _) (sym c.word_text.ensures ∙ c.in_ok-username.was)).0

pub returns : goal.returns
unfolding origin_of
returns c = rw c.username_of.ensures (sym
    (text_next _ _ _ _ c.word_text.ensures c.in_ok-username.was
    ∙ text_next _ _ _ _ c.word_text-2.ensures c.in_ok-sess_id.was
    ∙ number_next _ _ _ _ c.word_number.ensures c.in_ok-sess_version.was
    ∙ by_then _ c.word_address.ensures c.in_ok-place.was))
