-- `sdp_fields::Time::parse` meets its contract: each field is taken out of the definition by its answer. Assumes nothing.
use mathlib.Core.Path.{sym, ap, ◌∙◌}
use Rattle.std.specs.Prelude.{Err}
use Rattle.sdp_fields.specs.Records.{times_of}
use Rattle.sdp_judge.proofs.ReadLaws.{left, number_next, more_next, end_next}
use Rattle.sdp_fields.proofs.Time.parse.Goals as goal

pub returns-in_err-start_time : goal.returns-in_err-start_time
unfolding times_of
returns-in_err-start_time c =
    left c.from_residual.ensures
    (number_next _ _ _ _ c.word_number.ensures c.in_err-start_time.was)

pub returns-in_err-stop_time : goal.returns-in_err-stop_time
unfolding times_of
returns-in_err-stop_time c =
    left c.from_residual-in_err-stop_time.ensures
    (number_next _ _ _ _ c.word_number.ensures c.in_ok-start_time.was
    ∙ number_next _ _ _ _ c.word_number-2.ensures c.in_err-stop_time.was)

pub returns-then-is_some : goal.returns-then-is_some
unfolding times_of
returns-then-is_some c =
    ap Err c.wrong_of.ensures ∙ sym
    (number_next _ _ _ _ c.word_number.ensures c.in_ok-start_time.was
    ∙ number_next _ _ _ _ c.word_number-2.ensures c.in_ok-stop_time.was
    ∙ more_next _ _ _ _ c.word_at.ensures c.is_some.ensures c.if-is_some.true)

pub returns : goal.returns
unfolding times_of
returns c =
    sym
    (number_next _ _ _ _ c.word_number.ensures c.in_ok-start_time.was
    ∙ number_next _ _ _ _ c.word_number-2.ensures c.in_ok-stop_time.was
    ∙ end_next _ _ _ _ c.word_at.ensures c.is_some.ensures c.if-is_some.false)
