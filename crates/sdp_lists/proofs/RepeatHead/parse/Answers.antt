-- `sdp_lists::RepeatHead::parse` meets its contract: each field is taken out of the definition by its answer. Assumes nothing.
use mathlib.Core.Path.{sym, ◌∙◌}
use Rattle.sdp_lists.specs.Answers.{repeat_head}
use Rattle.sdp_judge.proofs.ReadLaws.{left, by_after}
use Rattle.sdp_lists.proofs.RepeatHead.parse.Goals as goal

pub returns-in_err-repeat_interval : goal.returns-in_err-repeat_interval
unfolding repeat_head
returns-in_err-repeat_interval c =
    left c.from_residual.ensures
    (by_after _ c.word_time.ensures c.in_err-repeat_interval.was)

pub returns-in_err-active_duration : goal.returns-in_err-active_duration
unfolding repeat_head
returns-in_err-active_duration c =
    left c.from_residual-in_err-active_duration.ensures
    (by_after _ c.word_time.ensures c.in_ok-repeat_interval.was
    ∙ by_after _ c.word_time-2.ensures c.in_err-active_duration.was)

pub returns : goal.returns
unfolding repeat_head
returns c =
    sym
    (by_after _ c.word_time.ensures c.in_ok-repeat_interval.was
    ∙ by_after _ c.word_time-2.ensures c.in_ok-active_duration.was)
