-- `sdp_area::push_repeat` meets its contract.
-- Assumes nothing.
use mathlib.Core.Path.{ap, ◌∙◌}
use Rattle.sdp_cells.specs.Tables.{grown}
use Rattle.sdp_area.specs.Area.{repeat_row}
use Rattle.sdp_area.proofs.WordLaws.{◌and◌, word_is, eight_in}
use Rattle.sdp_area.proofs.push_repeat.Goals as goal

pub returns-clause-area_after : goal.returns-clause-area_after
unfolding repeat_row
returns-clause-area_after c =
    let b = c.args in
    let row = word_is b.owner and eight_in _ b.interval c.words.ensures and eight_in _ b.duration c.words-2.ensures in
    c.push_words.ensures.area_after ∙ ap (grown _ _ _) row.is
