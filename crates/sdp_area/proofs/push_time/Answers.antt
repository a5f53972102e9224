-- `sdp_area::push_time` meets its contract.
-- Assumes nothing.
use mathlib.Core.Path.{ap, ◌∙◌}
use Rattle.sdp_cells.specs.Tables.{grown}
use Rattle.sdp_area.specs.Area.{time_row}
use Rattle.sdp_area.proofs.WordLaws.{◌and◌, eight_in}
use Rattle.sdp_area.proofs.push_time.Goals as goal

pub returns-clause-area_after : goal.returns-clause-area_after
unfolding time_row
returns-clause-area_after c =
    let b = c.args in
    let row = eight_in _ b.start c.words.ensures and eight_in _ b.stop c.words-2.ensures in
    c.push_words.ensures.area_after ∙ ap (grown _ _ _) row.is
