-- `sdp_area::push_offset` meets its contract.
-- Assumes nothing.
use mathlib.Core.Path.{ap, ◌∙◌}
use Rattle.sdp_cells.specs.Tables.{grown}
use Rattle.sdp_area.specs.Area.{offset_row}
use Rattle.sdp_area.proofs.WordLaws.{◌and◌, word_is, eight_in}
use Rattle.sdp_area.proofs.push_offset.Goals as goal

pub returns-clause-area_after : goal.returns-clause-area_after
unfolding offset_row
returns-clause-area_after c =
    let b = c.args in
    let row = word_is b.owner and eight_in _ b.offset c.words.ensures in
    c.push_words.ensures.area_after ∙ ap (grown _ _ _) row.is
