-- `sdp_area::push_bandwidth` meets its contract.
-- Assumes nothing.
use mathlib.Core.Path.{ap, ◌∙◌}
use Rattle.sdp_cells.specs.Tables.{grown}
use Rattle.sdp_area.specs.Area.{bandwidth_row}
use Rattle.sdp_area.proofs.WordLaws.{◌and◌, word_is, span_is, eight_in}
use Rattle.sdp_area.proofs.push_bandwidth.Goals as goal

pub returns-clause-area_after : goal.returns-clause-area_after
unfolding bandwidth_row
returns-clause-area_after c =
    let b = c.args in
    let row = word_is b.owner and span_is b.bwtype and eight_in _ b.bandwidth c.words.ensures in
    c.push_words.ensures.area_after ∙ ap (grown _ _ _) row.is
