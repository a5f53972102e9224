-- `sdp_area::push_attribute` meets its contract.
-- Assumes nothing.
use mathlib.Core.Path.{ap, ◌∙◌}
use Rattle.sdp_cells.specs.Tables.{grown}
use Rattle.sdp_area.specs.Area.{attribute_row}
use Rattle.sdp_area.proofs.WordLaws.{◌and◌, word_is, span_is, string_in}
use Rattle.sdp_area.proofs.push_attribute.Goals as goal

pub returns-clause-area_after : goal.returns-clause-area_after
unfolding attribute_row
returns-clause-area_after c =
    let b = c.args in
    let row = word_is b.owner and span_is b.name and string_in _ b.value c.string_words.ensures in
    c.push_words.ensures.area_after ∙ ap (grown _ _ _) row.is
