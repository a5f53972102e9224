-- `sdp_area::push_media` meets its contract. A new media has no title and no key.
-- Assumes nothing.
use mathlib.Core.Path.{ap, ◌∙◌}
use Rattle.sdp_cells.specs.Tables.{grown}
use Rattle.sdp_cells.specs.Bytes.{zeros}
use Rattle.sdp_area.specs.Area.{media_row, opt}
use Rattle.sdp_area.proofs.WordLaws.{◌and◌, word_is, span_is, none_is, number_in}
use Rattle.sdp_area.proofs.push_media.Goals as goal

pub returns-clause-area_after : goal.returns-clause-area_after
unfolding media_row opt zeros
returns-clause-area_after c =
    let b = c.args in
    let m = b.m in
    let row = span_is m.media and word_is m.port and number_in _ m.num_ports c.number_words.ensures and span_is m.proto and span_is m.fmt and none_is 3 and none_is 6 in
    c.push_words.ensures.area_after ∙ ap (grown _ _ _) row.is
