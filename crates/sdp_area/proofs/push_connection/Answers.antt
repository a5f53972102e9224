-- `sdp_area::push_connection` meets its contract.
-- Assumes nothing.
use mathlib.Core.Path.{ap, ◌∙◌}
use Rattle.sdp_cells.specs.Tables.{grown}
use Rattle.sdp_area.specs.Area.{media_connection_row, connection_bytes}
use Rattle.sdp_area.proofs.WordLaws.{◌and◌, word_is, span_is}
use Rattle.sdp_area.proofs.push_connection.Goals as goal

pub returns-clause-area_after : goal.returns-clause-area_after
unfolding media_connection_row connection_bytes
returns-clause-area_after c =
    let b = c.args in
    let row = word_is b.owner and span_is b.c.nettype and span_is b.c.addrtype and span_is b.c.connection_address in
    c.push_words.ensures.area_after ∙ ap (grown _ _ _) row.is
