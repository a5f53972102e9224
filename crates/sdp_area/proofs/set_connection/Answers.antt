-- `sdp_area::set_connection` meets its contract.
-- Assumes nothing.
use mathlib.Core.Path.{ap, ◌∙◌}
use Rattle.sdp_cells.specs.Bytes.{over}
use Rattle.sdp_area.specs.Area.{connection_bytes}
use Rattle.sdp_area.proofs.WordLaws.{◌and◌, word_is, span_is}
use Rattle.sdp_area.proofs.set_connection.Goals as goal

pub returns : goal.returns
unfolding connection_bytes
returns c =
    let b = c.args in
    let row = word_is 1 and span_is b.c.nettype and span_is b.c.addrtype and span_is b.c.connection_address in
    c.put_words.ensures ∙ ap (over _ _) row.is
