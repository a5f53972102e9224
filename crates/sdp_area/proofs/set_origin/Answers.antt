-- `sdp_area::set_origin` meets its contract.
-- Assumes nothing.
use mathlib.Core.Path.{ap, ◌∙◌}
use Rattle.sdp_cells.specs.Bytes.{over}
use Rattle.sdp_area.specs.Area.{origin_bytes}
use Rattle.sdp_area.proofs.WordLaws.{◌and◌, word_is, span_is, string_in, eight_in}
use Rattle.sdp_area.proofs.set_origin.Goals as goal

pub returns : goal.returns
unfolding origin_bytes
returns c =
    let b = c.args in
    let o = b.o in
    let row = word_is 1 and string_in _ o.username c.string_words.ensures and span_is o.sess_id and eight_in _ o.sess_version c.words.ensures and span_is o.nettype and span_is o.addrtype and span_is o.unicast_address in
    c.put_words.ensures ∙ ap (over _ _) row.is
