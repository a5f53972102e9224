-- `sdp_area::set_text` meets its contract.
-- Assumes nothing.
use mathlib.Core.Path.{ap, ◌∙◌}
use Rattle.sdp_cells.specs.Bytes.{over}
use Rattle.sdp_area.specs.Latest.{over_title}
use Rattle.sdp_area.proofs.WordLaws.{◌and◌, word_is, span_is}
use Rattle.sdp_area.proofs.set_text.Goals as goal

pub returns-in-Description : goal.returns-in-Description
returns-in-Description c =
    let row = word_is 1 and span_is c.args.x in
    rw c.in-Description.is (c.put_words.ensures ∙ ap (over _ _) row.is)

pub returns-in-Uri : goal.returns-in-Uri
returns-in-Uri c =
    let row = word_is 1 and span_is c.args.x in
    rw c.in-Uri.is (c.put_words-in-Uri.ensures ∙ ap (over _ _) row.is)

pub returns-in-Title : goal.returns-in-Title
returns-in-Title c =
    let row = word_is 1 and span_is c.args.x in
    rw c.in-Title.is (c.put_title.ensures ∙ ap (over_title _) row.is)
