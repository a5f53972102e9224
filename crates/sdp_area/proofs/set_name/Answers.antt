-- `sdp_area::set_name` meets its contract.
-- Assumes nothing.
use mathlib.Core.Path.{ap, ◌∙◌}
use Rattle.sdp_cells.specs.Bytes.{over}
use Rattle.sdp_area.proofs.WordLaws.{span_is}
use Rattle.sdp_area.proofs.set_name.Goals as goal

pub returns : goal.returns
returns c =
    let b = c.args in
    let k = c.put_words.ensures in
    let row = span_is b.x in
    k ∙ ap (over _ _) row.is
