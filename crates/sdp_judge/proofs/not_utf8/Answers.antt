-- `sdp_judge::not_utf8` meets its contract. Assumes nothing.
use mathlib.Core.Path.{ap, ◌∙◌}
use Rattle.sdp_utf8.specs.Utf8.{utf8_end}
use native.Mathlib.Omega.{arith}
use Rattle.sdp_judge.proofs.ReadLaws.{bad_inside}
use Rattle.sdp_judge.proofs.not_utf8.Goals as goal

pub overflow_add-result : goal.overflow_add-result
overflow_add-result c =
    let e = c.utf8_end.ensures ∙ ap utf8_end c.of.ensures in
    omega (arith, c.well_formed, bad_inside c.args.v.now c.args.p c.requires)
