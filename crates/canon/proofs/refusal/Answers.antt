-- `canon::refusal` meets its contract. Assumes nothing.
use Rattle.sdp_put.proofs.PutsLaws.{◌then◌}
use Rattle.canon.proofs.CanonLaws.{length-refused, told_in}
use native.Mathlib.Omega.{arith}
use Rattle.std.proofs.Common.{rules}
use Rattle.canon.proofs.refusal.Goals as goal

pub returns : goal.returns
returns c =
    let g = c.well_formed in
    let p = c.all.ensures then c.number.ensures then c.all-2.ensures then c.number-2.ensures then c.all-3.ensures then c.number-3.ensures then c.byte.ensures in
    let n = p.same in
    told_in c.args.out.now _ _ _ _ (length-refused c.args.a (omega (arith, g)) (omega (arith, g)) (omega (arith, g))) c.requires (omega (arith, g)) p.put (search rules)
