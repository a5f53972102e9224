-- `sdp_starts::put_part` meets its contract. Assumes nothing.
use Rattle.sdp_starts.proofs.FillLaws.{fills_full}
use Rattle.sdp_starts.proofs.SeriesLaws.{part-past, part-put, fits-run}
use mathlib.Core.Path.{refl}
use Prim.Native.Nat.{◌<◌, ◌^◌}
use native.Mathlib.Omega.{arith}
use borrow.Author.Rules.{rules}
use Rattle.sdp_starts.proofs.put_part.Goals as goal

pub returns-in_default : goal.returns-in_default
returns-in_default c = fills_full _ _ _ (omega (arith, c.in_default.ensures))

pub returns-then-room-run : goal.returns-then-room-run
returns-then-room-run c =
    part-past _ _ _ _ (search rules) _ c.run_in_part-run.ensures _ _ _ refl (omega (arith, c.in-Some.ensures)) (omega (arith, c.in-Some.ensures, c.if-room-run.true))

pub put_run-requires : goal.put_run-requires
put_run-requires c =
    let r = c.run_in_part-run in
    let f : c.args.w.to < 2 ^ 64 = omega (arith, c.well_formed) in
    (omega (arith, c.requires.ats), omega (arith, c.requires.times), omega (arith, c.requires.repeats), fits-run _ _ _ f _ r.ensures)

pub returns : goal.returns
returns c =
    let f : c.args.w.to < 2 ^ 64 = omega (arith, c.well_formed) in
    rw c.put_run.ensures.len (part-put _ _ _ _ f _ c.run_in_part-run.ensures _ _ _ _ refl (omega (arith, c.in-Some.ensures, c.if-room-run.false)) c.put_run.ensures.columns)
