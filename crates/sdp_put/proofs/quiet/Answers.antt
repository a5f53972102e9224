-- `sdp_put::quiet` meets its contract. The invariant: the first i bytes are above CR. Assumes nothing.
use Rattle.sdp_put.proofs.StringLaws as strings
use Rattle.sdp_put.proofs.StringLaws.{quiet_clean, every_eight, every_last, every_run}
use Rattle.sdp_put.proofs.ByteLaws.{every}
use Rattle.sdp_bytes.proofs.ScanLaws.{rest_from}
use Rattle.sdp_bytes.specs.Runs.{run}
use lib.ListN.{length}
use mathlib.Core.Bool.{false≢true}
use mathlib.Core.Path.{refl, sym, ap, ◌∙◌}
use native.Mathlib.Omega.{arith}
use borrow.Author.Tests.{eqb-true}
use Prim.Native.Nat.{◌-◌}
use Rattle.sdp_put.proofs.quiet.Goals as goal

pub returns-then-n-lt8 : goal.returns-then-n-lt8
returns-then-n-lt8 c e =
    let s = c.args.s.now in
    quiet_clean s (every_run strings.quiet s (sym c.run_len.ensures ∙ eqb-true _ _ e))

pub loop-i-init : goal.loop-i-init
unfolding every
loop-i-init c = (refl, omega arith, refl)

pub loop-i-preserved : goal.loop-i-preserved
loop-i-preserved c =
    let s = c.args.s.now in
    let r = sym (ap (run strings.quiet 8) (rest_from s c.loop-i.i)) ∙ sym c.eight.ensures ∙ c.if-not-eight.false in
    (c.loop-i.invariant.0, omega arith, every_eight strings.quiet s c.loop-i.i c.loop-i.invariant.2 r)

pub returns : goal.returns
returns c e =
    let s = c.args.s.now in
    let k = length s - 8 in
    let r = sym (ap (run strings.quiet 8) (rest_from s k)) ∙ sym c.eight-2.ensures ∙ e in
    quiet_clean s (every_last strings.quiet s c.loop-i.i k (omega arith) (omega arith) c.loop-i.invariant.2 r)

pub eight-requires : goal.eight-requires
eight-requires c = record { lo_bound = omega arith; le_hi = omega arith }

pub returns-then-not-eight : goal.returns-then-not-eight
returns-then-not-eight c e = absurd (false≢true e)

pub eight-requires-2 : goal.eight-requires-2
eight-requires-2 c = record { lo_bound = omega arith; le_hi = omega arith }
