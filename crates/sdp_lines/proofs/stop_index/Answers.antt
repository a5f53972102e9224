-- `sdp_lines::stop_index` meets its contract. The invariant: the whole list's stop is i and the stop of the rest from i.
-- Assumes nothing.
use mathlib.Core.Path.{◌≡◌, sym, ◌∙◌}
use lib.ListN.{length}
use native.Mathlib.Omega.{arith}
use native.Mathlib.Nat.{le_of_eq}
use Rattle.sdp_lines.proofs.StopLaws.{quiet_pass, stop-until}
use Rattle.sdp_bytes.proofs.ScanLaws.{until_next, until_here, until_done, run_passed}
use Rattle.sdp_lines.proofs.stop_index.Goals as goal

pub loop-i-init : goal.loop-i-init
loop-i-init c = run_passed _ quiet_pass _ _ (le_of_eq c.run_len-i.ensures)

pub returns-then-stop_byte : goal.returns-then-stop_byte
returns-then-stop_byte c =
    until_here stop-until _ _ c.loop-i.invariant c.loop-i-test.true (sym c.stop_byte.ensures ∙ c.if-stop_byte.true)

pub loop-i-preserved : goal.loop-i-preserved
loop-i-preserved c =
    until_next stop-until _ _ c.loop-i.invariant c.loop-i-test.true (sym c.stop_byte.ensures ∙ c.if-stop_byte.false)

pub returns : goal.returns
returns c =
    let l = c.loop-i in
    let e : length c.args.s.now ≡ l.i = omega (arith, l.invariant.0) in
    e ∙ until_done stop-until _ _ l.invariant c.loop-i-test.false
