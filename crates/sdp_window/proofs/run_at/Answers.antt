-- `sdp_window::run_at` meets its contract. Assumes nothing.
use mathlib.Core.Path.{◌∙◌}
use native.Mathlib.Nat.{mod-lt}
use Rattle.sdp_window.proofs.RunLaws.{at_here, at_after}
use Rattle.sdp_window.proofs.run_at.Goals as goal

pub returns-then-lo-a : goal.returns-then-lo-a
returns-then-lo-a c = c.run_from.ensures ∙ at_here _ _ _ _ c.if-lo-a.true

pub run_after-requires : goal.run_after-requires
run_after-requires c = mod-lt _ c.requires

pub returns : goal.returns
returns c = c.run_after.ensures ∙ at_after _ _ _ _ c.if-lo-a.false
