-- `sdp_window::run_below` meets its contract. Assumes nothing.
use mathlib.Core.Path.{◌∙◌}
use native.Mathlib.Nat.{mod-lt}
use Rattle.sdp_window.proofs.RunLaws.{below_after}
use Rattle.sdp_window.proofs.run_below.Goals as goal

pub add_mod-requires : goal.add_mod-requires
add_mod-requires c = (mod-lt _ c.requires, mod-lt _ c.requires)

pub run_after-requires : goal.run_after-requires
run_after-requires c = rw c.add_mod.ensures (mod-lt _ c.requires)

pub returns : goal.returns
returns c = c.run_after.ensures ∙ below_after _ _ _ _ _ c.add_mod.ensures
