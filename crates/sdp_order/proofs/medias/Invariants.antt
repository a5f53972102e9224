-- `sdp_order::medias` meets its contract. Assumes nothing.
use Prim.Native.Nat.{◌-◌}
use mathlib.Core.Path.{◌≡◌}
use lib.ListN.{length}
use Rattle.sdp_order.specs.From.{run_from, from_media}
use Rattle.sdp_order.proofs.medias.Given as goal

abbrev pub invariant-loop-next : goal.invariant-loop-next
invariant-loop-next l = run_from l.text l.initial.c from_media ≡ run_from l.text l.c from_media

abbrev pub decreases-loop-next : goal.decreases-loop-next
decreases-loop-next l = length l.text - l.c.at.0
