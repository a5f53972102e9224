-- `sdp_take_list::take_zone` meets its contract. Assumes nothing.
use Prim.Native.Nat.{◌≤◌, ◌-◌}
use mathlib.Core.Path.{◌≡◌}
use mathlib.Core.Bool.{false}
use mathlib.Core.List.{List}
use lib.ListN.{length}
use Rattle.sdp_lines.specs.declared.Span.{Span}
use Rattle.sdp_step.specs.Step.{Reading}
use Rattle.sdp_step.specs.Hold.{Holds}
use Rattle.sdp_take_list.proofs.ZoneLaws.{Zoning}
use Rattle.sdp_take_list.proofs.take_zone.Given as goal

abbrev pub invariant-loop-zone : goal.invariant-loop-zone
invariant-loop-zone l =
    (length l.area ≡ length l.initial.area) × (l.i ≤ length l.v) × (l.n ≤ l.i) × ((ρ : Reading Span) (t : List _) → Holds ρ l.marks l.initial.area t → ρ.zoned ≡ false → Zoning l.v ρ.session t l.area l.i l.n)

abbrev pub decreases-loop-zone : goal.decreases-loop-zone
decreases-loop-zone l = length l.v - l.i
