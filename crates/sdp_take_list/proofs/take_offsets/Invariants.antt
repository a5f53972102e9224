-- `sdp_take_list::take_offsets` meets its contract. Assumes nothing.
use Prim.Native.Nat.{◌+◌, ◌≤◌, ◌-◌}
use mathlib.Core.Path.{◌≡◌}
use mathlib.Core.List.{List, []}
use lib.ListN.{length}
use Rattle.sdp_lines.specs.declared.Span.{Span}
use Rattle.sdp_area.specs.Session.{Repeat}
use Rattle.sdp_step.specs.Step.{Reading}
use Rattle.sdp_step.specs.Hold.{Holds}
use Rattle.sdp_take_list.specs.Repeats.{RoomHolds}
use Rattle.sdp_take_list.proofs.RepeatLaws.{Repeating}
use Rattle.sdp_take_list.proofs.take_offsets.Given as goal

abbrev pub invariant-loop-value : goal.invariant-loop-value
invariant-loop-value l =
    (length l.area ≡ length l.initial.area) × (l.i ≤ length l.v) × ((ρ : Reading Span) (q : Repeat) (a₀ t : List _) → Holds ρ l.marks a₀ t → l.owner ≡ length ρ.session.tables.repeats + 1 → RoomHolds ρ.session q [] l.initial.room l.initial.area t → Repeating l.v l.from ρ.session q t l.room l.area l.i)

abbrev pub decreases-loop-value : goal.decreases-loop-value
decreases-loop-value l = length l.v - l.i
