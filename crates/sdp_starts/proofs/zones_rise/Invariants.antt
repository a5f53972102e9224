-- `sdp_starts::zones_rise` meets its contract. Assumes nothing.
use Rattle.sdp_area.specs.Area.{zones_at}
use Rattle.sdp_decode.specs.Rows.{rows_at}
use Rattle.sdp_decode.specs.Decode.{zone_of, zones_in}
use Rattle.sdp_hours.specs.Hours.{rise}
use mathlib.Core.Path.{◌≡◌}
use Prim.Native.Nat.{◌+◌, ◌*◌, ◌-◌, ◌≤◌, ◌<◌}
use Rattle.sdp_starts.proofs.zones_rise.Given as goal

abbrev pub invariant-loop-i : goal.invariant-loop-i
invariant-loop-i l =
    (l.rows < 65536) × (l.p ≤ zones_at + 2 + l.i * 16) × (l.i ≤ l.rows) × (rise 0 (zones_in l.area) ≡ rise l.last (rows_at zone_of 16 (l.rows - l.i) l.area l.p))
