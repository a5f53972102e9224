-- `Asked::put_times` of `sdp_starts` meets its contract. Assumes nothing.
use Rattle.sdp_area.specs.Session.{Time}
use Rattle.sdp_starts.specs.Fill.{time_in}
use mathlib.Core.List.{List}
use Prim.Native.Nat.{ℕ}
use Rattle.sdp_hours.specs.Listing.{Start}
use Rattle.sdp_window.specs.declared.Window.{Window}
use Rattle.sdp_listing.specs.Columns.{held}
use Rattle.sdp_area.specs.Area.{times_at}
use Rattle.sdp_decode.specs.Decode.{time_of}
use Rattle.sdp_starts.proofs.RowLaws.{Left}
use Rattle.sdp_starts.proofs.Asked.put_times.Given as goal

-- what a row lists
abbrev pub row : List ℕ → Window → ℕ → Time → List Start
row a w i t = time_in a w i t

abbrev pub invariant-loop-i : goal.invariant-loop-i
invariant-loop-i l =
    Left (row l.self.area.now l.self.window) time_of 16 times_at l.self.area.now l.rows (held l.initial.list) l.initial.list.len (held l.list) l.p l.i l.list.len
