-- `Asked::put_repeats` of `sdp_starts` meets its contract. Assumes nothing.
use Rattle.sdp_area.specs.Session.{Repeat}
use Rattle.sdp_decode.specs.Rows.{mine}
use Rattle.sdp_starts.specs.Fill.{repeat_in, time_for}
use mathlib.Core.List.{List}
use Prim.Native.Nat.{ℕ}
use Rattle.sdp_hours.specs.Listing.{Start}
use Rattle.sdp_window.specs.declared.Window.{Window}
use Rattle.sdp_listing.specs.Columns.{held}
use Rattle.sdp_area.specs.Area.{repeats_at}
use Rattle.sdp_decode.specs.Decode.{repeat_of}
use Rattle.sdp_starts.proofs.RowLaws.{Left}
use Rattle.sdp_starts.proofs.Asked.put_repeats.Given as goal

-- what a row lists
abbrev pub row : List ℕ → ℕ → ℕ → ℕ → Window → ℕ → Repeat → List Start
row a i start stop w j r = mine i r.owner (repeat_in a w i (time_for start stop) j r)

abbrev pub invariant-loop-j : goal.invariant-loop-j
invariant-loop-j l =
    Left (row l.self.area.now l.t.number l.t.start l.t.stop l.self.window) repeat_of 18 repeats_at l.self.area.now l.rows (held l.initial.list) l.initial.list.len (held l.list) l.p l.j l.list.len
