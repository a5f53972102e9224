-- `Asked::put_offsets` of `sdp_starts` meets its contract. Assumes nothing.
use Rattle.sdp_area.specs.Session.{Offset}
use Rattle.sdp_decode.specs.Rows.{mine}
use Rattle.sdp_listing.specs.declared.Whose.{Whose}
use Rattle.sdp_starts.specs.declared.Rule.{Rule}
use Rattle.sdp_starts.specs.Fill.{series_of}
use mathlib.Core.List.{List}
use Prim.Native.Nat.{ℕ}
use Rattle.sdp_hours.specs.Listing.{Start}
use Rattle.sdp_window.specs.declared.Window.{Window}
use Rattle.sdp_listing.specs.Columns.{held}
use Rattle.sdp_area.specs.Area.{offsets_at}
use Rattle.sdp_decode.specs.Decode.{offset_of}
use Rattle.sdp_starts.proofs.RowLaws.{Left}
use Rattle.sdp_starts.proofs.Asked.put_offsets.Given as goal

-- what a row lists
abbrev pub row : List ℕ → Whose → Rule → Window → ℕ → Offset → List Start
row a x u w k o = mine x.repeat o.owner (series_of a x u o.offset w)

abbrev pub invariant-loop-k : goal.invariant-loop-k
invariant-loop-k l =
    Left (row l.self.area.now l.whose l.rule l.self.window) offset_of 10 offsets_at l.self.area.now l.rows (held l.initial.list) l.initial.list.len (held l.list) l.p l.k l.list.len
