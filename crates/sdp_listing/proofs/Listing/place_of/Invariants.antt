-- `Listing::place_of` of `sdp_listing` meets its contract. The invariant: the whole place is the starts passed and the place among the
-- rest. Assumes nothing.
use mathlib.Core.Path.{◌≡◌}
use Prim.Native.Nat.{◌≤◌, ◌+◌}
use Rattle.sdp_listing.specs.Columns.{columns, rows_from, place_of, start_of}
use Rattle.sdp_listing.proofs.PlaceLaws.{rest}
use Rattle.sdp_listing.proofs.Listing.place_of.Given as goal

abbrev pub invariant-loop-i : goal.invariant-loop-i
invariant-loop-i l =
    (l.i ≤ l.self.len) × (place_of (start_of l.x) (rows_from (columns l.self.at.now l.self.time.now l.self.repeat.now) 0 l.self.len) ≡ l.i + rest (columns l.self.at.now l.self.time.now l.self.repeat.now) (start_of l.x) l.self.len l.i)
