-- `Listing::put_run` of `sdp_listing` meets its contract. The invariant: what stands there and the rest of the run give the whole, in the same arrays.
-- Assumes nothing.
use Rattle.sdp_listing.specs.Columns.{columns, SameArrays}
use Rattle.sdp_listing.proofs.RunLaws.{Filled}
use Rattle.sdp_listing.proofs.Listing.put_run.Given as goal

abbrev pub invariant-loop-k : goal.invariant-loop-k
invariant-loop-k l =
    SameArrays l.initial.self l.self ×
    Filled (columns l.initial.self.at.now l.initial.self.time.now l.initial.self.repeat.now) l.initial.self.len l.whose.time l.whose.repeat l.d l.k-end l.fn.run.first
    (columns l.self.at.now l.self.time.now l.self.repeat.now) l.k l.self.len l.x
