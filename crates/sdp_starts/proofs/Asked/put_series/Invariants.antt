-- `Asked::put_series` of `sdp_starts` meets its contract. Assumes nothing.
use Rattle.sdp_listing.specs.Columns.{held}
use Rattle.sdp_starts.proofs.SeriesLaws.{Passed}
use Rattle.sdp_starts.proofs.Asked.put_series.Given as goal

abbrev pub invariant-loop-i : goal.invariant-loop-i
invariant-loop-i l =
    Passed l.whose l.s l.stop l.w l.self.area.now l.zones (held l.initial.list) l.initial.list.len (held l.list) l.after l.zone l.q l.i l.list.len
