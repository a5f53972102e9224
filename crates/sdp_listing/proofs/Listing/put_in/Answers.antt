-- `Listing::put_in` of `sdp_listing` meets its contract. Assumes nothing.
use Rattle.sdp_listing.proofs.RunLaws.{put_in_is}
use Rattle.sdp_listing.proofs.Listing.put_in.Goals as goal

pub returns-clause-columns : goal.returns-clause-columns
returns-clause-columns c =
    put_in_is _ _ _ _ _ _ _ _ _ c.place_of-p.ensures.0 c.shift_in.ensures c.shift_in-2.ensures c.shift_in-3.ensures
