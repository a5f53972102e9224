-- `sdp_listing::comes_first` meets its contract. Assumes nothing.
use Rattle.std.proofs.Common.{arith}
use Rattle.std.proofs.lemmas.Bool.Decides.{nat_tests}
use Rattle.sdp_hours.specs.Listing as listing
use Rattle.sdp_listing.proofs.comes_first.Goals as goal

pub returns-then-x-y : goal.returns-then-x-y
unfolding listing.before
returns-then-x-y c = grind (arith, nat_tests, c.if-x-y.true)

pub returns-then-x-y-2 : goal.returns-then-x-y-2
unfolding listing.before
returns-then-x-y-2 c = grind (arith, nat_tests, c.if-x-y.false, c.if-x-y-2.true)

pub returns : goal.returns
unfolding listing.before
returns c = grind (arith, nat_tests, c.if-x-y.false, c.if-x-y-2.false)
