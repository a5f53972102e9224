-- `sdp_put::number_at` calls itself with v / 10000, for all digits but the last four. The measure is v. Assumes nothing.
use Rattle.sdp_put.proofs.+number_at.Given as goal

abbrev pub decreases-number_at : goal.decreases-number_at
decreases-number_at l = l.v
