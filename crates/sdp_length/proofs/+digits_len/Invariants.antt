-- `sdp_length::digits_len` calls itself with v / 10000, for all digits but the last four. The measure is v. Assumes nothing.
use Rattle.sdp_length.proofs.+digits_len.Given as goal

abbrev pub decreases-digits_len : goal.decreases-digits_len
decreases-digits_len l = l.v
