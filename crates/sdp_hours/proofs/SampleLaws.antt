-- The samples hold: each is computed. Assumes nothing.
use mathlib.Core.Path.{refl}
use Rattle.sdp_decode.specs.Rows as rows
use Rattle.sdp_hours.specs.Hours as hours
use Rattle.sdp_hours.specs.Listing as listing
use Rattle.sdp_hours.specs.Starts as starts
use Rattle.sdp_hours.specs.Sampled.{Sampled}

pub start_samples : Sampled
unfolding hours.latest hours.rise hours.listed hours.most_west hours.starts_from hours.repeated listing.before listing.insert listing.into rows.each rows.mine starts.owns starts.numbered starts.of_repeat starts.of_time starts.starts_of starts.answered starts.starts_in
start_samples = record {
  single = refl;
  unbounded = refl;
  window = refl;
  stopped = refl;
  stopped_single = refl;
  zero_interval = refl;
  adjusted = refl;
  not_cumulative = refl;
  last_of_equal = refl;
  minus_hour = refl;
  two_meet = refl;
  later_k = refl;
  comes_back = refl;
  below_zero = refl;
  ties = refl;
  falling = refl;
  most = refl;
  too_many = refl;
}
