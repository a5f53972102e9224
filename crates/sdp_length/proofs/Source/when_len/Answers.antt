-- `sdp_length::Source::when_len` meets its contract. Assumes nothing.
use Rattle.sdp_valid.proofs.CountedLaws.{times_inside, repeats_inside, offsets_inside, zones_inside}
use Rattle.sdp_valid.proofs.LentLaws.{two_live}
use Rattle.std.proofs.Common.{rules}
use Rattle.sdp_length.proofs.Source.when_len.Goals as goal

pub times_len-requires : goal.times_len-requires
times_len-requires c = times_inside _ c.requires

pub sum_rows-requires : goal.sum_rows-requires
sum_rows-requires c = λ k h. (two_live k.1.0 k.1.1.0 k.1.1.1.0 h.0 h.1.0, (repeats_inside _ c.requires, (search rules, search rules)))

pub sum_rows-requires-2 : goal.sum_rows-requires-2
sum_rows-requires-2 c = λ k h. (two_live k.1.0 k.1.1.0 k.1.1.1.0 h.0 h.1.0, (offsets_inside _ c.requires, (search rules, search rules)))

pub zones_len-requires : goal.zones_len-requires
zones_len-requires c = zones_inside _ c.requires
