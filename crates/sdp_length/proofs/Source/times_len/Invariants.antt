use Rattle.sdp_length.specs.Length.{time_length}
use Rattle.sdp_length.proofs.Source.times_len.Given as goal

abbrev pub ghost-sum_rows : goal.ghost-sum_rows
ghost-sum_rows a = time_length a.area.now
