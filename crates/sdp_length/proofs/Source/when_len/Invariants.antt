use Rattle.sdp_length.specs.Length.{repeat_length, offset_length}
use Rattle.sdp_length.proofs.Source.when_len.Given as goal

abbrev pub ghost-sum_rows : goal.ghost-sum_rows
ghost-sum_rows a = repeat_length a.area.now

abbrev pub ghost-sum_rows-2 : goal.ghost-sum_rows-2
ghost-sum_rows-2 a = offset_length a.area.now
