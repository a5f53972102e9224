use Rattle.sdp_length.specs.Length.{zone_length}
use Rattle.sdp_length.proofs.Source.zones_len.Given as goal

abbrev pub ghost-sum_rows : goal.ghost-sum_rows
ghost-sum_rows a = zone_length a.area.now
