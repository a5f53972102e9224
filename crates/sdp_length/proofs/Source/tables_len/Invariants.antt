use Rattle.sdp_length.specs.Length.{contact_length, media_connection_length, bandwidth_length, attribute_length, media_length}
use Rattle.sdp_length.proofs.Source.tables_len.Given as goal

abbrev pub ghost-sum_rows : goal.ghost-sum_rows
ghost-sum_rows a = contact_length a.cost.0.now.text.now a.area.now

abbrev pub ghost-sum_rows-2 : goal.ghost-sum_rows-2
ghost-sum_rows-2 a = contact_length a.cost.0.now.text.now a.area.now

abbrev pub ghost-sum_rows-3 : goal.ghost-sum_rows-3
ghost-sum_rows-3 a = media_connection_length a.cost.0.now.text.now a.area.now

abbrev pub ghost-sum_rows-4 : goal.ghost-sum_rows-4
ghost-sum_rows-4 a = bandwidth_length a.cost.0.now.text.now a.area.now

abbrev pub ghost-sum_rows-5 : goal.ghost-sum_rows-5
ghost-sum_rows-5 a = attribute_length a.cost.0.now.text.now a.area.now

abbrev pub ghost-sum_rows-6 : goal.ghost-sum_rows-6
ghost-sum_rows-6 a = media_length a.cost.0.now.text.now a.area.now
