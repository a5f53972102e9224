-- `sdp_tables::put_contact` meets its contract. Assumes nothing.
use Rattle.std.proofs.Common.{rules}
use Rattle.sdp_valid.proofs.CountedLaws.{emails_inside, phones_inside}
use Rattle.sdp_decode.proofs.RowLaws.{each_rows}
use Rattle.sdp_put.proofs.PutsLaws.{◌then◌, said}
use Rattle.sdp_row.specs.Written.{contact_lines}
use Rattle.sdp_decode.specs.Decode.{span_of, decode}
use Rattle.sdp_tables.proofs.RowLaws.{captured}
use Rattle.sdp_tables.proofs.put_contact.Goals as goal

pub returns : goal.returns
unfolding contact_lines decode
returns c = said (each_rows _ span_of 4 _ _ _ _) c.put_rows.ensures then said (each_rows _ span_of 4 _ _ _ _) c.put_rows-2.ensures then c.put_session_connection.ensures then c.put_bandwidths.ensures then c.put_times.ensures

pub put_rows-requires : goal.put_rows-requires
put_rows-requires c = λ k h. (captured h.0 h.1.0, (emails_inside _ c.requires.counted, (search rules, search rules)))

pub put_rows-requires-2 : goal.put_rows-requires-2
put_rows-requires-2 c = λ k h. (captured h.0 h.1.0, (phones_inside _ c.requires.counted, (search rules, search rules)))
