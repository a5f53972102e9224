-- `sdp_tables::put_contact` meets its contract. Assumes nothing.
use Rattle.sdp_lines.specs.Strings.{bytes_of}
use Rattle.sdp_decode.specs.Decode.{span_of}
use Rattle.sdp_row.specs.Written.{string_line}
use Rattle.sdp_tables.proofs.put_contact.Given as goal

-- what is put of each row
abbrev pub ghost-put_rows : goal.ghost-put_rows
ghost-put_rows a = λ k p. string_line (bytes_of a.put_row.0.now.text.now) 0x65 (span_of a.area.now p)

-- what is put of each row
abbrev pub ghost-put_rows-2 : goal.ghost-put_rows-2
ghost-put_rows-2 a = λ k p. string_line (bytes_of a.put_row.0.now.text.now) 0x70 (span_of a.area.now p)
