-- `sdp_tables::put_attributes` meets its contract. Assumes nothing.
use Rattle.sdp_lines.specs.Strings.{bytes_of}
use Rattle.sdp_decode.specs.Decode.{attribute_of}
use Rattle.sdp_row.specs.Written.{attribute_line}
use Rattle.sdp_tables.proofs.put_attributes.Given as goal

-- what is put of each row
abbrev pub ghost-put_mine_of : goal.ghost-put_mine_of
ghost-put_mine_of a = λ k p. attribute_line (bytes_of a.put_row.0.now.text.now) (attribute_of a.area.now p)
