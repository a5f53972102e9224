-- `sdp_tables::put_bandwidths` meets its contract. Assumes nothing.
use Rattle.sdp_lines.specs.Strings.{bytes_of}
use Rattle.sdp_decode.specs.Decode.{bandwidth_of}
use Rattle.sdp_row.specs.Written.{bandwidth_line}
use Rattle.sdp_tables.proofs.put_bandwidths.Given as goal

-- what is put of each row
abbrev pub ghost-put_mine_of : goal.ghost-put_mine_of
ghost-put_mine_of a = λ k p. bandwidth_line (bytes_of a.put_row.0.now.text.now) (bandwidth_of a.area.now p)
