-- `sdp_tables::put_time_lines` meets its contract. Assumes nothing.
use Rattle.sdp_decode.specs.Decode.{repeat_of, offsets_in}
use Rattle.sdp_row.specs.Written.{repeat_line}
use Rattle.sdp_tables.proofs.put_time_lines.Given as goal

-- what is put of each row
abbrev pub ghost-put_mine_of : goal.ghost-put_mine_of
ghost-put_mine_of a = λ k p. repeat_line (offsets_in a.area.now) k (repeat_of a.area.now p)
