-- `sdp_tables::put_times` meets its contract. Assumes nothing.
use Rattle.sdp_decode.specs.Decode.{time_of, repeats_in, offsets_in}
use Rattle.sdp_row.specs.Written.{time_lines}
use Rattle.sdp_tables.proofs.put_times.Given as goal

-- what is put of each row
abbrev pub ghost-put_rows : goal.ghost-put_rows
ghost-put_rows a = λ k p. time_lines (repeats_in a.area.now) (offsets_in a.area.now) k (time_of a.area.now p)
