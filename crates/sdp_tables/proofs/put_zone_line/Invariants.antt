-- `sdp_tables::put_zone_line` meets its contract. Assumes nothing.
use Rattle.sdp_decode.specs.Decode.{zone_of}
use Rattle.sdp_row.specs.Written.{zone_text}
use Rattle.sdp_tables.proofs.put_zone_line.Given as goal

-- what is put of each row
abbrev pub ghost-put_rows : goal.ghost-put_rows
ghost-put_rows a = λ k p. zone_text k (zone_of a.area.now p)
