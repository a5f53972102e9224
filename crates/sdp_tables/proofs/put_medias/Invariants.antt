-- `sdp_tables::put_medias` meets its contract. Assumes nothing.
use Rattle.sdp_lines.specs.Strings.{bytes_of}
use Rattle.sdp_decode.specs.Decode.{media_of, decode}
use Rattle.sdp_row.specs.Written.{media_lines}
use Rattle.sdp_tables.proofs.put_medias.Given as goal

-- what is put of each row
abbrev pub ghost-put_rows : goal.ghost-put_rows
ghost-put_rows a = λ k p. media_lines (bytes_of a.put_row.0.now.text.now) (decode a.area.now).tables k (media_of a.area.now p)
