-- `sdp_tables::put_media` meets its contract. Assumes nothing.
use Rattle.sdp_lines.specs.Strings.{bytes_of}
use Prim.Native.Nat.{◌+◌}
use Rattle.sdp_decode.specs.Decode.{connection_of}
use Rattle.sdp_row.specs.Written.{connection_line}
use Rattle.sdp_tables.proofs.put_media.Given as goal

-- what is put of each row
abbrev pub ghost-put_mine_of : goal.ghost-put_mine_of
ghost-put_mine_of a = λ k p. connection_line (bytes_of a.put_row.0.now.text.now) (connection_of a.area.now (p + 2))
