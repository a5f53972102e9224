-- `sdp_tables::put_repeat` meets its contract. Assumes nothing.
use Rattle.sdp_put.specs.Digits.{time_text}
use Rattle.sdp_decode.specs.Decode.{offset_of}
use Rattle.sdp_row.specs.Written.{spaced}
use Rattle.sdp_tables.proofs.put_repeat.Given as goal

-- what is put of each row
abbrev pub ghost-put_mine_of : goal.ghost-put_mine_of
ghost-put_mine_of a = λ k p. spaced (time_text (offset_of a.area.now p).offset)
