-- `sdp_tables::put_repeat` meets its contract. Assumes nothing.
use Rattle.std.proofs.Common.{rules}
use Rattle.sdp_valid.proofs.CountedLaws.{offsets_inside}
use Rattle.sdp_tables.proofs.OwnerLaws.{offsets-rise}
use Rattle.sdp_row.proofs.LineLaws.{in_line}
use Rattle.sdp_decode.proofs.RowLaws.{each_rows}
use Rattle.sdp_put.proofs.PutsLaws.{◌then◌, said}
use Rattle.sdp_put.specs.Digits.{time_text}
use Rattle.sdp_row.specs.Written.{spaced, repeat_line}
use Rattle.sdp_decode.specs.Decode.{offset_of}
use mathlib.Core.Path.{ap}
use Prim.Native.Nat.{ℕ}
use native.Mathlib.Omega.{arith}
use Rattle.sdp_tables.proofs.RowLaws.{captured}
use Rattle.sdp_tables.proofs.put_repeat.Goals as goal

pub returns : goal.returns
unfolding repeat_line
returns c = in_line c.two.ensures (said (ap time_text c.get8.ensures) c.time.ensures then said (ap (λ (v : ℕ). spaced (time_text v)) c.get8-2.ensures) c.put_spaced_time.ensures then said (each_rows _ offset_of 10 _ _ _ _) c.put_mine_of.ensures) c.two-2.ensures

pub put_mine_of-requires : goal.put_mine_of-requires
put_mine_of-requires c = λ k h. (captured h.0 h.1.0, ((omega arith, offsets_inside _ c.requires.counted), (offsets-rise _ c.requires.area_value, (search rules, search rules))))
