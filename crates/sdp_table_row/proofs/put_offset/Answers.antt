-- `sdp_table_row::put_offset` meets its contract. Assumes nothing.
use Rattle.sdp_put.proofs.PutsLaws.{said}
use Rattle.sdp_put.specs.Digits.{time_text}
use Rattle.sdp_row.specs.Written.{spaced}
use mathlib.Core.Path.{ap}
use Prim.Native.Nat.{ℕ}
use Rattle.sdp_table_row.proofs.put_offset.Goals as goal

pub returns : goal.returns
returns c = said (ap (λ (v : ℕ). spaced (time_text v)) c.get8.ensures) c.put_spaced_time.ensures
