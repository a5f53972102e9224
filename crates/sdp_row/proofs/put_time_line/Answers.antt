-- `sdp_row::put_time_line` meets its contract. Assumes nothing.
use Rattle.sdp_row.proofs.LineLaws.{in_line}
use Rattle.sdp_put.proofs.PutsLaws.{◌then◌, said}
use Rattle.sdp_put.specs.Digits.{digits}
use Rattle.sdp_row.specs.Written.{spaced}
use mathlib.Core.Path.{ap}
use Prim.Native.Nat.{ℕ}
use Rattle.sdp_row.proofs.put_time_line.Goals as goal

pub returns : goal.returns
returns c =
    in_line c.two.ensures (said (ap digits c.get8.ensures) c.number.ensures then said (ap (λ (v : ℕ). spaced (digits v)) c.get8-2.ensures) c.put_spaced_number.ensures) c.two-2.ensures
