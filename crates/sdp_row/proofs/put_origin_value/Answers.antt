-- `sdp_row::put_origin_value` meets its contract. Assumes nothing.
use Rattle.sdp_put.proofs.PutsLaws.{◌then◌, said}
use Rattle.sdp_put.specs.Digits.{digits}
use Rattle.sdp_row.specs.Written.{spaced, origin_value}
use mathlib.Core.Path.{ap}
use Prim.Native.Nat.{ℕ}
use native.Mathlib.Omega.{arith}
use Rattle.sdp_row.proofs.put_origin_value.Goals as goal

pub returns : goal.returns
unfolding origin_value
returns c =
    c.put_username.ensures then c.put_spaced.ensures then said (ap (λ (v : ℕ). spaced (digits v)) c.get8.ensures) c.put_spaced_number.ensures then c.put_spaced-2.ensures then c.put_spaced-3.ensures then c.put_spaced-4.ensures

pub overflow_add-p-5 : goal.overflow_add-p-5
overflow_add-p-5 c = omega (arith, c.well_formed, c.requires)
