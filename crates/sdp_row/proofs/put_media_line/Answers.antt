-- `sdp_row::put_media_line` meets its contract. Assumes nothing.
use Rattle.sdp_row.proofs.LineLaws.{in_line}
use Rattle.sdp_put.proofs.PutsLaws.{◌then◌, said}
use Rattle.sdp_put.specs.Digits.{digits}
use Rattle.sdp_row.specs.Written.{spaced, media_line}
use mathlib.Core.Path.{refl, ap}
use Prim.Native.Nat.{ℕ}
use native.Mathlib.Omega.{arith}
use Rattle.std.proofs.Common.{rules}
use Rattle.sdp_row.proofs.put_media_line.Goals as goal

pub returns : goal.returns
unfolding media_line
returns c =
    let p = in_line c.two.ensures (c.put_string.ensures then said (ap (λ (v : ℕ). spaced (digits v)) c.get2.ensures.0) c.put_spaced_number.ensures then c.put_ports.ensures then c.put_spaced.ensures then c.put_spaced-2.ensures) c.two-2.ensures in
    record { same = refl; put = let n = p.same in let e = p.put in search rules }

pub overflow_add-p-4 : goal.overflow_add-p-4
overflow_add-p-4 c = omega (arith, c.well_formed, c.requires)
