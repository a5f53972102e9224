-- `sdp_row::put_connection` meets its contract. Assumes nothing.
use Rattle.sdp_row.proofs.LineLaws.{in_line}
use Rattle.sdp_put.proofs.PutsLaws.{◌then◌}
use Rattle.sdp_row.specs.Written.{connection_line}
use mathlib.Core.Path.{refl}
use Rattle.std.proofs.Common.{rules}
use Rattle.sdp_row.proofs.put_connection.Goals as goal

pub returns : goal.returns
unfolding connection_line
returns c =
    let p = in_line c.two.ensures (c.put_string.ensures then c.put_spaced.ensures then c.put_spaced-2.ensures) c.two-2.ensures in
    record { same = refl; put = let n = p.same in let e = p.put in search rules }
