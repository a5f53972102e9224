-- `sdp_row::put_string_line` meets its contract. Assumes nothing.
use Rattle.sdp_row.proofs.LineLaws.{in_line}
use Rattle.std.proofs.Common.{rules}
use mathlib.Core.Path.{refl}
use Rattle.sdp_row.proofs.put_string_line.Goals as goal

pub returns : goal.returns
returns c =
    let p = in_line c.two.ensures c.put_string.ensures c.two-2.ensures in
    record { same = refl; put = let n = p.same in let e = p.put in search rules }
