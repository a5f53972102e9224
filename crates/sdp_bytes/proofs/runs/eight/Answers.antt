-- `sdp_bytes::runs::eight` meets its contract. Assumes nothing.
use mathlib.Core.Path.{sym, ap₂, ◌∙◌}
use mathlib.Core.Bool.{◌&&◌}
use native.Mathlib.Omega.{arith}
use Rattle.sdp_bytes.proofs.ScanLaws.{run_short}
use Rattle.sdp_bytes.proofs.WordLaws.{eight_is}
use Rattle.sdp_bytes.proofs.runs.eight.Goals as goal

pub returns-then-s-lt8 : goal.returns-then-s-lt8
returns-then-s-lt8 c = sym (run_short _ 8 _ c.if-s-lt8.true)

pub returns : goal.returns
returns c =
    ap₂ ◌&&◌ c.all_from.ensures c.all_from-2.ensures
    ∙ eight_is _ (λ i. omega (arith, c.shared_slice_known-1.given i)) _ _ (omega (arith, c.ranges.hi)) c.if-s-lt8.false _ c.get8-x.ensures
