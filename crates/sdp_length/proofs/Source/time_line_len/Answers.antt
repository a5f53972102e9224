-- `sdp_length::Source::time_line_len` meets its contract. Assumes nothing.
use Rattle.sdp_length.proofs.LineLaws.{time-line}
use Rattle.sdp_put.specs.Digits.{digits}
use lib.ListN.{length}
use mathlib.Core.Path.{ap, ◌∙◌}
use Prim.Native.Nat.{ℕ}
use native.Mathlib.Omega.{arith}
use Rattle.sdp_length.proofs.Source.time_line_len.Goals as goal

pub returns : goal.returns
returns c =
    (omega (arith, time-line c.args.self.now.area.now c.args.p, c.digits_len.ensures.0 ∙ ap (λ (v : ℕ). length (digits v)) c.get8.ensures, c.digits_len-2.ensures.0 ∙ ap (λ (v : ℕ). length (digits v)) c.get8-2.ensures), omega arith)
