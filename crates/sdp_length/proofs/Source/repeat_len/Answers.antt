-- `sdp_length::Source::repeat_len` meets its contract. Assumes nothing.
use Rattle.sdp_length.proofs.LineLaws.{repeat-line}
use Rattle.sdp_put.specs.Digits.{time_text}
use lib.ListN.{length}
use mathlib.Core.Path.{ap, ◌∙◌}
use Prim.Native.Nat.{ℕ}
use native.Mathlib.Omega.{arith}
use Rattle.sdp_length.proofs.Source.repeat_len.Goals as goal

pub returns : goal.returns
returns c =
    (omega (arith, repeat-line c.args.self.now.area.now c.args.p, c.time_len.ensures.0 ∙ ap (λ (v : ℕ). length (time_text v)) c.get8.ensures, c.time_len-2.ensures.0 ∙ ap (λ (v : ℕ). length (time_text v)) c.get8-2.ensures), omega arith)
