-- `sdp_length::Source::media_len` meets its contract. Assumes nothing.
use Rattle.sdp_length.proofs.LineLaws.{media-lines}
use Rattle.sdp_put.specs.Digits.{digits}
use lib.ListN.{length}
use mathlib.Core.Path.{ap, ◌∙◌}
use Prim.Native.Nat.{ℕ}
use native.Mathlib.Omega.{arith}
use Rattle.sdp_length.proofs.Source.media_len.Goals as goal

pub returns : goal.returns
returns c =
    (omega (arith, media-lines c.args.self.now.text.now c.args.self.now.area.now c.args.p, c.digits_len.ensures.0 ∙ ap (λ (v : ℕ). length (digits v)) c.get2.ensures.0, c.maybe_line_len.ensures.0 0x69), omega arith)
