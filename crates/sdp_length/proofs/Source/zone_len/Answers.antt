-- `sdp_length::Source::zone_len` meets its contract. Assumes nothing.
use Rattle.sdp_length.proofs.LineLaws.{zone-text}
use Rattle.sdp_put.specs.Digits.{digits}
use Rattle.sdp_row.specs.Written.{signed_text}
use lib.ListN.{length}
use mathlib.Core.Path.{ap, ◌∙◌}
use Prim.Native.Nat.{ℕ}
use native.Mathlib.Omega.{arith}
use Rattle.sdp_length.proofs.Source.zone_len.Goals as goal

pub returns : goal.returns
returns c =
    (omega (arith, zone-text c.args.self.now.area.now c.args.p, c.digits_len.ensures.0 ∙ ap (λ (v : ℕ). length (digits v)) c.get8.ensures, c.signed_len.ensures.0 ∙ ap (λ (v : ℕ). length (signed_text v)) c.get8-2.ensures), omega arith)
