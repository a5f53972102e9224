-- `sdp_length::Source::ports_len` meets its contract. Assumes nothing.
use Rattle.sdp_row.proofs.LineLaws.{absent, present}
use Rattle.sdp_decode.specs.Decode.{num2}
use Rattle.sdp_put.specs.Digits.{digits}
use mathlib.Core.List.{[], ◌∷◌, ◌++◌}
use lib.ListN.{length}
use mathlib.Core.Path.{ap, ◌∙◌}
use Prim.Native.Nat.{ℕ}
use native.Mathlib.Omega.{arith}
use Rattle.sdp_length.proofs.Source.ports_len.Goals as goal

pub returns-then-get2-eq0 : goal.returns-then-get2-eq0
returns-then-get2-eq0 c =
    (ap length (absent (λ n. (0x2f ∷ []) ++ digits n) num2 _ _ _ c.get2.ensures.0 c.if-get2-eq0.true), omega arith)

pub returns : goal.returns
returns c =
    (omega (arith, ap length (present (λ n. (0x2f ∷ []) ++ digits n) num2 c.args.self.now.area.now c.args.p c.get2.result c.get2.ensures.0 c.if-get2-eq0.false), c.digits_len.ensures.0 ∙ ap (λ (v : ℕ). length (digits v)) c.get2-2.ensures.0), omega arith)
