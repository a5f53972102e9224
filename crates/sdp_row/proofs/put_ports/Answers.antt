-- `sdp_row::put_ports` meets its contract. Assumes nothing.
use Rattle.sdp_row.proofs.LineLaws.{absent, present}
use Rattle.sdp_put.proofs.PutsLaws.{◌then◌, said, nothing}
use Rattle.sdp_put.specs.Digits.{digits}
use Rattle.sdp_decode.specs.Decode.{num2}
use mathlib.Core.Path.{ap}
use mathlib.Core.List.{[], ◌∷◌, ◌++◌}
use Rattle.sdp_row.proofs.put_ports.Goals as goal

pub returns-then-get2-eq0 : goal.returns-then-get2-eq0
returns-then-get2-eq0 c =
    said (absent (λ n. (0x2f ∷ []) ++ digits n) num2 _ _ _ c.get2.ensures.0 c.if-get2-eq0.true) (nothing _)

pub returns : goal.returns
returns c =
    said (present (λ n. (0x2f ∷ []) ++ digits n) num2 _ _ _ c.get2.ensures.0 c.if-get2-eq0.false) (c.byte.ensures then said (ap digits c.get2-2.ensures.0) c.number.ensures)
