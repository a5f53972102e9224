-- `sdp_table_row::put_value` meets its contract. Assumes nothing.
use Rattle.sdp_row.proofs.LineLaws.{absent, present}
use Rattle.sdp_put.proofs.PutsLaws.{◌then◌, said, nothing}
use Rattle.sdp_put.specs.Strings.{clean}
use Rattle.sdp_lines.specs.Strings.{bytes_of}
use Rattle.sdp_decode.specs.Decode.{span_of}
use mathlib.Core.List.{[], ◌∷◌, ◌++◌}
use Rattle.sdp_table_row.proofs.put_value.Goals as goal

pub returns-then-get2-ne0 : goal.returns-then-get2-ne0
returns-then-get2-ne0 c =
    said (present (λ x. (0x3a ∷ []) ++ clean (bytes_of c.args.s.text.now x)) span_of _ _ _ c.get2.ensures.0 c.if-get2-ne0.true) (c.byte.ensures then c.put_string.ensures)

pub returns-else-get2-ne0 : goal.returns-else-get2-ne0
returns-else-get2-ne0 c =
    said (absent (λ x. (0x3a ∷ []) ++ clean (bytes_of c.args.s.text.now x)) span_of _ _ _ c.get2.ensures.0 c.if-get2-ne0.false) (nothing _)
