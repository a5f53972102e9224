-- `sdp_length::Source::string_len` meets its contract. Assumes nothing.
use Rattle.sdp_row.proofs.LineLaws.{string_is}
use lib.ListN.{length}
use mathlib.Core.Path.{ap, ◌∙◌}
use native.Mathlib.Omega.{arith}
use Rattle.sdp_length.proofs.Source.string_len.Goals as goal

pub returns : goal.returns
returns c =
    (c.text_len.ensures.0 ∙ ap length (string_is _ _ _ _ _ c.get2-place.ensures.0 c.get2-len.ensures.0), omega arith)
