-- `sdp_lines::first_line` meets its contract. Assumes nothing.
use mathlib.Core.Path.{sym, ◌∙◌}
use Rattle.sdp_lines.proofs.LineLaws.{first_last, first_lf, first_crlf, first_bad}
use Rattle.sdp_lines.proofs.first_line.Goals as goal

pub returns-then-s-k : goal.returns-then-s-k
returns-then-s-k c = first_last _ _ c.stop_index-k.ensures c.if-s-k.true

pub returns-then-s-k-eq10 : goal.returns-then-s-k-eq10
returns-then-s-k-eq10 c = first_lf _ _ c.stop_index-k.ensures c.if-s-k.false c.if-s-k-eq10.true

pub returns-then-crlf_at : goal.returns-then-crlf_at
returns-then-crlf_at c =
    first_crlf _ _ c.stop_index-k.ensures c.if-s-k.false c.if-s-k-eq10.false (sym c.crlf_at.ensures ∙ c.if-crlf_at.true)

pub returns : goal.returns
returns c =
    first_bad _ _ c.stop_index-k.ensures c.if-s-k.false c.if-s-k-eq10.false (sym c.crlf_at.ensures ∙ c.if-crlf_at.false)
