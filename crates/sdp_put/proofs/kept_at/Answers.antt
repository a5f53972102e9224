-- `sdp_put::kept_at` meets its contract. Assumes nothing.
use Rattle.sdp_put.proofs.StringLaws.{kept-not, kept_is}
use Rattle.sdp_put.proofs.OutLaws.{said, nothing}
use mathlib.Core.Path.{sym, ◌∙◌}
use Rattle.sdp_put.proofs.kept_at.Goals as goal

pub returns-then-dropped : goal.returns-then-dropped
returns-then-dropped c = said (sym (kept-not _ (sym c.dropped.ensures ∙ c.if-dropped.true))) (nothing _ _)

pub returns : goal.returns
returns c = said (sym (kept_is _ (sym c.dropped.ensures ∙ c.if-dropped.false))) c.byte_at.ensures
