-- `sdp_put::one_len` meets its contract. Assumes nothing.
use Rattle.sdp_put.proofs.StringLaws.{kept-not, kept_is}
use lib.ListN.{length}
use mathlib.Core.Path.{sym, ap, ◌∙◌}
use native.Mathlib.Omega.{arith}
use Rattle.sdp_put.proofs.one_len.Goals as goal

pub returns-then-dropped : goal.returns-then-dropped
returns-then-dropped c = (sym (ap length (kept-not _ (sym c.dropped.ensures ∙ c.if-dropped.true))), omega arith)

pub returns : goal.returns
returns c = (sym (ap length (kept_is _ (sym c.dropped.ensures ∙ c.if-dropped.false))), omega arith)
