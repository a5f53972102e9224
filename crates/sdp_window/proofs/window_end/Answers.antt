-- `sdp_window::window_end` meets its contract. Assumes nothing.
use mathlib.Core.Path.{refl, ap, ◌∙◌}
use borrow.Author.Tests.{eq-eqb, ne_eqb}
use Rattle.sdp_window.specs.Run.{highest}
use Rattle.sdp_window.proofs.window_end.Goals as goal

pub returns-then-end-eq0 : goal.returns-then-end-eq0
returns-then-end-eq0 c = rw (eq-eqb _ _ c.if-end-eq0.true) refl

pub returns : goal.returns
returns c = rw (ne_eqb _ _ c.if-end-eq0.false) (c.highest_of.ensures ∙ ap (highest _) c.zoned.ensures)
