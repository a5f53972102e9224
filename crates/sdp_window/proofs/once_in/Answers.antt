-- `sdp_window::once_in` meets its contract. Assumes nothing.
use mathlib.Core.Path.{refl}
use Rattle.sdp_window.specs.Run.{once_in}
use Rattle.sdp_window.proofs.once_in.Goals as goal

pub returns-then-lo-a : goal.returns-then-lo-a
unfolding once_in
returns-then-lo-a c = rw (c.in-At.is, c.if-lo-a.true) refl

pub returns-in-Below : goal.returns-in-Below
unfolding once_in
returns-in-Below c = rw c.in-Below.is refl

pub returns-else-lo-a : goal.returns-else-lo-a
unfolding once_in
returns-else-lo-a c = rw (c.in-At.is, c.if-lo-a.false) refl

pub returns-in-Above : goal.returns-in-Above
unfolding once_in
returns-in-Above c = rw c.in-Above.is refl
