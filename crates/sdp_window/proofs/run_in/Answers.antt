-- `sdp_window::run_in` meets its contract. Assumes nothing.
use mathlib.Core.Path.{refl}
use Rattle.sdp_window.specs.Run.{run_in}
use Rattle.sdp_window.proofs.run_in.Goals as goal

pub returns-in-Below : goal.returns-in-Below
unfolding run_in
returns-in-Below c = rw c.in-Below.is c.run_below.ensures

pub returns-in-At : goal.returns-in-At
unfolding run_in
returns-in-At c = rw c.in-At.is c.run_at.ensures

pub returns-in-Above : goal.returns-in-Above
unfolding run_in
returns-in-Above c = rw c.in-Above.is refl
