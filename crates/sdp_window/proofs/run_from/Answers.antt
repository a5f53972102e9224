-- `sdp_window::run_from` meets its contract. Assumes nothing.
use Prim.Native.Nat.{◌-◌}
use mathlib.Core.Path.{sym}
use native.Mathlib.Nat.{div-le_self}
use native.Mathlib.Omega.{arith}
use Rattle.sdp_window.proofs.RunLaws.{counted_none, counted_some}
use Rattle.sdp_window.proofs.run_from.Goals as goal

pub overflow_add-result : goal.overflow_add-result
overflow_add-result c = let a = c.args in omega (arith, div-le_self (a.hi - 1 - a.f) a.d)

pub returns-then-f-hi : goal.returns-then-f-hi
returns-then-f-hi c = sym (counted_some _ _ _ c.if-f-hi.true)

pub returns : goal.returns
returns c = sym (counted_none _ _ _ c.if-f-hi.false)
