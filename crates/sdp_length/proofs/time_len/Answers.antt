-- `sdp_length::time_len` meets its contract. Assumes nothing.
use Rattle.sdp_length.proofs.NumberLaws.{no_time_lem, with_unit}
use Rattle.sdp_put.proofs.DigitLaws.{time_day, time_hour, time_minute, time-plain}
use lib.ListN.{length}
use mathlib.Core.Path.{sym, ap, ◌∙◌}
use native.Mathlib.Omega.{arith}
use Rattle.sdp_length.proofs.time_len.Goals as goal

pub returns-then-v-eq0 : goal.returns-then-v-eq0
returns-then-v-eq0 c = (no_time_lem _ c.if-v-eq0.true, omega arith)

pub returns-then-v-eq0-2 : goal.returns-then-v-eq0-2
returns-then-v-eq0-2 c =
    (with_unit _ _ _ _ (time_day _ c.if-v-eq0.false c.if-v-eq0-2.true) c.digits_len.ensures.0, omega arith)

pub returns-then-v-eq0-3 : goal.returns-then-v-eq0-3
returns-then-v-eq0-3 c =
    (with_unit _ _ _ _ (time_hour _ c.if-v-eq0.false c.if-v-eq0-2.false c.if-v-eq0-3.true) c.digits_len-then-v-eq0-3.ensures.0, omega arith)

pub returns-then-v-eq0-4 : goal.returns-then-v-eq0-4
returns-then-v-eq0-4 c =
    (with_unit _ _ _ _ (time_minute _ c.if-v-eq0.false c.if-v-eq0-2.false c.if-v-eq0-3.false c.if-v-eq0-4.true) c.digits_len-then-v-eq0-4.ensures.0, omega arith)

pub returns : goal.returns
returns c =
    (c.digits_len-2.ensures.0 ∙ ap length (sym (time-plain _ c.if-v-eq0.false c.if-v-eq0-2.false c.if-v-eq0-3.false c.if-v-eq0-4.false)), omega arith)
