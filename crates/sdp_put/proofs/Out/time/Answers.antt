-- `sdp_put::Out::time` meets its contract. Assumes nothing.
use Rattle.sdp_put.proofs.DigitLaws.{time_zero, time_day, time_hour, time_minute, time-plain}
use Rattle.sdp_put.proofs.PutsLaws.{said}
use mathlib.Core.Path.{sym}
use Rattle.sdp_put.proofs.Out.time.Goals as goal

pub returns-then-v-eq0 : goal.returns-then-v-eq0
returns-then-v-eq0 c = said (sym (time_zero _ c.if-v-eq0.true)) c.number.ensures

pub returns-then-v-eq0-2 : goal.returns-then-v-eq0-2
returns-then-v-eq0-2 c = said (sym (time_day _ c.if-v-eq0.false c.if-v-eq0-2.true)) c.unit.ensures

pub returns-then-v-eq0-3 : goal.returns-then-v-eq0-3
returns-then-v-eq0-3 c =
    said (sym (time_hour _ c.if-v-eq0.false c.if-v-eq0-2.false c.if-v-eq0-3.true)) c.unit-then-v-eq0-3.ensures

pub returns-then-v-eq0-4 : goal.returns-then-v-eq0-4
returns-then-v-eq0-4 c =
    said (sym (time_minute _ c.if-v-eq0.false c.if-v-eq0-2.false c.if-v-eq0-3.false c.if-v-eq0-4.true)) c.unit-then-v-eq0-4.ensures

pub returns-else-v-eq0-4 : goal.returns-else-v-eq0-4
returns-else-v-eq0-4 c =
    said (sym (time-plain _ c.if-v-eq0.false c.if-v-eq0-2.false c.if-v-eq0-3.false c.if-v-eq0-4.false)) c.number-else-v-eq0-4.ensures
