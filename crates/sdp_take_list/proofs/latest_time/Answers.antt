-- `sdp_take_list::latest_time` meets its contract. Assumes nothing.
use borrow.Author.Tests.{eq-eqb, ne_eqb}
use Rattle.sdp_take_list.proofs.latest_time.Goals as goal

pub returns-then-n-eq0 : goal.returns-then-n-eq0
returns-then-n-eq0 c = rw (← c.times-n.ensures.0, eq-eqb _ _ c.if-n-eq0.true)

pub returns : goal.returns
returns c = rw (← c.times-n.ensures.0, ne_eqb _ _ c.if-n-eq0.false)
