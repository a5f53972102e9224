-- `sdp_table_row::put_between` meets its contract. Assumes nothing.
use Rattle.sdp_table_row.proofs.ZoneLaws.{between_none, between_some}
use Rattle.sdp_put.proofs.PutsLaws.{said, nothing}
use Rattle.sdp_table_row.proofs.put_between.Goals as goal

pub returns-then-k-eq1 : goal.returns-then-k-eq1
returns-then-k-eq1 c = said (between_none _ c.if-k-eq1.true) (nothing _)

pub returns : goal.returns
returns c = said (between_some _ c.if-k-eq1.false) c.byte.ensures
