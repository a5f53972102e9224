-- `sdp_tables::put_rows` meets its contract. Assumes nothing.
use Rattle.sdp_tables.proofs.RowLaws.{Left}
use Rattle.sdp_tables.proofs.put_rows.Given as goal

abbrev pub invariant-loop-i : goal.invariant-loop-i
invariant-loop-i g l = Left g.text l.area l.w l.base l.i-end l.initial.out l.out l.p l.i
