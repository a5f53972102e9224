-- `sdp_tables::put_rows` meets its contract. Assumes nothing.
use Rattle.sdp_tables.proofs.RowLaws.{left_begin, left_here, left_turn, left_finish}
use Rattle.std.proofs.Common.{rules}
use Rattle.sdp_tables.proofs.put_rows.Goals as goal

pub loop-i-init : goal.loop-i-init
loop-i-init g c = left_begin g.text c.args.area.now c.args.w c.args.base _ _ c.get2-i-end.ensures.0 c.requires.1.0

pub loop-i-preserved : goal.loop-i-preserved
loop-i-preserved g c =
    left_turn _ _ _ _ _ _ c.loop-i-test.true c.loop-i.invariant (c.requires.1.1.1 _ _ _ _ _ c.put_row.ensures)

pub returns : goal.returns
returns g c = left_finish _ _ _ _ _ _ c.loop-i-test.false c.loop-i.invariant

pub put_row-requires : goal.put_row-requires
put_row-requires g c = let h = left_here _ _ _ _ _ _ c.loop-i-test.true c.loop-i.invariant in search rules
