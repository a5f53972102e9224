-- `sdp_tables::put_mine_of` meets its contract. Assumes nothing.
use Rattle.sdp_tables.proofs.OwnerLaws.{ours_begin, ours_turn, ours_stop}
use Rattle.sdp_tables.proofs.RowLaws.{left_finish}
use Rattle.sdp_tables.proofs.put_mine_of.Goals as goal

pub loop-i-init : goal.loop-i-init
loop-i-init g c =
    ours_begin g.text c.args.area.now c.args.base c.args.w c.args.n _ _ c.get2-count.ensures.0 _ c.requires.1.0.1 c.first_of-first.ensures

-- another owner follows
pub returns-then-get2-n : goal.returns-then-get2-n
returns-then-get2-n g c =
    ours_stop g.text c.args.area.now c.args.base c.args.w c.args.n _ _ c.get2-count.ensures.0 _ _ _ c.requires.1.1.0 c.loop-i-test.true c.get2.ensures.0 c.loop-i.invariant c.if-get2-n.true

pub loop-i-preserved : goal.loop-i-preserved
loop-i-preserved g c =
    ours_turn g.text c.args.area.now c.args.base c.args.w c.args.n _ _ c.get2-count.ensures.0 _ _ _ c.requires.1.1.0 c.loop-i-test.true c.get2.ensures.0 c.loop-i.invariant c.if-get2-n.false (c.requires.1.1.1.1 _ _ _ _ _ c.put_row.ensures)

pub returns : goal.returns
returns g c = left_finish _ _ _ _ _ _ c.loop-i-test.false c.loop-i.invariant.rows
