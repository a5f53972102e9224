-- `sdp_tables::put_mine_of` meets its contract. Assumes nothing.
use Rattle.sdp_tables.proofs.OwnerLaws.{Ours}
use Rattle.sdp_tables.proofs.put_mine_of.Given as goal

abbrev pub invariant-loop-i : goal.invariant-loop-i
invariant-loop-i g l = Ours g.text l.area l.base l.w l.n l.count l.initial.out l.out l.i l.p
