-- `sdp_tables::first_of` meets its contract. Assumes nothing.
use native.Mathlib.Omega.{arith}
use Rattle.sdp_tables.proofs.OwnerLaws.{none_left, right_half, left_half, half_inside}
use Rattle.sdp_tables.proofs.+first_of.Goals as goal

pub returns-then-hi-lo : goal.returns-then-hi-lo
returns-then-hi-lo t c = none_left _ _ _ _ _ _ c.requires.le_w.2 c.if-hi-lo.true

pub first_of-requires : goal.first_of-requires
first_of-requires t c =
    let r = c.requires.le_w in
    (omega arith, ((r.0, r.1, omega arith, r.3), c.requires.never_fall))

pub returns-then-get2-n : goal.returns-then-get2-n
returns-then-get2-n t c =
    let r = c.requires in
    right_half _ _ _ _ _ _ r.never_fall r.le_w.3 _ _ _ c.get2.ensures.0 (omega arith) c.if-get2-n.true (omega arith) c.first_of.ensures

pub first_of-requires-2 : goal.first_of-requires-2
first_of-requires-2 t c =
    let r = c.requires.le_w in
    (omega arith, ((r.0, r.1, omega arith, omega arith), c.requires.never_fall))

pub returns : goal.returns
returns t c =
    let r = c.requires in
    left_half _ _ _ _ _ _ r.never_fall r.le_w.3 _ _ _ c.get2.ensures.0 (omega arith) c.if-get2-n.false (omega arith) c.first_of-2.ensures
