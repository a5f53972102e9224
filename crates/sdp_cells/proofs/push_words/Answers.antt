-- `sdp_cells::push_words` meets its contract. A row below the capacity is within the table, so there is room for it.
-- Assumes nothing.
use Prim.Native.Nat.{◌*◌}
use native.Mathlib.Omega.{arith}
use lib.ListN.{length}
use borrow.Author.Tests.{lt-ltb, le-ltb}
use Rattle.sdp_cells.specs.Bytes.{num}
use Rattle.sdp_cells.specs.Tables.{told, grown}
use Rattle.sdp_cells.proofs.StoreLaws.{row_within, row_stored}
use Rattle.sdp_cells.proofs.push_words.Goals as goal

pub returns-then-cap-n : goal.returns-then-cap-n
unfolding told grown
returns-then-cap-n c =
    let e = le-ltb _ _ (rw c.get2-n.ensures.0 at c.if-cap-n.true) in
    record { value = rw e; area_after = rw e }

pub overflow_mul-at-2 : goal.overflow_mul-at-2
overflow_mul-at-2 c =
    let b = c.args in
    omega (arith, row_within c.get2-n.result b.cap (length b.ws.now * 2) c.if-cap-n.false)

pub overflow_add-at : goal.overflow_add-at
overflow_add-at c =
    let b = c.args in
    omega (arith, row_within c.get2-n.result b.cap (length b.ws.now * 2) c.if-cap-n.false)

pub overflow_add-at-2 : goal.overflow_add-at-2
overflow_add-at-2 c =
    let b = c.args in
    omega (arith, row_within c.get2-n.result b.cap (length b.ws.now * 2) c.if-cap-n.false)

pub put_words-requires : goal.put_words-requires
put_words-requires c =
    let b = c.args in
    omega (arith, row_within c.get2-n.result b.cap (length b.ws.now * 2) c.if-cap-n.false)

pub returns : goal.returns
unfolding told grown
returns c =
    let b = c.args in
    let a = b.area.now in
    let n = c.get2-n.ensures.0 in
    let e = lt-ltb (num 2 a b.base) b.cap (rw n at c.if-cap-n.false) in
    record { value = rw e; area_after = rw e (row_stored a c.put_words.new.a c.put2.new.a b.ws.now b.base c.get2-n.result (num 2 a b.base) n c.put_words.ensures c.put2.ensures) }
