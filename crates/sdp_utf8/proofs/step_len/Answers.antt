-- `sdp_utf8::step_len` meets its contract. Assumes nothing.
use native.Mathlib.Omega.{arith}
use Rattle.sdp_bytes.proofs.ScanLaws.{rest_from}
use Rattle.sdp_utf8.proofs.Utf8Laws.{len_none, len_some, len_last, len_high, len_le}
use Rattle.sdp_utf8.proofs.step_len.Goals as goal

pub returns-then-n-eq0 : goal.returns-then-n-eq0
returns-then-n-eq0 c = len_none _ _ c.char_len-n.ensures c.if-n-eq0.true

pub returns-then-s-n : goal.returns-then-s-n
returns-then-s-n c = len_last _ _ c.char_len-n.ensures c.if-n-eq0.false c.if-s-n.true

pub returns-then-s-n-ge128 : goal.returns-then-s-n-ge128
returns-then-s-n-ge128 c = len_high _ _ c.char_len-n.ensures c.if-n-eq0.false c.if-s-n.false c.if-s-n-ge128.true

pub overflow_add-result : goal.overflow_add-result
overflow_add-result c =
    let h = len_le _ _ c.char_len-n.ensures _ (rw rest_from at c.plain_len.ensures) in
    omega arith

pub returns : goal.returns
returns c = len_some _ _ c.char_len-n.ensures c.if-n-eq0.false _ (rw rest_from at c.plain_len.ensures)
