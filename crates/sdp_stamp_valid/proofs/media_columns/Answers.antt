-- `sdp_stamp_valid::media_columns` meets its contract. Assumes nothing.
use native.Mathlib.Omega.{arith}
use Rattle.sdp_valid.proofs.CountedLaws.{large_within}
use Rattle.sdp_stamp_valid.proofs.media_columns.Goals as goal

pub fine_marks-requires : goal.fine_marks-requires
fine_marks-requires c =
    let h = c.requires in
    let n = (large_within _ h.0).4 in
    (omega (arith, h.1), (omega (arith, h.1, n), omega (arith, h.1, n)))

pub fine_marks-requires-then-fine_marks : goal.fine_marks-requires-then-fine_marks
fine_marks-requires-then-fine_marks c =
    let h = c.requires in
    let n = (large_within _ h.0).4 in
    (omega (arith, h.1), (omega (arith, h.1, n), omega (arith, h.1, n)))
