-- `sdp_stamp_valid::fine_columns` meets its contract. Assumes nothing.
use native.Mathlib.Omega.{arith}
use Rattle.sdp_valid.proofs.CountedLaws.{small_within, large_within}
use Rattle.sdp_stamp_valid.proofs.fine_columns.Goals as goal

pub fine_column-requires : goal.fine_column-requires
fine_column-requires c = let h = c.requires in (omega (arith, h.1), omega (arith, h.1, (small_within _ h.0).0))

pub fine_column-requires-then-fine_column : goal.fine_column-requires-then-fine_column
fine_column-requires-then-fine_column c = let h = c.requires in (omega (arith, h.1), omega (arith, h.1, (small_within _ h.0).1))

pub fine_column-requires-then-fine_column-2 : goal.fine_column-requires-then-fine_column-2
fine_column-requires-then-fine_column-2 c = let h = c.requires in (omega (arith, h.1), omega (arith, h.1, (small_within _ h.0).2))

pub fine_column-requires-then-fine_column-3 : goal.fine_column-requires-then-fine_column-3
fine_column-requires-then-fine_column-3 c = let h = c.requires in (omega (arith, h.1), omega (arith, h.1, (small_within _ h.0).3))

pub fine_column-requires-then-fine_column-4 : goal.fine_column-requires-then-fine_column-4
fine_column-requires-then-fine_column-4 c = let h = c.requires in (omega (arith, h.1), omega (arith, h.1, (small_within _ h.0).4))

pub fine_column-requires-then-fine_column-5 : goal.fine_column-requires-then-fine_column-5
fine_column-requires-then-fine_column-5 c = let h = c.requires in (omega (arith, h.1), omega (arith, h.1, (large_within _ h.0).0))

pub fine_column-requires-then-fine_column-6 : goal.fine_column-requires-then-fine_column-6
fine_column-requires-then-fine_column-6 c = let h = c.requires in (omega (arith, h.1), omega (arith, h.1, (large_within _ h.0).1))

pub fine_column-requires-then-fine_column-7 : goal.fine_column-requires-then-fine_column-7
fine_column-requires-then-fine_column-7 c = let h = c.requires in (omega (arith, h.1), omega (arith, h.1, (large_within _ h.0).2))

pub fine_column-requires-then-fine_column-8 : goal.fine_column-requires-then-fine_column-8
fine_column-requires-then-fine_column-8 c = let h = c.requires in (omega (arith, h.1), omega (arith, h.1, (large_within _ h.0).3))

pub fine_column-requires-then-fine_column-9 : goal.fine_column-requires-then-fine_column-9
fine_column-requires-then-fine_column-9 c = let h = c.requires in (omega (arith, h.1), omega (arith, h.1, (large_within _ h.0).4))
