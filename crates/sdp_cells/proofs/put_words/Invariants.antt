-- `sdp_cells::put_words` meets its contract. The invariant: the first i numbers stand from at on.
-- Assumes nothing.
use mathlib.Core.Path.{◌≡◌}
use lib.ListN.{length, take}
use Rattle.sdp_cells.specs.Bytes.{over}
use Rattle.sdp_cells.specs.Tables.{pairs}
use Rattle.sdp_cells.proofs.put_words.Given as goal

abbrev pub invariant-loop-i : goal.invariant-loop-i
invariant-loop-i l = l.a ≡ over l.initial.a l.at (pairs (take l.i l.ws))
