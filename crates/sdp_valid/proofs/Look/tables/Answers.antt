-- `sdp_valid::Look::tables` meets its contract. Assumes nothing.
use native.Mathlib.Omega.{arith}
use Rattle.std.proofs.Common.{rules}
use Rattle.sdp_valid.proofs.LentLaws.{two_live}
use Rattle.sdp_valid.proofs.CountedLaws.{emails_inside, phones_inside, connections_inside, bandwidths_inside, attributes_inside, medias_inside}
use Rattle.sdp_valid.proofs.Look.tables.Goals as goal

pub rows-requires : goal.rows-requires
rows-requires c = λ k h. (two_live k.1.1.0 k.1.1.1.0 k.1.1.1.1.0 h.0 h.1.0, (emails_inside _ c.requires, (search rules, search rules)))

pub rows-requires-then-rows : goal.rows-requires-then-rows
rows-requires-then-rows c = λ k h. (two_live k.1.1.0 k.1.1.1.0 k.1.1.1.1.0 h.0 h.1.0, (phones_inside _ c.requires, (search rules, search rules)))

pub rows-requires-then-rows-2 : goal.rows-requires-then-rows-2
rows-requires-then-rows-2 c = λ k h. (two_live k.1.1.0 k.1.1.1.0 k.1.1.1.1.0 h.0 h.1.0, (connections_inside _ c.requires, (search rules, search rules)))

pub rows-requires-then-rows-3 : goal.rows-requires-then-rows-3
rows-requires-then-rows-3 c = λ k h. (two_live k.1.1.0 k.1.1.1.0 k.1.1.1.1.0 h.0 h.1.0, (bandwidths_inside _ c.requires, (search rules, search rules)))

pub rows-requires-then-rows-4 : goal.rows-requires-then-rows-4
rows-requires-then-rows-4 c = λ k h. (two_live k.1.1.0 k.1.1.1.0 k.1.1.1.1.0 h.0 h.1.0, (attributes_inside _ c.requires, (search rules, search rules)))

pub rows-requires-then-rows-5 : goal.rows-requires-then-rows-5
rows-requires-then-rows-5 c = λ k h. (two_live k.1.1.0 k.1.1.1.0 k.1.1.1.1.0 h.0 h.1.0, (medias_inside _ c.requires, (search rules, search rules)))
