-- `sdp_room::Room::tables` meets its contract. Assumes nothing.
use Rattle.sdp_valid.proofs.CountedLaws.{emails_inside, phones_inside, connections_inside, bandwidths_inside, attributes_inside, medias_inside}
use Rattle.sdp_valid.proofs.LentLaws.{one_lives}
use Rattle.std.proofs.Common.{rules}
use Rattle.sdp_room.proofs.Room.tables.Goals as goal

pub sum_rows-requires : goal.sum_rows-requires
sum_rows-requires c = λ k h. (one_lives k.1.0 k.1.1.0 k.1.1.1.0 h.0 h.1.0, (emails_inside _ c.args.self.now.counted, (search rules, search rules)))

pub sum_rows-requires-2 : goal.sum_rows-requires-2
sum_rows-requires-2 c = λ k h. (one_lives k.1.0 k.1.1.0 k.1.1.1.0 h.0 h.1.0, (phones_inside _ c.args.self.now.counted, (search rules, search rules)))

pub sum_rows-requires-3 : goal.sum_rows-requires-3
sum_rows-requires-3 c = λ k h. (one_lives k.1.0 k.1.1.0 k.1.1.1.0 h.0 h.1.0, (connections_inside _ c.args.self.now.counted, (search rules, search rules)))

pub sum_rows-requires-4 : goal.sum_rows-requires-4
sum_rows-requires-4 c = λ k h. (one_lives k.1.0 k.1.1.0 k.1.1.1.0 h.0 h.1.0, (bandwidths_inside _ c.args.self.now.counted, (search rules, search rules)))

pub sum_rows-requires-5 : goal.sum_rows-requires-5
sum_rows-requires-5 c = λ k h. (one_lives k.1.0 k.1.1.0 k.1.1.1.0 h.0 h.1.0, (attributes_inside _ c.args.self.now.counted, (search rules, search rules)))

pub sum_rows-requires-6 : goal.sum_rows-requires-6
sum_rows-requires-6 c = λ k h. (one_lives k.1.0 k.1.1.0 k.1.1.1.0 h.0 h.1.0, (medias_inside _ c.args.self.now.counted, (search rules, search rules)))
