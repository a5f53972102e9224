use Prim.Native.Nat.{◌+◌}
use Rattle.sdp_room.specs.Room.{contact_room, connection_room, bandwidth_room, attribute_room, media_room}
use Rattle.sdp_room.proofs.Room.tables.Given as goal

abbrev pub ghost-sum_rows : goal.ghost-sum_rows
ghost-sum_rows a = contact_room a.area.now

abbrev pub ghost-sum_rows-2 : goal.ghost-sum_rows-2
ghost-sum_rows-2 a = contact_room a.area.now

abbrev pub ghost-sum_rows-3 : goal.ghost-sum_rows-3
ghost-sum_rows-3 a = λ p. connection_room a.area.now (p + 2)

abbrev pub ghost-sum_rows-4 : goal.ghost-sum_rows-4
ghost-sum_rows-4 a = bandwidth_room a.area.now

abbrev pub ghost-sum_rows-5 : goal.ghost-sum_rows-5
ghost-sum_rows-5 a = attribute_room a.area.now

abbrev pub ghost-sum_rows-6 : goal.ghost-sum_rows-6
ghost-sum_rows-6 a = media_room a.area.now
