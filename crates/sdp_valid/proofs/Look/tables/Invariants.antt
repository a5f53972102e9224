use Prim.Native.Nat.{◌+◌}
use Rattle.sdp_valid.specs.Judge.{fine_string, fine_connection, fine_pair, fine_media}
use Rattle.sdp_valid.proofs.Look.tables.Given as goal

abbrev pub ghost-rows : goal.ghost-rows
ghost-rows a = fine_string a.self.now.area.now a.self.now.text.now

abbrev pub ghost-rows-2 : goal.ghost-rows-2
ghost-rows-2 a = fine_string a.self.now.area.now a.self.now.text.now

abbrev pub ghost-rows-3 : goal.ghost-rows-3
ghost-rows-3 a = λ p. fine_connection a.self.now.area.now a.self.now.text.now (p + 2)

abbrev pub ghost-rows-4 : goal.ghost-rows-4
ghost-rows-4 a = λ p. fine_string a.self.now.area.now a.self.now.text.now (p + 2)

abbrev pub ghost-rows-5 : goal.ghost-rows-5
ghost-rows-5 a = λ p. fine_pair a.self.now.area.now a.self.now.text.now (p + 2)

abbrev pub ghost-rows-6 : goal.ghost-rows-6
ghost-rows-6 a = fine_media a.self.now.area.now a.self.now.text.now
