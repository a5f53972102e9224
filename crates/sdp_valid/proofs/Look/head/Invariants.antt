use Rattle.sdp_valid.specs.Judge.{fine_origin, fine_connection, fine_pair}
use Rattle.sdp_valid.proofs.Look.head.Given as goal

abbrev pub ghost-marked : goal.ghost-marked
ghost-marked a = fine_origin a.self.now.area.now a.self.now.text.now

abbrev pub ghost-marked-2 : goal.ghost-marked-2
ghost-marked-2 a = fine_connection a.self.now.area.now a.self.now.text.now

abbrev pub ghost-marked-3 : goal.ghost-marked-3
ghost-marked-3 a = fine_pair a.self.now.area.now a.self.now.text.now
