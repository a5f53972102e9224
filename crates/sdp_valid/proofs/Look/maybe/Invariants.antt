use Rattle.sdp_valid.specs.Judge.{fine_string}
use Rattle.sdp_valid.proofs.Look.maybe.Given as goal

abbrev pub ghost-marked : goal.ghost-marked
ghost-marked a = fine_string a.self.now.area.now a.self.now.text.now
