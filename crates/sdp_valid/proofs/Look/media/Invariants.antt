use mathlib.Core.Bool.{true}
use Rattle.sdp_valid.specs.Judge.{fine_pair}
use Rattle.sdp_valid.proofs.Look.media.Given as goal

abbrev pub ghost-marked : goal.ghost-marked
ghost-marked a = λ q. true

abbrev pub ghost-marked-2 : goal.ghost-marked-2
ghost-marked-2 a = fine_pair a.self.now.area.now a.self.now.text.now
