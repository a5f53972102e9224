use Rattle.sdp_stamp_valid.specs.Fine.{fine_line}
use Rattle.sdp_stamp_valid.proofs.fine_column.Given as goal

abbrev pub ghost-every_at : goal.ghost-every_at
ghost-every_at a = fine_line a.test.0.now
