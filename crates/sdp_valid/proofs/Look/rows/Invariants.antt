use Rattle.sdp_valid.proofs.Look.rows.Given as goal

abbrev pub ghost-every_at : goal.ghost-every_at
ghost-every_at g a = g.rule
