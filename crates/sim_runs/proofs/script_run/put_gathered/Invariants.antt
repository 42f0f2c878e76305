use Rattle.sim_runs.proofs.script_run.put_gathered.Given as goal

abbrev pub ghosts-put_lent : goal.ghosts-put_lent
ghosts-put_lent g a = record { name = a.lent.out.ghost_name; first = g.O.Sink.given a.lent.out.now }
