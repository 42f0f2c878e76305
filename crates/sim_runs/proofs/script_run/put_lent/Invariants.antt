use Rattle.sim_runs.proofs.script_run.put_lent.Given as goal

abbrev pub ghosts-put_run : goal.ghosts-put_run
ghosts-put_run g a = record { name = a.blank.name; parts = a.blank.parts }
