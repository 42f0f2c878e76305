use Rattle.conformance_report.proofs.judgement.judge.Given as goal

abbrev pub ghosts-judge_lines : goal.ghosts-judge_lines
ghosts-judge_lines a = record { name = a.blank.name; parts = a.blank.parts }
