use Rattle.scan_vectors.proofs.Verdicts as verdicts
use Rattle.scan_vectors.proofs.scripts.laws.legal_lines_are_not_illegal.Goals as goal

pub returns : goal.returns
returns c = record { legal = verdicts.legal_is_not_illegal; once = verdicts.illegal_at_one_line }
