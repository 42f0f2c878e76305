use Rattle.status_fitting.proofs.Once.{right_once}
use Rattle.status_fitting.proofs.WireWords.{named_once}
use Rattle.status_fitting.proofs.laws.fitting_has_one_answer.Goals as goal

pub returns-clause-words : goal.returns-clause-words
returns-clause-words c = named_once

pub returns-clause-answers : goal.returns-clause-answers
returns-clause-answers c = right_once
