use Rattle.box_model.proofs.Boxless.{boxless_opens, boxless_closes, boxless_stays_ordered, boxless_is_clear}
use Rattle.box_model.proofs.laws.boxless_changes_nothing.Goals as goal

pub returns-clause-opens : goal.returns-clause-opens
returns-clause-opens c = boxless_opens

pub returns-clause-closes : goal.returns-clause-closes
returns-clause-closes c = boxless_closes

pub returns-clause-ordered : goal.returns-clause-ordered
returns-clause-ordered c = boxless_stays_ordered

pub returns-clause-clear : goal.returns-clause-clear
returns-clause-clear c = boxless_is_clear
