use Rattle.strip_model.proofs.law.fitted_can_be_told.Goals as goal
use Rattle.strip_model.proofs.Ready.{can_be_told}

pub returns : goal.returns
returns c = can_be_told c.tap_names_are_entered.ensures c.prefixes_are_free.ensures c.tap_names_are_new.ensures c.fitted_can_be_undone.ensures
