use Rattle.box_model.proofs.Sums.{opened_items_are_counted, opened_nets_are_counted}
use Rattle.box_model.proofs.laws.opened_modules_are_counted.Goals as goal

pub returns-clause-items : goal.returns-clause-items
returns-clause-items c = opened_items_are_counted

pub returns-clause-nets : goal.returns-clause-nets
returns-clause-nets c = opened_nets_are_counted
