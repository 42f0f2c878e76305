use Rattle.play_command.proofs.CheckMade.{all_made, all_fault}
use Rattle.play_command.proofs.check.check_texts.checked.Goals as goal

pub returns-clause-checked : goal.returns-clause-checked
returns-clause-checked c = all_made c.checked_linked.result c.args.library c.args.net c.args.text c.args.events c.in_ok-linked.linked c.in_ok-linked.ensures.linked c.checked_linked.ensures.checked

pub returns-clause-fault : goal.returns-clause-fault
returns-clause-fault c = all_fault c.checked_linked.result c.args.library c.args.net c.args.text c.args.events c.in_ok-linked.linked c.in_ok-linked.ensures.linked c.checked_linked.ensures.fault
