use Rattle.strip_command.proofs.stripped_texts.stripped.Goals as goal

pub returns-clause-made : goal.returns-clause-made
returns-clause-made c = c.strip_module.ensures.made c.args.net c.in_ok-tree.ensures.read

pub returns-clause-fault : goal.returns-clause-fault
returns-clause-fault c = c.strip_module.ensures.fault c.args.net c.in_ok-tree.ensures.read
