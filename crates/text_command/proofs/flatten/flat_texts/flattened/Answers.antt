use Rattle.text_command.proofs.Made.{flattened_made}
use Rattle.text_command.proofs.flatten.flat_texts.flattened.Goals as goal

pub returns-clause-found : goal.returns-clause-found
returns-clause-found c =
    flattened_made c.bytes_spell_one_tree.ensures c.args.library.now c.args.top.now c.args.text c.in_ok-print_module.field-0 c.in_ok-tree.tree c.in_ok-tree.ensures.found
    c.in_ok-print_module.ensures.text c.in_ok-print_module.ensures.spells
