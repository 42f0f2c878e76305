use Rattle.text_command.proofs.ConvertFound.{canonical_found}
use Rattle.text_command.proofs.convert.canonical_texts.canonical_module.Goals as goal

pub returns-clause-found : goal.returns-clause-found
returns-clause-found c =
    canonical_found c.bytes_spell_one_tree.ensures c.args.text c.in_ok-print_module.field-0 c.in_ok-tree.tree c.in_ok-tree.ensures.read
    c.in_ok-print_module.ensures.text c.in_ok-print_module.ensures.spells
