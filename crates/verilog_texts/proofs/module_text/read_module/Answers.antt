use Rattle.verilog_texts.proofs.Texts.{read}
use Rattle.verilog_texts.proofs.module_text.read_module.Goals as goal

pub returns-clause-read : goal.returns-clause-read
returns-clause-read c = read c.bytes_spell_one_tree.ensures c.spelled_trees_keep_the_conditions.ensures c.args.text c.in_ok-words.words c.in_ok-tree.tree c.in_ok-words.ensures.words c.in_ok-tree.ensures.tree
