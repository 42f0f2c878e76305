use Rattle.verilog_texts.proofs.Texts.{read_all}
use Rattle.verilog_texts.proofs.module_text.read_modules.Goals as goal

pub returns-clause-read : goal.returns-clause-read
returns-clause-read c = read_all c.bytes_spell_one_list_of_trees.ensures c.spelled_modules_keep_the_conditions.ensures c.args.text c.in_ok-words.words c.in_ok-trees.trees c.in_ok-words.ensures.words c.in_ok-trees.ensures.trees
