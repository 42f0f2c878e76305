use Rattle.verilog_texts.proofs.Texts.{spell_once}
use Rattle.verilog_texts.proofs.laws.bytes_spell_one_list_of_trees.Goals as goal

pub returns : goal.returns
returns c = spell_once c.bytes_have_one_list_of_words.ensures c.words_spell_one_list.ensures
