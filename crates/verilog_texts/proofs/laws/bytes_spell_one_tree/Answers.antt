use Rattle.verilog_texts.proofs.Texts.{spells_once}
use Rattle.verilog_texts.proofs.laws.bytes_spell_one_tree.Goals as goal

pub returns : goal.returns
returns c = spells_once c.bytes_have_one_list_of_words.ensures c.words_spell_one_module.ensures
