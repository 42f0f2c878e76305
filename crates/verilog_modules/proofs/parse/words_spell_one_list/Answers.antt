use Rattle.verilog_modules.proofs.Texts.{spells-one-text}
use Rattle.verilog_modules.proofs.parse.words_spell_one_list.Goals as goal

pub returns : goal.returns
returns c words one other a b = spells-one-text c.reads_each_text.ensures words other one b a
