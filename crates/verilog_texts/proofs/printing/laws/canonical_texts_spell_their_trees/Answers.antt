use Rattle.verilog_texts.proofs.Lines.{canonical_spells}
use Rattle.verilog_texts.proofs.printing.laws.canonical_texts_spell_their_trees.Goals as goal

pub returns : goal.returns
returns c = canonical_spells
