use Rattle.verilog_tree.proofs.CompleteItems.{spells_one_source}
use Rattle.verilog_tree.proofs.reading.laws.spells_one_source.Goals as goal

pub returns : goal.returns
returns c = spells_one_source
