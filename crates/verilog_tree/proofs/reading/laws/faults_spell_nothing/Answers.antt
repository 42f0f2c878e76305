use Rattle.verilog_tree.proofs.CompleteItems.{faults_spell_nothing}
use Rattle.verilog_tree.proofs.reading.laws.faults_spell_nothing.Goals as goal

pub returns : goal.returns
returns c = faults_spell_nothing
