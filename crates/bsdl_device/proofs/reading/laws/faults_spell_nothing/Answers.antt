use Rattle.bsdl_device.proofs.Proved.{faults_spell_nothing}
use Rattle.bsdl_device.proofs.reading.laws.faults_spell_nothing.Goals as goal

pub returns : goal.returns
returns c = faults_spell_nothing
