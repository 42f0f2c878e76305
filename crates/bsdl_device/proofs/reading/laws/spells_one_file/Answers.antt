use Rattle.bsdl_device.proofs.Proved.{spells_one_file}
use Rattle.bsdl_device.proofs.reading.laws.spells_one_file.Goals as goal

pub returns : goal.returns
returns c = spells_one_file
