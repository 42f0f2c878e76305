use Rattle.bsdl_device.proofs.Proved.{reads_each_file}
use Rattle.bsdl_device.proofs.reading.laws.reads_each_file.Goals as goal

pub returns : goal.returns
returns c = reads_each_file
