use Rattle.bsdl_device.proofs.Proved.{reads_only_files}
use Rattle.bsdl_device.proofs.reading.laws.reads_only_files.Goals as goal

pub returns : goal.returns
returns c = reads_only_files
