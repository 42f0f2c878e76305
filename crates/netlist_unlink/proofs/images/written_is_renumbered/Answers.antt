use Rattle.netlist_unlink.proofs.ImagesWritten.{written_is_renumbered}
use Rattle.netlist_unlink.proofs.images.written_is_renumbered.Goals as goal

pub returns : goal.returns
returns c = written_is_renumbered c.copy_is_renumbering.ensures
