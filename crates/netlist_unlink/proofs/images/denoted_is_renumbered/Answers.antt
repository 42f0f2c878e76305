use Rattle.netlist_unlink.proofs.ImagesWritten.{denoted_is_renumbered}
use Rattle.netlist_unlink.proofs.images.denoted_is_renumbered.Goals as goal

pub returns : goal.returns
returns c = denoted_is_renumbered c.copy_is_renumbering.ensures
