use Rattle.netlist_link.proofs.Parts.{part_readable}
use Rattle.netlist_link.proofs.draft_laws.part_is_readable.Goals as goal

pub returns : goal.returns
returns c = part_readable c.appended_grows.ensures c.bit_of_a_direction.ensures
