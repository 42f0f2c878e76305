use Rattle.netlist_link.proofs.Parts.{part_formed}
use Rattle.netlist_link.proofs.draft_laws.part_is_formed.Goals as goal

pub returns : goal.returns
returns c = part_formed c.appended_grows.ensures c.levels_number.ensures c.bit_of_a_direction.ensures
