use Rattle.netlist_link.proofs.Chain.{parts_formed}
use Rattle.netlist_link.proofs.draft_laws.parts_are_formed.Goals as goal

pub returns : goal.returns
returns c = parts_formed (record { grows = c.appended_grows.ensures; number = c.levels_number.ensures; has = c.bit_of_a_direction.ensures })
