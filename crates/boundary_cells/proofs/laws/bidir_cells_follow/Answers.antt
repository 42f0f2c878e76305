use Rattle.boundary_cells.proofs.ThreeStates.{bidir as lemma}
use Rattle.boundary_cells.proofs.laws.bidir_cells_follow.Goals as goal

pub returns : goal.returns
returns c = lemma c.shift_bits_follow.ensures c.held_bits_follow.ensures c.contained_parts.ensures c.contained_part_meets.ensures c.driven_net_follows_no_pin.ensures
