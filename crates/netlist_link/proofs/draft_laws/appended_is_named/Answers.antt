use Rattle.netlist_link.proofs.DraftLawsNamed.{appended_named}
use Rattle.netlist_link.proofs.draft_laws.appended_is_named.Goals as goal

pub returns : goal.returns
returns c = appended_named c.appended_grows.ensures c.bit_of_a_direction.ensures
