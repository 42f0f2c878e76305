use Rattle.insertion_laws.proofs.Chips.{netlists_have_chips as lemma}
use Rattle.insertion_laws.proofs.checks.netlists_have_chips.Goals as goal

pub returns : goal.returns
returns c = lemma c.direction_of_a_bit.ensures c.link_view_is_named.ensures c.link_view_is_formed.ensures c.plans_suit_netlists.ensures c.devices_have_ports.ensures c.hidden_bits_have_none.ensures c.plans_stand_around.ensures c.same_realises.ensures
