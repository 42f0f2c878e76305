use Rattle.insertion_laws.proofs.Chips.{texts_agree as lemma}
use Rattle.insertion_laws.proofs.checks.texts_agree.Goals as goal

pub returns : goal.returns
returns c = lemma c.spelled_trees_keep_the_conditions.ensures c.bytes_spell_one_tree.ensures c.spells_one_device.ensures c.link_views_agree.ensures c.link_view_is_named.ensures c.link_view_is_formed.ensures c.devices_have_ports.ensures
