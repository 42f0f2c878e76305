use Rattle.status_register.proofs.WrittenWhole.{is_written}
use Rattle.status_register.proofs.written.status_is_written.Goals as goal

pub returns : goal.returns
returns c = is_written (record {
  fitting = c.fitted_is_fitting.ensures;
  limits = c.status_keeps_limits.ensures;
  entered = c.tap_names_are_entered.ensures;
  places = c.dense_keeps_places.ensures;
  agree = c.link_views_agree.ensures;
  exists = c.some_link_view.ensures;
  spell = c.canonical_texts_spell_their_trees.ensures;
  one = c.bytes_spell_one_tree.ensures;
})
