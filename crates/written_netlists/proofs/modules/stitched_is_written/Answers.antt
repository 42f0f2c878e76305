use Rattle.written_netlists.proofs.ModulesWhole.{is_written}
use Rattle.written_netlists.proofs.modules.stitched_is_written.Goals as goal

pub returns : goal.returns
returns c =
    is_written c.fitted_is_fitting.ensures c.stitched_keeps_limits.ensures c.tap_names_are_entered.ensures c.stitched_keeps.ensures c.dense_keeps_places.ensures c.stitched_has_counts.ensures
    c.link_views_agree.ensures c.some_link_view.ensures c.canonical_texts_spell_their_trees.ensures c.bytes_spell_one_tree.ensures
