use Rattle.written_netlists.proofs.Prefix.{stitched_has_free_prefix as lemma}
use Rattle.written_netlists.proofs.names.stitched_has_free_prefix.Goals as goal

pub returns : goal.returns
returns c = lemma c.prefixes_are_free.ensures c.stitched_holds_the_core.ensures c.part_is_named.ensures c.stitched_directions.ensures
