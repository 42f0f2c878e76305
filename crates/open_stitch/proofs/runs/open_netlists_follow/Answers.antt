use Rattle.open_stitch.proofs.RunsOpen.{open_netlists_follow}
use Rattle.open_stitch.proofs.runs.open_netlists_follow.Goals as goal

pub returns : goal.returns
returns c = open_netlists_follow c.extension_is_built_in.ensures c.built_in_surrounds.ensures c.surrounded_core_follows.ensures
