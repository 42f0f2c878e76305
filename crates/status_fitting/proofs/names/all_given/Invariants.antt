use Rattle.std.proofs.Common.{◌≡◌, take}
use Rattle.std.specs.Prelude.{flat_map}
use Rattle.status_fitting.specs.Keys.{given_in}
use Rattle.status_fitting.specs.Names.{given_by}
use Rattle.status_fitting.proofs.names.all_given.Given as goal

abbrev pub invariant-loop-row : goal.invariant-loop-row
invariant-loop-row l = given_in l.keys.items ≡ flat_map given_by (take l.row-index l.rows)
