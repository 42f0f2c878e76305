use Rattle.std.proofs.Common.{◌≡◌, ◌++◌, take}
use Rattle.std.specs.Prelude.{codes}
use Rattle.std.specs.List.{flat_map}
use Rattle.hier_model.specs.Walks.{texts}
use Rattle.hier_flatten.proofs.names.flat_name.Given as goal

abbrev pub invariant-loop-part : goal.invariant-loop-part
invariant-loop-part l = l.flat ≡ flat_map (λ part. part ++ codes "/") (texts (take l.part-index l.at))
