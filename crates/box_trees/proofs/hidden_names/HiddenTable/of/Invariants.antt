use Rattle.std.proofs.Common.{◌≡◌, take}
use Rattle.texts.specs.Repeated.{texts}
use Rattle.box_trees.specs.HiddenNames.{names_of}
use Rattle.box_trees.proofs.hidden_names.HiddenTable.of.Given as goal

abbrev pub invariant-loop-one : goal.invariant-loop-one
invariant-loop-one l = texts l.names.items ≡ names_of (take l.one-index l.hidden)
