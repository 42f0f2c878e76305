use Rattle.std.proofs.Common.{◌≡◌, [], map, drop}
use Rattle.texts.specs.Repeated.{seen}
use Rattle.box_model.specs.Faults.{name_fault}
use Rattle.box_trees.specs.HiddenNames.{told}
use Rattle.box_trees.proofs.name_faults.first_fault.Given as goal

abbrev pub invariant-loop-one : goal.invariant-loop-one
invariant-loop-one l = name_fault l.used (seen l.before) (map (told l.clashing) (drop l.one-index l.hidden)) ≡ name_fault l.used [] (map (told l.clashing) l.hidden)
