use Rattle.std.proofs.Common.{◌≡◌, drop}
use Rattle.std.specs.List.{zip}
use Rattle.link_model.specs.Lists.{first_in}
use Rattle.link_rules.specs.Rules.{broken}
use Rattle.link_rules.proofs.drivers.rule.first_breaking.Given as goal

abbrev pub invariant-loop-number : goal.invariant-loop-number
invariant-loop-number l = first_in (broken l.rule) (zip (drop l.number l.uses) (drop l.number l.nets)) ≡ first_in (broken l.rule) (zip l.uses l.nets)
