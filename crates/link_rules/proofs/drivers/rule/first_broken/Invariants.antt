use Rattle.std.proofs.Common.{◌≡◌, drop}
use Rattle.std.specs.List.{zip}
use Rattle.link_model.specs.Lists.{first_in}
use Rattle.link_rules.specs.declared.drivers.rule.Rule.{Rule}
use Rattle.link_rules.specs.Rules.{broken, rules}
use Rattle.link_rules.proofs.drivers.rule.first_broken.Given as goal

abbrev pub invariant-loop-rule : goal.invariant-loop-rule
invariant-loop-rule l = first_in (λ (rule : Rule). first_in (broken rule) (zip l.uses l.nets)) (drop l.rule-index rules) ≡ first_in (λ (rule : Rule). first_in (broken rule) (zip l.uses l.nets)) rules
