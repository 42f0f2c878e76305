use Rattle.std.proofs.Common.{◌≡◌, drop}
use Rattle.texts.specs.First.{first_in}
use Rattle.plan_texts.specs.Rules.{missing}
use Rattle.plan_texts.proofs.rules.find_missing.Given as goal

abbrev pub invariant-loop-instruction : goal.invariant-loop-instruction
invariant-loop-instruction l =
    first_in (missing l.opcodes) (drop l.instruction-index l.instruction-items) ≡ first_in (missing l.opcodes) l.instruction-items
