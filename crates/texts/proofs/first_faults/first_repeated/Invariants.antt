use Rattle.std.proofs.Common.{◌≡◌, [], drop}
use Rattle.texts.specs.Repeated.{repeated_after, seen, texts}
use Rattle.texts.proofs.first_faults.first_repeated.Given as goal

abbrev pub invariant-loop-name : goal.invariant-loop-name
invariant-loop-name l = repeated_after (seen l.table) (texts (drop l.name-index l.names)) ≡ repeated_after [] (texts l.names)
