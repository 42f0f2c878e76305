use Rattle.std.proofs.Common.{◌≡◌, take}
use Rattle.bsdl_lexicon.specs.NameKeys.{names_in}
use Rattle.bsdl_device.specs.Checks.{instructions_of}
use Rattle.bsdl_port_rules.proofs.access.gather_instructions.Given as goal

abbrev pub invariant-loop-entry : goal.invariant-loop-entry
invariant-loop-entry l = names_in l.names.items ≡ instructions_of (take l.entry-index l.access)
