use Rattle.std.proofs.Common.{◌≡◌, map, take}
use Rattle.bsdl_lexicon.specs.NameKeys.{names_in}
use Rattle.bsdl_device.specs.declared.registers.values.RegisterEntry.{RegisterEntry}
use Rattle.bsdl_checks.proofs.registers.opcodes.instructions.Given as goal

abbrev pub invariant-loop-entry : goal.invariant-loop-entry
invariant-loop-entry l = names_in l.keys.items ≡ map (λ (e : RegisterEntry). e.instruction) (take l.entry-index l.entries)
