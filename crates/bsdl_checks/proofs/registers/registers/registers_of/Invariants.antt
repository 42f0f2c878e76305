use Rattle.std.proofs.Common.{◌≡◌, take}
use Rattle.std.specs.List.{filter_map}
use Rattle.bsdl_device.specs.RegistersSpelled.{register_of}
use Rattle.bsdl_checks.proofs.registers.registers.registers_of.Given as goal

abbrev pub invariant-loop-entry : goal.invariant-loop-entry
invariant-loop-entry l = l.made ≡ filter_map (register_of l.opcodes) (take l.entry-index l.entries)
