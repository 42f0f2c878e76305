use Rattle.std.proofs.Common.{◌≡◌, map, take}
use Rattle.bsdl_lexicon.specs.NameKeys.{names_in}
use Rattle.bsdl_device.specs.declared.entries.OpcodeEntry.{OpcodeEntry}
use Rattle.bsdl_port_rules.proofs.instructions.gather_names.Given as goal

abbrev pub invariant-loop-opcode : goal.invariant-loop-opcode
invariant-loop-opcode l = names_in l.names.items ≡ map (λ (o : OpcodeEntry). o.name) (take l.opcode-index l.opcodes)
