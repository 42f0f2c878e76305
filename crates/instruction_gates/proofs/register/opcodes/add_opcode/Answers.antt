use Rattle.std.proofs.Common.{take, sym, ap, ◌∙◌, List}
use Rattle.cell_library.specs.declared.codes.Opcode.{Opcode}
use Rattle.test_logic.specs.Instructions.{opcode_of}
use Rattle.instruction_gates.proofs.Added.{first_counted}
use Rattle.instruction_gates.proofs.OpcodeAdded.{match_room, match_below, none_added}
use Rattle.instruction_gates.proofs.register.opcodes.add_opcode.Goals as goal

pub returns-in-Some-clause-cells_left : goal.returns-in-Some-clause-cells_left
returns-in-Some-clause-cells_left c =
    match_room c.args.netlist.now c.add_match.new.netlist c.args.latches.0 c.args.codes.now.length (take c.args.codes.now.length c.constants_of-wanted.result)
    (first_counted c.constants_are_bits.ensures c.args.codes.now.length c.in-Some.opcode.value c.constants_of-wanted.result c.constants_of-wanted.ensures c.requires.bits)
    c.add_match.ensures.added

pub returns-in-Some-clause-below : goal.returns-in-Some-clause-below
returns-in-Some-clause-below c = match_below c.appended_count.ensures c.args.netlist.now c.add_match.new.netlist _ (take c.args.codes.now.length c.constants_of-wanted.result) c.add_match.result
    c.add_match.ensures.told c.add_match.ensures.added

pub returns-in-None-clause-added : goal.returns-in-None-clause-added
returns-in-None-clause-added c =
    none_added c.appended_none.ensures c.args.netlist.now c.args.latches.0 c.args.codes.now (opcode_of c.args.codes.now.opcodes c.args.instruction)
    (ap (λ (os : List Opcode). opcode_of os c.args.instruction) (sym c.as_slice.ensures) ∙ sym c.in-None.ensures) c.requires.dense
