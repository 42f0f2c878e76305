use Rattle.instruction_gates.proofs.Added.{opcodes_added}
use Rattle.instruction_gates.proofs.register.opcodes.add_opcodes.Goals as goal

pub returns-clause-added : goal.returns-clause-added
returns-clause-added c =
    opcodes_added c.added_in_turn.ensures c.constants_are_bits.ensures c.appended_none.ensures c.args.netlist.now c.add_opcode-extest.new.netlist c.add_opcode-sample.new.netlist
    c.add_opcode-preload.new.netlist c.add_opcode-idcode.new.netlist c.add_opcode-highz.new.netlist c.add_opcode-clamp.new.netlist c.add_opcode-usercode.new.netlist c.args.latches.0 c.args.codes.now c.add_opcode-usercode.ensures.dense
    c.add_opcode-extest.ensures.added c.add_opcode-sample.ensures.added c.add_opcode-preload.ensures.added c.add_opcode-idcode.ensures.added c.add_opcode-highz.ensures.added
    c.add_opcode-clamp.ensures.added c.add_opcode-usercode.ensures.added
