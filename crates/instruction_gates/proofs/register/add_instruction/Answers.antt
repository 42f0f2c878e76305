use Rattle.instruction_gates.proofs.Added.{instruction_added}
use Rattle.instruction_gates.proofs.register.add_instruction.Goals as goal

pub returns-clause-added : goal.returns-clause-added
returns-clause-added c =
    instruction_added c.added_in_turn.ensures c.constants_are_bits.ensures c.args.netlist.now c.add_coded_stages-stages.new.netlist c.add_opcodes-matched.new.netlist c.add_selections-nets.new.netlist
    c.add_copies.new.netlist c.args.tap.now c.args.tdi c.args.codes.now c.add_coded_stages-stages.result.latches c.add_opcodes-matched.result c.add_coded_stages-stages.ensures.latches c.add_opcodes-matched.ensures.told
    c.add_coded_stages-stages.ensures.added c.add_opcodes-matched.ensures.added c.add_selections-nets.ensures.added c.add_copies.ensures.added
