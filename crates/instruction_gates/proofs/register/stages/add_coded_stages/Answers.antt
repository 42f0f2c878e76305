use Rattle.std.proofs.Common.{take, arith}
use Rattle.instruction_gates.proofs.Added.{first_counted, first_below, stages_room}
use Rattle.instruction_gates.proofs.register.stages.add_coded_stages.Goals as goal

pub add_stages-requires-clause-captured : goal.add_stages-requires-clause-captured
add_stages-requires-clause-captured c = λ nets more.
    first_below c.constants_are_bits.ensures c.args.codes.now.length c.args.codes.now.capture.value c.constants_of-captured.result c.constants_of-captured.ensures c.requires.bits nets

pub returns-clause-count : goal.returns-clause-count
returns-clause-count c =
    let a = first_counted c.constants_are_bits.ensures c.args.codes.now.length c.args.codes.now.capture.value c.constants_of-captured.result c.constants_of-captured.ensures c.requires.bits in
    let b = first_counted c.constants_are_bits.ensures c.args.codes.now.length c.args.codes.now.reset.value c.constants_of-presets.result c.constants_of-presets.ensures c.requires.bits in
    let more = c.appended_count.ensures c.args.netlist.now c.add_stages.new.netlist _ _ c.add_stages.ensures.added in
    omega arith

pub returns-clause-cells_left : goal.returns-clause-cells_left
returns-clause-cells_left c =
    stages_room c.args.netlist.now c.add_stages.new.netlist c.args.tap.now c.args.tdi (take c.args.codes.now.length c.constants_of-captured.result)
    (take c.args.codes.now.length c.constants_of-presets.result) c.args.codes.now.length
    (first_counted c.constants_are_bits.ensures c.args.codes.now.length c.args.codes.now.capture.value c.constants_of-captured.result c.constants_of-captured.ensures c.requires.bits)
    (first_counted c.constants_are_bits.ensures c.args.codes.now.length c.args.codes.now.reset.value c.constants_of-presets.result c.constants_of-presets.ensures c.requires.bits)
    c.add_stages.ensures.added
