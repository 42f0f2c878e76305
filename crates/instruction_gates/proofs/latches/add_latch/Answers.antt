use Rattle.std.proofs.Common.{◌∷◌, [], arith}
use Rattle.netlist_model.specs.declared.Feed.TheVariants.{Net, Const}
use Rattle.instruction_gates.proofs.LatchAdded.{one_room, latch_added}
use Rattle.instruction_gates.proofs.latches.add_latch.Goals as goal

pub add_held_bit-bit-requires-clause-cells : goal.add_held_bit-bit-requires-clause-cells
add_held_bit-bit-requires-clause-cells c =
    one_room c.args.netlist.now c.add_part-loaded.new.netlist (Net c.args.shift ∷ Const c.is_one-is_preset.result ∷ Net c.args.latching.now.in_reset ∷ []) c.add_part-loaded.ensures.added c.requires.cells

pub add_held_bit-bit-requires-clause-holding : goal.add_held_bit-bit-requires-clause-holding
add_held_bit-bit-requires-clause-holding c =
    let more = c.appended_count.ensures c.args.netlist.now c.add_part-loaded.new.netlist 1 _ c.add_part-loaded.ensures.added in
    let a = c.requires.clock.0 in let b = c.requires.clock.1 in (omega arith, omega arith)

pub add_held_bit-bit-requires-clause-load : goal.add_held_bit-bit-requires-clause-load
add_held_bit-bit-requires-clause-load c =
    let more = c.appended_count.ensures c.args.netlist.now c.add_part-loaded.new.netlist 1 _ c.add_part-loaded.ensures.added in
    let a = c.requires.steps.0 in omega arith

pub add_held_bit-bit-requires-clause-loaded : goal.add_held_bit-bit-requires-clause-loaded
add_held_bit-bit-requires-clause-loaded c =
    let more = c.appended_count.ensures c.args.netlist.now c.add_part-loaded.new.netlist 1 _ c.add_part-loaded.ensures.added in
    let a = c.add_part-loaded.ensures.first in omega arith

pub returns-clause-added : goal.returns-clause-added
returns-clause-added c = latch_added c.added_in_turn.ensures c.args.netlist.now c.add_part-loaded.new.netlist c.add_held_bit-bit.new.netlist c.args.latching.now c.args.shift c.args.preset
    c.is_one-is_preset.result c.add_part-loaded.result c.is_one-is_preset.ensures c.add_part-loaded.ensures.first c.add_part-loaded.ensures.added c.add_held_bit-bit.ensures.added
