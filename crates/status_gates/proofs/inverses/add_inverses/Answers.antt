use Rattle.std.proofs.Common.{◌≡◌, length, arith}
use Rattle.netlist_model.specs.Lists.{cell_count}
use Rattle.status_gates.proofs.Added.{inverses_length, inverted_more, inverted_all}
use Rattle.status_gates.proofs.inverses.add_inverses.Goals as goal

pub loop-place-init : goal.loop-place-init
loop-place-init c = record { added = c.appended_none.ensures c.args.netlist.now c.requires.dense; dense = c.requires.dense }

pub add_inverse-requires-clause-nets : goal.add_inverse-requires-clause-nets
add_inverse-requires-clause-nets c = omega (arith, c.requires.nets, c.loop-place-test.true, c.loop-place.invariant.added.net_room)

pub add_inverse-requires-clause-cells : goal.add_inverse-requires-clause-cells
add_inverse-requires-clause-cells c =
    let old = c.args.netlist.now.lists in
    let sized = inverses_length (length old.nets) (cell_count old) c.args.opcode.0 c.loop-place.place in
    omega (arith, c.requires.cells, c.loop-place-test.true, c.loop-place.invariant.added.cell_room, sized)

pub add_inverse-requires-clause-bit : goal.add_inverse-requires-clause-bit
add_inverse-requires-clause-bit c =
    let more = c.appended_count.ensures c.args.netlist.now c.loop-place.netlist _ _ c.loop-place.invariant.added in
    omega (arith, c.requires.opcode, c.loop-place-test.true, more)

pub loop-place-preserved : goal.loop-place-preserved
loop-place-preserved c = record {
  added = inverted_more c.added_in_turn.ensures c.args.netlist.now c.loop-place.netlist c.add_inverse.new.netlist c.args.opcode.0 c.loop-place.place c.loop-place.invariant.added c.add_inverse.ensures.added;
  dense = c.add_inverse.ensures.dense;
}

pub returns-clause-added : goal.returns-clause-added
returns-clause-added c =
    let all : c.loop-place.place ≡ c.args.count = omega arith in
    inverted_all c.args.netlist.now c.loop-place.netlist c.args.opcode.0 c.loop-place.place c.args.count all c.loop-place.invariant.added
