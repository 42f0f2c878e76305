use Rattle.std.proofs.Common.{◌+◌, ◌-◌, length, length-drop, drop, get_or, subst, sym, arith}
use Rattle.netlist_model.specs.declared.Feed.{Feed}
use Rattle.netlist_model.specs.declared.Feed.TheVariants.{Net}
use Rattle.netlist_model.specs.Lists.{cell_count}
use Rattle.netlist_model.specs.Below.{IsFeedBelow}
use Rattle.std.proofs.lemmas.Option.{slice_get-get_or}
use Rattle.status_gates.proofs.Added.{told_none, told_step, told_below, told_whole, literal_below, opcode_length, gate_as}
use Rattle.status_gates.proofs.opcodes.add_opcode.Goals as goal

pub loop-place-init : goal.loop-place-init
loop-place-init c = record {
  gates = told_none c.args.netlist.now c.args.opcode.0 c.args.inverses.0 c.args.wanted.now (c.appended_none.ensures c.args.netlist.now c.requires.dense);
  dense = c.requires.dense;
}

pub add_both-both-requires-clause-nets : goal.add_both-both-requires-clause-nets
add_both-both-requires-clause-nets c =
    let low = c.loop-place-test.true in
    let high = c.loop-place.auto.place in
    let long = length-drop c.loop-place.place c.args.wanted.now in
    let room = c.loop-place.invariant.gates.added.net_room in
    omega (arith, c.requires.nets, low, high, long, room)

pub add_both-both-requires-clause-cells : goal.add_both-both-requires-clause-cells
add_both-both-requires-clause-cells c =
    let low = c.loop-place-test.true in
    let high = c.loop-place.auto.place in
    let long = length-drop c.loop-place.place c.args.wanted.now in
    let room = c.loop-place.invariant.gates.added.cell_room in
    let sized = opcode_length (length c.args.netlist.now.lists.nets) (cell_count c.args.netlist.now.lists) (c.args.opcode.0 + c.loop-place.place) (c.args.inverses.0 + c.loop-place.place)
    (drop c.loop-place.place c.args.wanted.now) in
    omega (arith, c.requires.cells, low, high, long, room, sized)

pub add_both-both-requires-clause-this : goal.add_both-both-requires-clause-this
add_both-both-requires-clause-this c =
    let low = c.loop-place-test.true in
    let high = c.loop-place.auto.place in
    let more = c.appended_count.ensures c.args.netlist.now c.loop-place.netlist _ _ c.loop-place.invariant.gates.added in
    subst (λ (f : Feed). IsFeedBelow (length c.loop-place.netlist.lists.nets) f) (sym c.literal-this.ensures)
    (literal_below _ (c.args.opcode.0 + (c.loop-place.place - 1)) (c.args.inverses.0 + (c.loop-place.place - 1)) (length c.loop-place.netlist.lists.nets) (omega (arith, c.requires.opcode, low, high, more)) (omega (arith, c.requires.inverses, low, high, more)))

pub add_both-both-requires-clause-told : goal.add_both-both-requires-clause-told
add_both-both-requires-clause-told c =
    let more = c.appended_count.ensures c.args.netlist.now c.loop-place.netlist _ _ c.loop-place.invariant.gates.added in
    told_below (length c.args.netlist.now.lists.nets) (length c.loop-place.netlist.lists.nets) (drop c.loop-place.place c.args.wanted.now) c.loop-place.told c.loop-place.invariant.gates.told_is more

pub loop-place-preserved : goal.loop-place-preserved
loop-place-preserved c =
    let p = c.loop-place.place in
    let low = c.loop-place-test.true in
    let high = c.loop-place.auto.place in
    let item : Feed = get_or c.args.wanted.now (p - 1) (Net (record { 0 = 0 })) in
    let more = c.appended_count.ensures c.args.netlist.now c.loop-place.netlist _ _ c.loop-place.invariant.gates.added in
    record {
      gates = told_step c.added_in_turn.ensures c.args.netlist.now c.loop-place.netlist c.add_both-both.new.netlist c.args.opcode.0 c.args.inverses.0 p c.args.wanted.now item c.loop-place.told c.add_both-both.result
          low high (slice_get-get_or c.args.wanted.now (p - 1) (Net (record { 0 = 0 })) (omega (arith, low, high))) c.loop-place.invariant.gates
          c.add_both-both.ensures.first more (gate_as c.loop-place.netlist c.add_both-both.new.netlist c.literal-this.result _ c.loop-place.told c.literal-this.ensures c.add_both-both.ensures.added);
      dense = c.add_both-both.ensures.dense;
    }

pub returns-clause-added : goal.returns-clause-added
returns-clause-added c =
    let none = c.loop-place-test.false in
    told_whole c.args.netlist.now c.loop-place.netlist c.args.opcode.0 c.args.inverses.0 c.loop-place.place c.args.wanted.now c.loop-place.told (omega (arith, none)) c.loop-place.invariant.gates
