use Rattle.std.proofs.Common.{◌-◌, Some, length, drop, ap, sym, ◌∙◌, arith}
use Rattle.std.proofs.lemmas.Option.{slice_get-get_or}
use Rattle.netlist_model.specs.Lists.{cell_count}
use Rattle.netlist_arena.proofs.Laid.{All-slice_get}
use Rattle.status_fitting.specs.declared.fitted.FittedRegister.{FittedRegister}
use Rattle.status_gates.specs.Registers.{CanStand}
use Rattle.status_gates.proofs.PartsAdded.{added_none, added_step, added_whole, stands_later, split_at, shown_below, registers_length}
use Rattle.status_gates.proofs.parts.registers.add_registers.Goals as goal

pub loop-place-init : goal.loop-place-init
loop-place-init c = record {
  gates = added_none c.args.netlist.now c.args.shared.now c.args.bypass c.args.registers.now (c.appended_none.ensures c.args.netlist.now c.requires.dense);
  dense = c.requires.dense;
}

pub add_register-shown-requires-clause-nets : goal.add_register-shown-requires-clause-nets
add_register-shown-requires-clause-nets c =
    let low = c.loop-place-test.true in
    let high = c.loop-place.auto.place in
    let r : FittedRegister = c.index-registers-place.result in
    let at = slice_get-get_or c.args.registers.now (c.loop-place.place - 1) r (omega (arith, low, high)) ∙ ap (λ (x : FittedRegister). Some x) (sym c.index-registers-place.is) in
    let split = split_at c.args.registers.now c.loop-place.place r low at in
    let room = c.loop-place.invariant.gates.added.net_room in
    let nets = c.requires.nets in
    omega (arith, split, room, nets)

pub add_register-shown-requires-clause-cells : goal.add_register-shown-requires-clause-cells
add_register-shown-requires-clause-cells c =
    let low = c.loop-place-test.true in
    let high = c.loop-place.auto.place in
    let r : FittedRegister = c.index-registers-place.result in
    let at = slice_get-get_or c.args.registers.now (c.loop-place.place - 1) r (omega (arith, low, high)) ∙ ap (λ (x : FittedRegister). Some x) (sym c.index-registers-place.is) in
    let split = split_at c.args.registers.now c.loop-place.place r low at in
    let room = c.loop-place.invariant.gates.added.cell_room in
    let long = registers_length c.constants_are_bits.ensures (length c.args.netlist.now.lists.nets) (cell_count c.args.netlist.now.lists) c.args.shared.now c.args.bypass (drop c.loop-place.place c.args.registers.now) in
    let cells = c.requires.cells in
    omega (arith, split, room, long, cells)

pub add_register-shown-requires-clause-stands : goal.add_register-shown-requires-clause-stands
add_register-shown-requires-clause-stands c =
    let low = c.loop-place-test.true in
    let high = c.loop-place.auto.place in
    let r : FittedRegister = c.index-registers-place.result in
    let at = slice_get-get_or c.args.registers.now (c.loop-place.place - 1) r (omega (arith, low, high)) ∙ ap (λ (x : FittedRegister). Some x) (sym c.index-registers-place.is) in
    let more = c.appended_count.ensures c.args.netlist.now c.loop-place.netlist _ _ c.loop-place.invariant.gates.added in
    stands_later (length c.args.netlist.now.lists.nets) (length c.loop-place.netlist.lists.nets) c.args.shared.now r (omega (arith, more))
    (All-slice_get (CanStand (length c.args.netlist.now.lists.nets) c.args.shared.now) c.args.registers.now (c.loop-place.place - 1) r c.requires.stand at)

pub add_register-shown-requires-clause-behind : goal.add_register-shown-requires-clause-behind
add_register-shown-requires-clause-behind c =
    let more = c.appended_count.ensures c.args.netlist.now c.loop-place.netlist _ _ c.loop-place.invariant.gates.added in
    let bypass = c.requires.bypass in
    shown_below (length c.args.netlist.now.lists.nets) (length c.loop-place.netlist.lists.nets) c.args.bypass (drop c.loop-place.place c.args.registers.now) c.loop-place.shown
    c.loop-place.invariant.gates.shown_is (omega (arith, more, bypass)) (omega (arith, more))

pub loop-place-preserved : goal.loop-place-preserved
loop-place-preserved c =
    let low = c.loop-place-test.true in
    let high = c.loop-place.auto.place in
    let r : FittedRegister = c.index-registers-place.result in
    let at = slice_get-get_or c.args.registers.now (c.loop-place.place - 1) r (omega (arith, low, high)) ∙ ap (λ (x : FittedRegister). Some x) (sym c.index-registers-place.is) in
    let more = c.appended_count.ensures c.args.netlist.now c.loop-place.netlist _ _ c.loop-place.invariant.gates.added in
    record {
      gates = added_step c.added_in_turn.ensures c.constants_are_bits.ensures c.args.netlist.now c.loop-place.netlist c.add_register-shown.new.netlist c.args.shared.now c.args.bypass c.loop-place.place
          c.args.registers.now r c.loop-place.shown c.add_register-shown.result low high at c.loop-place.invariant.gates more c.add_register-shown.ensures.added c.add_register-shown.ensures.shown;
      dense = c.add_register-shown.ensures.dense;
    }

pub returns-clause-added : goal.returns-clause-added
returns-clause-added c =
    let none = c.loop-place-test.false in
    (added_whole c.args.netlist.now c.loop-place.netlist c.args.shared.now c.args.bypass c.loop-place.place c.args.registers.now c.loop-place.shown (omega (arith, none)) c.loop-place.invariant.gates).added

pub returns-clause-shown : goal.returns-clause-shown
returns-clause-shown c =
    let none = c.loop-place-test.false in
    (added_whole c.args.netlist.now c.loop-place.netlist c.args.shared.now c.args.bypass c.loop-place.place c.args.registers.now c.loop-place.shown (omega (arith, none)) c.loop-place.invariant.gates).shown_is
