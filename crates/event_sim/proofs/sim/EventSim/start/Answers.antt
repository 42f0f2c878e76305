use Rattle.std.proofs.Common.{◌≡◌, ◌≤◌, ◌*◌, ◌∙◌, ℕ, length, arith}
use Rattle.list_laws.proofs.Lists.{front_of}
use Rattle.netlist_model.specs.Runs.{Moment}
use Rattle.netlist_settling.specs.Values.{value_at, pin_at}
use Rattle.netlist_meaning.specs.States.{cell_bound}
use Rattle.netlist_meaning.proofs.Flops.{all_kept}
use Rattle.event_laws.proofs.Ends.{starts_rest}
use Rattle.event_sim.proofs.sim.EventSim.start.Goals as goal

pub start-requires-clause-given : goal.start-requires-clause-given
start-requires-clause-given c =
    let count = rw (← c.self.view_is) at c.requires.state.count in
    let long : length c.values-2.result.now ≡ cell_bound c.order.result.now = rw (c.values-2.ensures, c.order.ensures) count in
    all_kept c.order.result.now c.values-2.result.now long

pub invariant_of-self : goal.invariant_of-self
invariant_of-self c =
    let r = c.self.invariant.rooms in
    let t = c.self.invariant.tables in
    let N = c.self.inside.linked.now.arena.lists in
    let pins : c.self.inside.pins.len ≡ length c.copy_from_slice.new.self = (let old = c.as_mut_slice.ensures.len in let new = c.copy_from_slice.auto.self in omega arith) in
    let state : c.self.inside.state.len ≡ length c.start.new.state = (let old = c.as_mut_slice-2.ensures.len in let new = c.start.auto.state in omega arith) in
    let values : c.self.inside.values.len ≡ length c.start.new.values = (let old = c.as_mut_slice-4.ensures.len in let new = c.start.auto.values in omega arith) in
    let before : c.self.inside.before.len ≡ length c.copy_from_slice-2.new.self = (let old = c.as_mut_slice-5.ensures.len in let new = c.copy_from_slice-2.auto.self in omega arith) in
    let drives : c.self.inside.drives.len ≡ length c.keep_drives.new.drives = (let old = c.as_mut_slice-6.ensures.len in let new = c.keep_drives.auto.drives in omega arith) in
    let moment : Moment = record { pins = pin_at c.copy_from_slice.new.self; state = value_at c.start.new.state; value = value_at c.start.new.values } in
    let started = rw (c.netlist.ensures.netlist, c.as_slice.ensures.value, front_of c.copy_from_slice.new.self _ c.self.inside.pins.len pins) at c.start.ensures in
    let driven = rw (t.lists_are, c.as_slice-3.ensures.value, front_of c.start.new.values _ c.self.inside.values.len values) at c.keep_drives.ensures.driven in
    record {
      tables = t;
      rooms = rw (
        front_of c.copy_from_slice.new.self _ c.self.inside.pins.len pins,
        front_of c.copy_from_slice-2.new.self _ c.self.inside.before.len before,
        front_of c.start.new.values _ c.self.inside.values.len values,
        front_of c.start.new.state _ c.self.inside.state.len state,
        front_of c.keep_drives.new.drives _ c.self.inside.drives.len drives,
      ) record {
        for_pins = (let room = r.for_pins in omega arith);
        for_before = (let room = r.for_before in omega arith);
        for_values = (let room = r.for_values in omega arith);
        for_state = (let room = r.for_state in omega arith);
        for_drives = (let room = r.for_drives in omega arith);
        for_queue = r.for_queue;
        for_log = r.for_log;
      };
      rest = λ yes. rw (
        front_of c.copy_from_slice.new.self _ c.self.inside.pins.len pins,
        front_of c.copy_from_slice-2.new.self _ c.self.inside.before.len before,
        front_of c.start.new.values _ c.self.inside.values.len values,
        front_of c.start.new.state _ c.self.inside.state.len state,
        front_of c.keep_drives.new.drives _ c.self.inside.drives.len drives,
      ) record {
        rest = starts_rest N _ moment (pin_at c.keep_drives.new.drives) c.netlist.ensures.linked.formed started driven;
        same = c.copy_from_slice-2.ensures.after ∙ c.as_slice-2.ensures.value ∙ front_of c.start.new.values _ c.self.inside.values.len values;
      };
      queue_is = c.self.invariant.queue_is;
      log_is = c.self.invariant.log_is;
    }
