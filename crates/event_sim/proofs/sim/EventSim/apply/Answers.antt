use Rattle.std.proofs.Common.{◌≡◌, ◌≤◌, ◌<◌, ◌+◌, ◌*◌, ◌∙◌, ℕ, sym, ap, length, arith}
use Rattle.netlist_model.specs.Lists.{NetlistView}
use Rattle.list_laws.proofs.Lists.{front_of}
use Rattle.event_sim.proofs.Simulators.{state_fits}
use Rattle.event_sim.proofs.sim.EventSim.apply.Goals as goal

pub take_event-requires-clause-between : goal.take_event-requires-clause-between
take_event-requires-clause-between g c =
    let r = c.self.invariant.rooms in
    let t = c.self.invariant.tables in
    let nets : length c.self.inside.circuit.lists.nets ≡ length c.self.inside.linked.now.arena.lists.nets = ap (λ (N : NetlistView). length N.nets) t.lists_are in
    let started = rw (← c.self.view_is) at c.requires.started in
    let resting = c.self.invariant.rest started in
    rw (c.as_mut_slice.ensures.value, c.as_mut_slice-2.ensures.value, c.as_mut_slice-3.ensures.value, c.as_mut_slice-4.ensures.value, c.as_mut_slice-5.ensures.value) record {
      awaits = record {
        for_pins = r.for_pins ∙ sym nets;
        for_log = (let room = r.for_log in omega arith);
        fits = record {
          for_drives = r.for_drives ∙ sym nets;
          for_values = r.for_values ∙ sym nets;
          for_state = λ number cell live. state_fits c.self.inside.linked.now.arena.lists c.self.inside.linked.now.order c.self.inside.state.items c.netlist.ensures.linked.ordered r.for_state number cell (rw t.lists_are at live);
          for_queue = r.for_queue;
        };
        rest = rw t.lists_are resting.rest;
        empty = c.self.invariant.queue_is;
      };
      same = resting.same;
      none = c.self.invariant.log_is;
    }

pub invariant_of-self : goal.invariant_of-self
invariant_of-self g c =
    let r = c.self.invariant.rooms in
    let t = c.self.invariant.tables in
    let e = c.take_event.ensures in
    let nets : length c.self.inside.circuit.lists.nets ≡ length c.self.inside.linked.now.arena.lists.nets = ap (λ (N : NetlistView). length N.nets) t.lists_are in
    let pins : c.self.inside.pins.len ≡ length c.take_event.new.pins = (let old = c.as_mut_slice.ensures.len in let new = c.take_event.auto.pins in omega arith) in
    let before : c.self.inside.before.len ≡ length c.take_event.new.before = (let old = c.as_mut_slice-2.ensures.len in let new = c.take_event.auto.before in omega arith) in
    let values : c.self.inside.values.len ≡ length c.take_event.new.values = (let old = c.as_mut_slice-3.ensures.len in let new = c.take_event.auto.values in omega arith) in
    let state : c.self.inside.state.len ≡ length c.take_event.new.state = (let old = c.as_mut_slice-4.ensures.len in let new = c.take_event.auto.state in omega arith) in
    let drives : c.self.inside.drives.len ≡ length c.take_event.new.drives = (let old = c.as_mut_slice-5.ensures.len in let new = c.take_event.auto.drives in omega arith) in
    record {
      tables = record {
        lists_are = t.lists_are;
        controls_are = t.controls_are;
        places_are = t.places_are;
        room = λ net place there. (let room = t.room net place there in let long = e.noted.long in omega arith);
      };
      rooms = rw (
        front_of c.take_event.new.pins _ c.self.inside.pins.len pins,
        front_of c.take_event.new.before _ c.self.inside.before.len before,
        front_of c.take_event.new.values _ c.self.inside.values.len values,
        front_of c.take_event.new.state _ c.self.inside.state.len state,
        front_of c.take_event.new.drives _ c.self.inside.drives.len drives,
      ) record {
        for_pins = (let room = r.for_pins in omega arith);
        for_before = (let room = r.for_before in omega arith);
        for_values = (let room = r.for_values in omega arith);
        for_state = (let room = r.for_state in omega arith);
        for_drives = (let room = r.for_drives in omega arith);
        for_queue = (let fits = e.between.awaits.fits.for_queue in omega arith);
        for_log = (let room = r.for_log in let long = e.log_long in omega arith);
      };
      rest = λ started. rw (
        front_of c.take_event.new.pins _ c.self.inside.pins.len pins,
        front_of c.take_event.new.before _ c.self.inside.before.len before,
        front_of c.take_event.new.values _ c.self.inside.values.len values,
        front_of c.take_event.new.state _ c.self.inside.state.len state,
        front_of c.take_event.new.drives _ c.self.inside.drives.len drives,
      ) record { rest = rw t.lists_are at e.between.awaits.rest; same = e.between.same };
      queue_is = e.between.awaits.empty;
      log_is = e.between.none;
    }

pub returns-clause-few : goal.returns-clause-few
returns-clause-few g c =
    let values : c.self.inside.values.len ≡ length c.take_event.new.values = (let old = c.as_mut_slice-3.ensures.len in let new = c.take_event.auto.values in omega arith) in
    let few = rw (c.self.invariant.tables.lists_are, c.as_mut_slice-3.ensures.value) at c.take_event.ensures.stepped.few in
    rw (← c.self.view_is, front_of c.take_event.new.values _ c.self.inside.values.len values) few

pub returns-clause-changed : goal.returns-clause-changed
returns-clause-changed g c =
    let t = c.self.invariant.tables in
    let pins : c.self.inside.pins.len ≡ length c.take_event.new.pins = (let old = c.as_mut_slice.ensures.len in let new = c.take_event.auto.pins in omega arith) in
    let values : c.self.inside.values.len ≡ length c.take_event.new.values = (let old = c.as_mut_slice-3.ensures.len in let new = c.take_event.auto.values in omega arith) in
    let noted = rw (t.lists_are, c.as_slice.ensures.value, c.as_mut_slice.ensures.value, c.as_mut_slice-3.ensures.value) at c.take_event.ensures.noted.noted in
    rw (← c.self.view_is, front_of c.take_event.new.pins _ c.self.inside.pins.len pins, front_of c.take_event.new.values _ c.self.inside.values.len values)
    (λ place net there anew. noted net.0 place (t.places_are.each place net there) anew)
