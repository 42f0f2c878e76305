use Rattle.std.proofs.Common.{◌≡◌, ◌<◌, ◌≤◌, ◌*◌, ◌∙◌, ℕ, true, false, Some, ap, length, List, arith}
use Rattle.std.specs.Prelude.{slice_get}
use Rattle.netlist_model.specs.declared.CellId.{CellId}
use Rattle.netlist_arena.specs.Arena.{ArenaView}
use Rattle.netlist_meaning.specs.States.{cell_bound}
use Rattle.event_sim.specs.Shown.{shown_nets}
use Rattle.event_sim.proofs.ShownBits.{shown_once, shown_below}
use Rattle.event_sim.proofs.sim.EventSim.new.Goals as goal

pub places_of-requires-clause-below : goal.places_of-requires-clause-below
places_of-requires-clause-below c = λ place net there.
    let N = c.netlist-netlist.result.now.lists in
    let own : slice_get (shown_nets N) place ≡ Some net = rw (c.as_slice.ensures.value, c.in_ok-nets.ensures) at there in
    let below = shown_below N c.is_laid_out.ensures.laid_out place net own in
    omega (arith, c.net_count-count.ensures)

pub places_of-requires-clause-once : goal.places_of-requires-clause-once
places_of-requires-clause-once c = λ i j net first second.
    let N = c.args.linked.now.arena.lists in
    let is = c.netlist-netlist.ensures.netlist in
    let nets : c.as_slice.result.now ≡ shown_nets N = c.as_slice.ensures.value ∙ c.in_ok-nets.ensures ∙ ap (λ (a : ArenaView). shown_nets a.lists) is in
    shown_once N c.netlist-netlist.ensures.linked.formed i j net (rw nets at first) (rw nets at second)

pub invariant_of-result : goal.invariant_of-result
invariant_of-result c =
    let N = c.args.linked.now.arena.lists in
    let is = c.netlist-netlist.ensures.netlist in
    let count : c.net_count-count.result ≡ length N.nets = c.net_count-count.ensures ∙ ap (λ (a : ArenaView). length a.lists.nets) is in
    let nets : c.in_ok-nets.nets.items ≡ shown_nets N = c.in_ok-nets.ensures ∙ ap (λ (a : ArenaView). shown_nets a.lists) is in
    let placed = rw (c.as_slice.ensures.value, nets) at c.in_ok-places.ensures in
    record {
      tables = record {
        lists_are = c.in_ok-circuit.ensures ∙ ap (λ (a : ArenaView). a.lists) is;
        controls_are = c.in_ok-controls.ensures;
        places_are = placed;
        room = λ net place at. (let within = placed.within net place at in let room = c.in_ok-changed.ensures.room in let long = ap length nets in omega arith);
      };
      rooms = record {
        for_pins = omega (arith, count, c.in_ok-pins.ensures.len);
        for_before = omega (arith, count, c.in_ok-before.ensures.len);
        for_values = omega (arith, count, c.in_ok-values.ensures.len);
        for_state = (let state : length c.in_ok-state.state.items ≡ c.cell_bound.result = omega (arith, c.in_ok-state.ensures.len) in
            state ∙ c.cell_bound.ensures.value ∙ ap (λ (cells : List CellId). cell_bound cells) c.order-2.ensures);
        for_drives = omega (arith, count, c.in_ok-drives.ensures.len);
        for_queue = (let room = c.in_ok-queue.ensures.room in let bound = c.turn_bound.ensures in omega arith);
        for_log = (let room = c.in_ok-log.ensures.room in omega (arith, count));
      };
      rest = λ started. absurd (let no : false ≡ true = started in cc);
      queue_is = c.in_ok-queue.ensures.empty;
      log_is = c.in_ok-log.ensures.empty;
    }
