use Rattle.std.proofs.Common.{◌≡◌, ℕ, List, Option, IfErr, sym, subst}
use Rattle.std.specs.Borrow.{Bor}
use Rattle.command_faults.specs.Statuses.{status_of}
use Rattle.command_edges.specs.Libraries.{name_of}
use Rattle.command_edges.specs.Seen.{ShelfSeen, SinkSeen, shelf_seen, sink_seen}
use Rattle.command_edges.specs.Tasks.{Completes}
use Rattle.play_command.specs.SimTasks.{sim_task}
use Rattle.play_command.proofs.sim.simulation.simulate.Goals as goal

pub returns-in-Some-clause-complete : goal.returns-in-Some-clause-complete
returns-in-Some-clause-complete g c =
    let shelf : ShelfSeen = shelf_seen g.S.Shelf.tells g.S.Shelf.held g.S.Shelf.written g.S.Shelf.faults c.args.shelf.now c.simulate_files.new.shelf in
    let sink : SinkSeen = sink_seen g.O.Sink.given g.O.Sink.faults c.args.out.now c.simulate_files.new.out in
    subst (λ (name : Option (Bor (List ℕ))). IfErr c.simulate_files.result (λ f. Completes (sim_task c.args.netlist.now c.args.events.now (name_of name)) shelf sink (status_of f)))
    (sym c.in-Some.is) c.simulate_files.ensures.complete

pub returns-in-None-clause-complete : goal.returns-in-None-clause-complete
returns-in-None-clause-complete g c =
    let shelf : ShelfSeen = shelf_seen g.S.Shelf.tells g.S.Shelf.held g.S.Shelf.written g.S.Shelf.faults c.args.shelf.now c.simulate_files-in-None.new.shelf in
    let sink : SinkSeen = sink_seen g.O.Sink.given g.O.Sink.faults c.args.out.now c.simulate_files-in-None.new.out in
    subst (λ (name : Option (Bor (List ℕ))). IfErr c.simulate_files-in-None.result (λ f. Completes (sim_task c.args.netlist.now c.args.events.now (name_of name)) shelf sink (status_of f)))
    (sym c.in-None.is) c.simulate_files-in-None.ensures.complete
