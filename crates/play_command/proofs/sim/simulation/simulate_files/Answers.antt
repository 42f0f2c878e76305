use Rattle.std.proofs.Common.{◌≡◌, ◌≤◌, ℕ, List, length, arith}
use Rattle.std.proofs.lemmas.List.{length-map}
use Rattle.std.specs.Borrow.{Bor}
use Rattle.list_laws.proofs.Options.{err_is}
use Rattle.command_faults.specs.declared.fault.Fault.{Fault}
use Rattle.command_faults.specs.Statuses.{status_of}
use Rattle.command_edges.specs.Names.{names_of}
use Rattle.command_edges.specs.Seen.{ShelfSeen, SinkSeen, shelf_seen, sink_seen}
use Rattle.command_edges.specs.Tasks.{Task, Completes}
use Rattle.command_edges.proofs.Outcome.{read_count, reading_completes}
use Rattle.play_command.specs.SimTasks.{sim_of}
use Rattle.play_command.proofs.SimComplete.{Laws}
use Rattle.play_command.proofs.Simulated.{sim_completes}
use Rattle.play_command.proofs.sim.simulation.simulate_files.Goals as goal

pub returns-clause-complete : goal.returns-clause-complete
returns-clause-complete g c =
    let shelf : ShelfSeen = shelf_seen g.S.Shelf.tells g.S.Shelf.held g.S.Shelf.written g.S.Shelf.faults c.args.shelf.now c.read_all.new.shelf in
    let sink : SinkSeen = sink_seen g.O.Sink.given g.O.Sink.faults c.args.out.now c.play_all.new.out in
    let laws : Laws = record {
      links = c.simulation_faults_stand_apart.ensures.links;
      box_links = c.simulation_faults_stand_apart.ensures.box_links;
      once = c.simulation_faults_stand_apart.ensures.once;
      faultless = c.simulation_faults_stand_apart.ensures.faultless;
      legal = c.simulation_faults_stand_apart.ensures.legal;
      one_library = c.simulation_faults_stand_apart.ensures.one_library;
      no_library_fault = c.simulation_faults_stand_apart.ensures.no_library_fault;
    } in
    sim_completes c.play_all.result laws (names_of c.args.files.now) shelf sink sink.given_after c.in_ok-texts.texts c.in_ok-texts.ensures.read c.play_all.ensures.fault

pub returns-in_err-texts-clause-complete : goal.returns-in_err-texts-clause-complete
returns-in_err-texts-clause-complete g c =
    let t : Task = sim_of (names_of c.args.files.now) in
    let shelf : ShelfSeen = shelf_seen g.S.Shelf.tells g.S.Shelf.held g.S.Shelf.written g.S.Shelf.faults c.args.shelf.now c.read_all.new.shelf in
    let sink : SinkSeen = sink_seen g.O.Sink.given g.O.Sink.faults c.args.out.now c.args.out.now in
    err_is c.from_residual.result c.in_err-texts.field-0.0 (λ (f : Fault). Completes t shelf sink (status_of f)) c.from_residual.ensures.1
    (reading_completes t shelf sink c.in_err-texts.field-0.0 c.in_err-texts.ensures.fault)

pub play_all-requires : goal.play_all-requires
play_all-requires g c =
    let count : length c.in_ok-texts.texts ≡ length (names_of c.args.files.now) = read_count (g.S.Shelf.held c.args.shelf.now) (names_of c.args.files.now) c.in_ok-texts.texts c.in_ok-texts.ensures.read in
    let same : length (names_of c.args.files.now) ≡ length c.args.files.now = length-map c.args.files.now (λ (name : Bor (List ℕ)). name.now) in
    let two : 2 ≤ length c.args.files.now = c.requires in
    omega arith
