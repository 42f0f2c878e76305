use Rattle.std.proofs.Common.{ℕ, List, ◌++◌, length, refl, subst, ◌∙◌, ap}
use Rattle.list_laws.proofs.Options.{err_is}
use Rattle.command_faults.specs.declared.fault.Fault.{Fault}
use Rattle.command_faults.specs.Statuses.{status_of}
use Rattle.command_edges.specs.Libraries.{name_of, names_if}
use Rattle.command_edges.specs.Names.{names_of}
use Rattle.command_edges.specs.Seen.{ShelfSeen, SinkSeen, shelf_seen, sink_seen}
use Rattle.command_edges.specs.Texts.{AreRead, StandsInReadings}
use Rattle.command_edges.specs.Tasks.{Task, Completes}
use Rattle.command_edges.proofs.Outcome.{IsGiven, read_count, reading_completes, refusal_completes, given_done, given_fault, given_completes}
use Rattle.command_edges.proofs.tasks.run_task.Goals as goal

pub returns-in_err-texts-clause-complete : goal.returns-in_err-texts-clause-complete
returns-in_err-texts-clause-complete g c =
    let t : Task = g.C.TextCommand.task c.args.command in
    let shelf : ShelfSeen = shelf_seen g.S.Shelf.tells g.S.Shelf.held g.S.Shelf.written g.S.Shelf.faults c.args.shelf.now c.read_with_library.new.shelf in
    let sink : SinkSeen = sink_seen g.O.Sink.given g.O.Sink.faults c.args.out.now c.args.out.now in
    err_is c.from_residual.result c.in_err-texts.field-0.0 (λ (f : Fault). Completes t shelf sink (status_of f)) c.from_residual.ensures.1
    (reading_completes t shelf sink c.in_err-texts.field-0.0 (subst (λ (names : List (List ℕ)). StandsInReadings names shelf c.in_err-texts.field-0.0) c.requires.reads c.in_err-texts.ensures.fault))

pub made_of-requires : goal.made_of-requires
made_of-requires g c =
    read_count (g.S.Shelf.held c.args.shelf.now) (names_of c.args.reads.now ++ names_if (name_of c.args.library)) c.in_ok-texts.texts c.in_ok-texts.ensures.read
    ∙ ap (λ (names : List (List ℕ)). length names) c.requires.reads

pub returns-in_err-made-clause-complete : goal.returns-in_err-made-clause-complete
returns-in_err-made-clause-complete g c =
    let t : Task = g.C.TextCommand.task c.args.command in
    let shelf : ShelfSeen = shelf_seen g.S.Shelf.tells g.S.Shelf.held g.S.Shelf.written g.S.Shelf.faults c.args.shelf.now c.read_with_library.new.shelf in
    let sink : SinkSeen = sink_seen g.O.Sink.given g.O.Sink.faults c.args.out.now c.args.out.now in
    err_is c.from_residual-in_err-made.result c.in_err-made.field-0.0 (λ (f : Fault). Completes t shelf sink (status_of f)) c.from_residual-in_err-made.ensures.1
    (refusal_completes t shelf sink c.in_err-made.field-0.0 c.in_ok-texts.texts
    (subst (λ (names : List (List ℕ)). AreRead shelf.held names c.in_ok-texts.texts) c.requires.reads c.in_ok-texts.ensures.read) c.in_err-made.ensures.free)

pub returns-clause-done : goal.returns-clause-done
returns-clause-done g c =
    let t : Task = g.C.TextCommand.task c.args.command in
    let early : ShelfSeen = shelf_seen g.S.Shelf.tells g.S.Shelf.held g.S.Shelf.written g.S.Shelf.faults c.read_with_library.new.shelf c.give.new.shelf in
    let shelf : ShelfSeen = shelf_seen g.S.Shelf.tells g.S.Shelf.held g.S.Shelf.written g.S.Shelf.faults c.args.shelf.now c.give.new.shelf in
    let sink : SinkSeen = sink_seen g.O.Sink.given g.O.Sink.faults c.args.out.now c.give.new.out in
    let made = c.in_ok-made.made in
    let given : IsGiven t (names_of c.args.writes.now) c.args.puts early shelf made.outputs made.put made.status = record {
      names_are = c.requires.writes;
      puts_is = c.requires.puts;
      made = record {
        texts = c.in_ok-texts.texts;
        read = subst (λ (names : List (List ℕ)). AreRead shelf.held names c.in_ok-texts.texts) c.requires.reads c.in_ok-texts.ensures.read;
        made = c.in_ok-made.ensures.made;
      };
      wider = record { tells = refl; after = refl; kept = λ name is. c.in_ok-texts.ensures.written name; now = refl; later = c.in_ok-texts.ensures.later };
    } in
    given_done c.give.result t (names_of c.args.writes.now) c.args.puts early shelf sink made.outputs made.put made.status given c.give.ensures.status c.give.ensures.written c.give.ensures.is_put

pub returns-clause-fault : goal.returns-clause-fault
returns-clause-fault g c =
    let t : Task = g.C.TextCommand.task c.args.command in
    let early : ShelfSeen = shelf_seen g.S.Shelf.tells g.S.Shelf.held g.S.Shelf.written g.S.Shelf.faults c.read_with_library.new.shelf c.give.new.shelf in
    let shelf : ShelfSeen = shelf_seen g.S.Shelf.tells g.S.Shelf.held g.S.Shelf.written g.S.Shelf.faults c.args.shelf.now c.give.new.shelf in
    let sink : SinkSeen = sink_seen g.O.Sink.given g.O.Sink.faults c.args.out.now c.give.new.out in
    let made = c.in_ok-made.made in
    let given : IsGiven t (names_of c.args.writes.now) c.args.puts early shelf made.outputs made.put made.status = record {
      names_are = c.requires.writes;
      puts_is = c.requires.puts;
      made = record {
        texts = c.in_ok-texts.texts;
        read = subst (λ (names : List (List ℕ)). AreRead shelf.held names c.in_ok-texts.texts) c.requires.reads c.in_ok-texts.ensures.read;
        made = c.in_ok-made.ensures.made;
      };
      wider = record { tells = refl; after = refl; kept = λ name is. c.in_ok-texts.ensures.written name; now = refl; later = c.in_ok-texts.ensures.later };
    } in
    given_fault c.give.result t (names_of c.args.writes.now) c.args.puts early shelf sink made.outputs made.put made.status sink.given_after given c.give.ensures.fault

pub returns-clause-complete : goal.returns-clause-complete
returns-clause-complete g c =
    let t : Task = g.C.TextCommand.task c.args.command in
    let early : ShelfSeen = shelf_seen g.S.Shelf.tells g.S.Shelf.held g.S.Shelf.written g.S.Shelf.faults c.read_with_library.new.shelf c.give.new.shelf in
    let shelf : ShelfSeen = shelf_seen g.S.Shelf.tells g.S.Shelf.held g.S.Shelf.written g.S.Shelf.faults c.args.shelf.now c.give.new.shelf in
    let sink : SinkSeen = sink_seen g.O.Sink.given g.O.Sink.faults c.args.out.now c.give.new.out in
    let made = c.in_ok-made.made in
    let given : IsGiven t (names_of c.args.writes.now) c.args.puts early shelf made.outputs made.put made.status = record {
      names_are = c.requires.writes;
      puts_is = c.requires.puts;
      made = record {
        texts = c.in_ok-texts.texts;
        read = subst (λ (names : List (List ℕ)). AreRead shelf.held names c.in_ok-texts.texts) c.requires.reads c.in_ok-texts.ensures.read;
        made = c.in_ok-made.ensures.made;
      };
      wider = record { tells = refl; after = refl; kept = λ name is. c.in_ok-texts.ensures.written name; now = refl; later = c.in_ok-texts.ensures.later };
    } in
    given_completes c.give.result t (names_of c.args.writes.now) c.args.puts early shelf sink made.outputs made.put made.status sink.given_after given c.give.ensures.fault
