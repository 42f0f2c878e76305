use Rattle.std.proofs.Common.{refl, sym, subst, ◌∙◌}
use Rattle.command_edges.specs.Ends.{IsEnd}
use Rattle.command_edges.specs.Seen.{ShelfSeen, SinkSeen, shelf_seen, sink_seen}
use Rattle.command_edges.proofs.Told.{rose_earlier, rose_on}
use Rattle.command_faults.specs.Statuses.{status_of}
use Rattle.command_line.specs.Names.{Writes}
use Rattle.command_line.proofs.Runs.{fault_later, completes_later, keeps_later, unwritten, line_put}
use Rattle.command_line.proofs.Ends.{fault_apart}
use Rattle.command_line.proofs.Meets.{misses_nothing, no_end_misses}
use Rattle.command_line.proofs.tool.run_tool.Goals as goal

pub returns-clause-done : goal.returns-clause-done
returns-clause-done g c = λ end. absurd (fault_apart c.in-Err.fault (subst IsEnd c.status-status.ensures end))

pub returns-clause-fault : goal.returns-clause-fault
returns-clause-fault g c = λ not_end.
    let shelf : ShelfSeen = shelf_seen g.S.Shelf.tells g.S.Shelf.held g.S.Shelf.written g.S.Shelf.faults c.args.shelf.now c.run.new.shelf in
    let early : SinkSeen = sink_seen g.O.Sink.given g.O.Sink.faults c.args.out.now c.run.new.out in
    let late : SinkSeen = sink_seen g.O.Sink.given g.O.Sink.faults c.args.out.now c.put_fault.new.out in
    record {
      fault = c.in-Err.fault;
      status_is = sym c.status-status.ensures;
      before = g.O.Sink.given c.run.new.out;
      stands = fault_later c.args.words.now shelf early late c.in-Err.fault (g.O.Sink.given c.run.new.out) refl
          (λ rose. rose_on (g.O.Sink.faults c.args.out.now) (g.O.Sink.faults c.run.new.out) (g.O.Sink.faults c.put_fault.new.out) rose c.put_fault.ensures.later) c.in-Err.ensures.fault;
      line = line_put c.put_fault.result
          (λ rose. rose_earlier (g.O.Sink.faults c.args.out.now) (g.O.Sink.faults c.run.new.out) (g.O.Sink.faults c.put_fault.new.out) c.in-Err.ensures.keeps.puts_later rose)
          c.put_fault.ensures.ok c.put_fault.ensures.fault c.put_fault.ensures.cause;
    }

pub returns-clause-complete : goal.returns-clause-complete
returns-clause-complete g c = λ not_end.
    let shelf : ShelfSeen = shelf_seen g.S.Shelf.tells g.S.Shelf.held g.S.Shelf.written g.S.Shelf.faults c.args.shelf.now c.run.new.shelf in
    let early : SinkSeen = sink_seen g.O.Sink.given g.O.Sink.faults c.args.out.now c.run.new.out in
    let late : SinkSeen = sink_seen g.O.Sink.given g.O.Sink.faults c.args.out.now c.put_fault.new.out in
    completes_later c.args.words.now shelf early late (status_of c.in-Err.fault) c.status-status.result c.status-status.ensures
    (λ rose. rose_on (g.O.Sink.faults c.args.out.now) (g.O.Sink.faults c.run.new.out) (g.O.Sink.faults c.put_fault.new.out) rose c.put_fault.ensures.later) c.in-Err.ensures.complete

pub returns-clause-meets : goal.returns-clause-meets
returns-clause-meets g c =
    let shelf : ShelfSeen = shelf_seen g.S.Shelf.tells g.S.Shelf.held g.S.Shelf.written g.S.Shelf.faults c.args.shelf.now c.run.new.shelf in
    no_end_misses c.args.words.now shelf c.status-status.result (λ end. fault_apart c.in-Err.fault (subst IsEnd c.status-status.ensures end))

pub returns-in-Ok-clause-meets : goal.returns-in-Ok-clause-meets
returns-in-Ok-clause-meets g c =
    let shelf : ShelfSeen = shelf_seen g.S.Shelf.tells g.S.Shelf.held g.S.Shelf.written g.S.Shelf.faults c.args.shelf.now c.run.new.shelf in
    let sink : SinkSeen = sink_seen g.O.Sink.given g.O.Sink.faults c.args.out.now c.run.new.out in
    misses_nothing c.written_programs_miss_nothing.ensures c.texts_of_libraries_are_spelled_or_at_fault.ensures.once c.args.words.now shelf sink c.in-Ok.status c.in-Ok.ensures.done

pub returns-clause-unwritten : goal.returns-clause-unwritten
returns-clause-unwritten g c = λ not_end other.
    let shelf : ShelfSeen = shelf_seen g.S.Shelf.tells g.S.Shelf.held g.S.Shelf.written g.S.Shelf.faults c.args.shelf.now c.run.new.shelf in
    let sink : SinkSeen = sink_seen g.O.Sink.given g.O.Sink.faults c.args.out.now c.run.new.out in
    unwritten c.args.words.now shelf sink c.in-Err.fault (g.O.Sink.given c.run.new.out) c.in-Err.ensures.fault (λ is. other (c.status-status.ensures ∙ is))

pub returns-clause-keeps : goal.returns-clause-keeps
returns-clause-keeps g c =
    let shelf : ShelfSeen = shelf_seen g.S.Shelf.tells g.S.Shelf.held g.S.Shelf.written g.S.Shelf.faults c.args.shelf.now c.run.new.shelf in
    let early : SinkSeen = sink_seen g.O.Sink.given g.O.Sink.faults c.args.out.now c.run.new.out in
    let late : SinkSeen = sink_seen g.O.Sink.given g.O.Sink.faults c.args.out.now c.put_fault.new.out in
    keeps_later (Writes c.args.words.now) shelf early late refl c.put_fault.ensures.later c.in-Err.ensures.keeps
