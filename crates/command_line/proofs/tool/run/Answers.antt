use Rattle.command_edges.specs.Seen.{ShelfSeen, SinkSeen, shelf_seen, sink_seen}
use Rattle.command_line.specs.Parsed.{form_of}
use Rattle.command_line.proofs.Runs.{came_done, came_ended, came_fault, came_completes, came_keeps}
use Rattle.command_line.proofs.tool.run.Goals as goal

pub returns-clause-done : goal.returns-clause-done
returns-clause-done g c = came_done c.run_command.result c.args.words.now (form_of c.in-Some.command) _ _ c.in-Some.ensures c.run_command.ensures

pub returns-clause-ended : goal.returns-clause-ended
returns-clause-ended g c =
    let shelf : ShelfSeen = shelf_seen g.S.Shelf.tells g.S.Shelf.held g.S.Shelf.written g.S.Shelf.faults c.args.shelf.now c.run_command.new.shelf in
    let sink : SinkSeen = sink_seen g.O.Sink.given g.O.Sink.faults c.args.out.now c.run_command.new.out in
    came_ended c.run_command.result (form_of c.in-Some.command) shelf sink c.run_command.ensures

pub returns-clause-fault : goal.returns-clause-fault
returns-clause-fault g c = came_fault c.run_command.result c.args.words.now (form_of c.in-Some.command) _ _ c.in-Some.ensures c.run_command.ensures

pub returns-clause-complete : goal.returns-clause-complete
returns-clause-complete g c = came_completes c.run_command.result c.args.words.now (form_of c.in-Some.command) _ _ c.in-Some.ensures c.run_command.ensures

pub returns-clause-keeps : goal.returns-clause-keeps
returns-clause-keeps g c = came_keeps c.run_command.result c.args.words.now (form_of c.in-Some.command) _ _ c.in-Some.ensures c.run_command.ensures
