use Rattle.scan_vectors.specs.Faults.{line_of}
use Rattle.scan_vectors.proofs.Steps.{event_read}
use Rattle.scan_vectors.proofs.reader.Reader.read_event.Goals as goal

pub returns-in-Event-clause-read : goal.returns-in-Event-clause-read
returns-in-Event-clause-read c bytes rest behind =
    event_read c.args.self.now c.add_line.new.self bytes c.args.line.now rest (line_of c.in-Event.act c.in-Event.pin.now c.in-Event.value) c.add_line.result
    c.requires c.in-Event.ensures.0 c.in-Event.ensures.1.1 c.add_line.ensures.ok c.add_line.ensures.err behind
