use Rattle.scan_vectors.proofs.Steps.{header_read}
use Rattle.scan_vectors.proofs.reader.Reader.read_header.Goals as goal

pub returns-in-Header-clause-read : goal.returns-in-Header-clause-read
returns-in-Header-clause-read c bytes rest before =
    header_read bytes c.args.self.now.lines c.args.self.now.lines.end c.args.line.now rest c.in-Header.ensures.0 c.in-Header.ensures.1.0 before
