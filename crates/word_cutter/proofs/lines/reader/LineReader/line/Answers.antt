use Rattle.word_cutter.proofs.Ahead.{line_there}
use Rattle.word_cutter.proofs.lines.reader.LineReader.line.Goals as goal

pub returns : goal.returns
returns c = line_there c.args.self.now c.self.inside.number c.self.inside.text.now c.split_line.result.0.now c.split_line.result.1.now c.self.view_is c.self.invariant.kept c.split_line.ensures.lines
