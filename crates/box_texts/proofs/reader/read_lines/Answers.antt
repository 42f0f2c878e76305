use Rattle.std.proofs.Common.{arith}
use Rattle.box_texts.proofs.KeptRows.{rows_fit}
use Rattle.box_texts.proofs.reader.read_lines.Goals as goal

pub keep_lines-requires : goal.keep_lines-requires
keep_lines-requires c =
    let few = rows_fit c.args.bytes.now c.new-reader.result.rows c.pass.new.self.rows c.new-reader.ensures.rows c.pass.ensures.rows in
    omega arith
