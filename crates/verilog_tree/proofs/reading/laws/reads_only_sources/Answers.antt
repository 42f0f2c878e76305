use Rattle.verilog_tree.proofs.ReadingWhole.{reads_only_sources}
use Rattle.verilog_tree.proofs.reading.laws.reads_only_sources.Goals as goal

pub returns : goal.returns
returns c = reads_only_sources
