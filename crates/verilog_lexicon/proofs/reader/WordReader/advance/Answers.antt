use Rattle.std.proofs.Common.{◌∙◌, ap}
use Rattle.verilog_lexicon.specs.Words.{plain, rest}
use Rattle.verilog_lexicon.proofs.ReadWords.{drop_one}
use Rattle.verilog_lexicon.proofs.reader.WordReader.advance.Goals as goal

pub returns : goal.returns
returns c = drop_one (plain c.self.inside.words.now.list) c.self.inside.next ∙ ap rest c.self.view_is
