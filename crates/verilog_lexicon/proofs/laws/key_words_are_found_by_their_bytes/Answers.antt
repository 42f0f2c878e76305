use Rattle.verilog_lexicon.proofs.KeyWordLaws.{found_by_bytes}
use Rattle.verilog_lexicon.proofs.laws.key_words_are_found_by_their_bytes.Goals as goal

pub returns : goal.returns
returns c = found_by_bytes
