use Rattle.std.proofs.lemmas.Option.{same_Some}
use Rattle.verilog_words.proofs.Feeds.{unique}
use Rattle.verilog_words.proofs.laws.bytes_have_one_list_of_words.Goals as goal

pub returns : goal.returns
returns c bytes one other a b = same_Some one other (unique bytes one other a b)
