use Rattle.bsdl_words.proofs.Once.{one_list}
use Rattle.bsdl_words.proofs.laws.texts_are_one_list_of_words.Goals as goal

pub returns : goal.returns
returns c = one_list
