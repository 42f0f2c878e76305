use Rattle.bsdl_values.proofs.Once.{texts_once}
use Rattle.bsdl_values.proofs.register_texts.laws.spells_one_extended.Goals as goal

pub returns : goal.returns
returns c = texts_once (record { file = c.spells_one_file.ensures; contents = c.strings_hold_one_contents.ensures }) c.texts_are_one_list_of_words.ensures
