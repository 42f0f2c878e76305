use Rattle.bsdl_values.proofs.Texts.{spells_once}
use Rattle.bsdl_values.proofs.laws.spells_one_device.Goals as goal

pub returns : goal.returns
returns c = λ bytes d e first second. spells_once (record { file = c.spells_one_file.ensures; contents = c.strings_hold_one_contents.ensures }) c.texts_are_one_list_of_words.ensures bytes e d second first
