use Rattle.box_texts.proofs.ReadsBack.{spelled_can_be_printed}
use Rattle.box_texts.proofs.Spelled.{spelled_is_sound}
use Rattle.box_texts.proofs.laws.spelled_libraries_are_sound.Goals as goal

pub returns-clause-sound : goal.returns-clause-sound
returns-clause-sound c = spelled_is_sound

pub returns-clause-printed : goal.returns-clause-printed
returns-clause-printed c = spelled_can_be_printed c.texts_of_rows_read_back.ensures
