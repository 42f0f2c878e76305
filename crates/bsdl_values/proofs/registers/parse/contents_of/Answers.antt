use Rattle.bsdl_values.proofs.RegistersFaults.{contents_refused}
use Rattle.bsdl_values.proofs.registers.parse.contents_of.Goals as goal

pub returns-in-Err-Section-clause-fault : goal.returns-in-Err-Section-clause-fault
returns-in-Err-Section-clause-fault c =
    let wrong = rw c.in-Err-Section.field-0-is at c.in-Err-Section.ensures.fault in
    contents_refused (record { file = c.spells_one_file.ensures; contents = c.strings_hold_one_contents.ensures }) c.args.words.now c.args.parts.now c.in-Err-Section.section c.string_word-word.result c.place_of-place.result c.requires.parted wrong c.string_word-word.ensures c.place_of-place.ensures
