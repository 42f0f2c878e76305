use Rattle.bsdl_values.proofs.RegisterTextsTexts.{read_as, text_spelled}
use Rattle.bsdl_values.proofs.register_texts.reader.read_extended.Goals as goal

pub returns-clause-read : goal.returns-clause-read
returns-clause-read c =
    let here = text_spelled c.args.text c.in_ok-words.words c.in_ok-extended.extended c.in_ok-words.ensures.words c.in_ok-extended.ensures.device in
    read_as c.spells_one_extended.ensures c.args.text c.in_ok-extended.extended here (c.canonical_extended_texts_spell.ensures c.in_ok-extended.extended (c.spelled_extended_keep_the_conditions.ensures c.args.text c.in_ok-extended.extended here))

pub returns-clause-keeps : goal.returns-clause-keeps
returns-clause-keeps c =
    c.spelled_extended_keep_the_conditions.ensures c.args.text c.in_ok-extended.extended (text_spelled c.args.text c.in_ok-words.words c.in_ok-extended.extended c.in_ok-words.ensures.words c.in_ok-extended.ensures.device)
