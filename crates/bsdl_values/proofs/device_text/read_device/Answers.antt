use Rattle.bsdl_values.proofs.Texts.{read_as, text_spelled}
use Rattle.bsdl_values.proofs.device_text.read_device.Goals as goal

pub returns-clause-read : goal.returns-clause-read
returns-clause-read c =
    let here = text_spelled c.args.text c.in_ok-words.words c.in_ok-device.device c.in_ok-words.ensures.words c.in_ok-device.ensures.device in
    read_as (record { file = c.spells_one_file.ensures; contents = c.strings_hold_one_contents.ensures }) c.texts_are_one_list_of_words.ensures c.args.text c.in_ok-device.device here (c.canonical_reads_back.ensures c.args.text c.in_ok-device.device here)

pub returns-clause-keeps : goal.returns-clause-keeps
returns-clause-keeps c =
    c.spelled_devices_keep_the_conditions.ensures c.args.text c.in_ok-device.device (text_spelled c.args.text c.in_ok-words.words c.in_ok-device.device c.in_ok-words.ensures.words c.in_ok-device.ensures.device)
