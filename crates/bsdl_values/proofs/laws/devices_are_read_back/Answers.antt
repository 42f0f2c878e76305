use Rattle.bsdl_device.specs.Canonical.{canonical_device}
use Rattle.bsdl_values.proofs.Texts.{read_as}
use Rattle.bsdl_values.proofs.laws.devices_are_read_back.Goals as goal

pub returns : goal.returns
returns c = λ d is.
    let text = c.canonical_texts_spell_their_devices.ensures d is in
    read_as (record { file = c.spells_one_file.ensures; contents = c.strings_hold_one_contents.ensures }) c.texts_are_one_list_of_words.ensures (canonical_device d) d text text
