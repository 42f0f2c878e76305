use Rattle.bsdl_values.proofs.Faults.{only_one}
use Rattle.bsdl_values.proofs.parse.parse_device.Goals as goal

pub returns-clause-only : goal.returns-clause-only
returns-clause-only c = only_one (record { file = c.spells_one_file.ensures; contents = c.strings_hold_one_contents.ensures }) c.args.words.now.list c.described.result c.described.ensures.spelled
