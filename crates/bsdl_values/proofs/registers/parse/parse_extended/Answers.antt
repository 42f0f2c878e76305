use Rattle.bsdl_values.proofs.RegistersFaults.{only_one}
use Rattle.bsdl_values.proofs.registers.parse.parse_extended.Goals as goal

pub returns-clause-only : goal.returns-clause-only
returns-clause-only c = only_one (record { file = c.spells_one_file.ensures; contents = c.strings_hold_one_contents.ensures }) c.args.words.now.list c.in_ok-parts.parts c.in_ok-parts.ensures.parted c.described.result c.described.ensures.spelled
