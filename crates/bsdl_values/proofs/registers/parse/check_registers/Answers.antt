use Rattle.std.proofs.Common.{sym, ◌∙◌}
use Rattle.bsdl_values.proofs.RegistersFaults.{registers_refused}
use Rattle.bsdl_values.proofs.registers.parse.check_registers.Goals as goal

pub returns-then-fails-clause-fault : goal.returns-then-fails-clause-fault
returns-then-fails-clause-fault c =
    (c.access_word-word.result, registers_refused (record { file = c.spells_one_file.ensures; contents = c.strings_hold_one_contents.ensures }) c.args.words.now c.args.parts.now c.args.found.now c.access_word-word.result c.place_of.result c.requires.parted c.requires.found c.requires.kept (sym c.registers_break_rules-fails.ensures ∙ c.if-fails.true) c.access_word-word.ensures c.place_of.ensures)
