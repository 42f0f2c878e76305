use Rattle.std.proofs.Common.{ℕ, ◌<◌, ◌^◌, subst}
use Rattle.bsdl_checks.proofs.Ordered.{all_words_are}
use Rattle.bsdl_values.proofs.RegistersFaults.{rule_refused}
use Rattle.bsdl_values.proofs.registers.parse.check_base.Goals as goal

pub first_fault-requires : goal.first_fault-requires
first_fault-requires c = subst (λ (n : ℕ). n < 2 ^ 64) (all_words_are c.args.parts.now.file) c.requires.parted.few

pub returns-in-Some-clause-fault : goal.returns-in-Some-clause-fault
returns-in-Some-clause-fault c =
    (c.in-Some.rule.word, rule_refused (record { file = c.spells_one_file.ensures; contents = c.strings_hold_one_contents.ensures }) c.args.words.now c.args.parts.now c.args.found.now c.in_ok-first_fault.field-0 c.in-Some.rule c.place_of.result c.requires.parted c.requires.found c.in_ok-first_fault.ensures c.in-Some.is c.place_of.ensures)
