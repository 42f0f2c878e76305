use Rattle.std.proofs.Common.{◌∙◌, not, ap, sym}
use Rattle.std.specs.List.{list_any}
use Rattle.list_laws.proofs.Tests.{not_true}
use Rattle.bsdl_lexicon.specs.Names.{is_same_name}
use Rattle.bsdl_lexicon.specs.NameKeys.{names_in}
use Rattle.pin_plan.proofs.Barred.{list_any-keys, new_key}
use Rattle.pin_plan.proofs.names.note.Goals as goal

pub returns-clause-fresh : goal.returns-clause-fresh
returns-clause-fresh c = c.in_ok-insert.ensures.added ∙ ap not (list_any-keys c.args.name.now c.args.before.now.keys)

pub returns-clause-added : goal.returns-clause-added
returns-clause-added c = λ fresh.
    new_key c.args.before.now.keys c.insert.new.self.keys (record { 0 = c.args.name })
    (not_true (list_any (is_same_name c.args.name.now) (names_in c.args.before.now.keys)) (sym (returns-clause-fresh c) ∙ fresh)) c.in_ok-insert.ensures.keys
