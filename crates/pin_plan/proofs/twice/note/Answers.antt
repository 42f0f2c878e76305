use Rattle.std.proofs.Common.{◌∙◌, not, ap, sym}
use Rattle.std.specs.List.{list_any}
use Rattle.list_laws.proofs.Tests.{not_true}
use Rattle.pin_plan.proofs.TakenKeys.{same_key, key_told, key_added}
use Rattle.pin_plan.proofs.twice.note.Goals as goal

pub returns-clause-fresh : goal.returns-clause-fresh
returns-clause-fresh c = λ taken is. c.in_ok-insert.ensures.added ∙ ap not (key_told c.args.one c.key.result c.args.before.now.keys taken c.key.ensures is)

pub returns-clause-added : goal.returns-clause-added
returns-clause-added c = λ taken is fresh.
    key_added c.args.one c.key.result c.args.before.now.keys c.insert.new.self.keys taken c.key.ensures is
    (not_true (list_any (same_key c.key.result) c.args.before.now.keys) (sym c.in_ok-insert.ensures.added ∙ fresh)) c.in_ok-insert.ensures.keys
