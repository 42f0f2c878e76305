use Rattle.std.proofs.Common.{◌∙◌, not, ap, sym}
use Rattle.std.specs.List.{list_any}
use Rattle.list_laws.proofs.Tests.{not_true}
use Rattle.status_fitting.proofs.TableKeys.{same_given_key, any_given, given_added}
use Rattle.status_fitting.proofs.names.note.Goals as goal

pub returns-clause-fresh : goal.returns-clause-fresh
returns-clause-fresh c = c.in_ok-insert.ensures.added ∙ ap not (any_given c.args.given c.args.before.now.keys)

pub returns-clause-added : goal.returns-clause-added
returns-clause-added c = λ fresh.
    given_added c.args.given c.args.before.now.keys c.insert.new.self.keys
    (not_true (list_any (same_given_key c.args.given) c.args.before.now.keys) (sym c.in_ok-insert.ensures.added ∙ fresh)) c.in_ok-insert.ensures.keys
