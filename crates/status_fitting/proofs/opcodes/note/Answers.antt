use Rattle.std.proofs.Common.{◌∙◌, not, ap, sym}
use Rattle.std.specs.List.{list_any}
use Rattle.list_laws.proofs.Tests.{not_true}
use Rattle.status_fitting.specs.declared.keys.PatternKey.{PatternKey}
use Rattle.status_fitting.proofs.TableKeys.{same_pattern_key, any_pattern, pattern_added}
use Rattle.status_fitting.proofs.opcodes.note.Goals as goal

pub returns-clause-fresh : goal.returns-clause-fresh
returns-clause-fresh c =
    let key : PatternKey = record { len = c.args.bits.len; value = c.args.bits.value } in
    c.in_ok-insert.ensures.added ∙ ap not (any_pattern key c.args.before.now.keys)

pub returns-clause-added : goal.returns-clause-added
returns-clause-added c = λ fresh.
    let key : PatternKey = record { len = c.args.bits.len; value = c.args.bits.value } in
    pattern_added key c.args.before.now.keys c.insert.new.self.keys
    (not_true (list_any (same_pattern_key key) c.args.before.now.keys) (sym c.in_ok-insert.ensures.added ∙ fresh)) c.in_ok-insert.ensures.keys
