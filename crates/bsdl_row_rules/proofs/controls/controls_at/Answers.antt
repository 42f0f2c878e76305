use Rattle.std.proofs.Common.{nat_eq, ap, ◌∙◌}
use Rattle.std.specs.List.{list_any}
use Rattle.bsdl_row_rules.proofs.ControlSets.{named_by, present_by}
use Rattle.bsdl_row_rules.proofs.controls.controls_at.Goals as goal

pub returns-clause-known : goal.returns-clause-known
returns-clause-known c = record {
  named = λ n. c.in_ok-named.ensures n ∙ ap (list_any (nat_eq n)) c.requires.names ∙ named_by n c.args.rows.now;
  present = λ n. c.in_ok-present.ensures n ∙ ap (list_any (nat_eq n)) c.requires.numbers ∙ present_by n c.args.rows.now;
}
