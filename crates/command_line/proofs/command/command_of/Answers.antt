use Rattle.std.proofs.Common.{List, ℕ, sym, subst}
use Rattle.std.specs.Bool.{IsFalse}
use Rattle.std.specs.List.{list_any}
use Rattle.command_line.specs.Forms as forms
use Rattle.command_line.specs.Parsed.{IsPlainOf}
use Rattle.command_line.proofs.FormLaws.{plain_form}
use Rattle.command_line.proofs.command.command_of.Goals as goal

pub returns : goal.returns
returns c =
    plain_form c.args.words.now c.plain_command.result
    (subst (λ (ws : List (List ℕ)). IsFalse (list_any forms.begins_with_dash ws)) c.as_slice-words.ensures (rw (sym c.has_option.ensures) c.if-has_option.false))
    (subst (λ (ws : List (List ℕ)). IsPlainOf ws c.plain_command.result) c.as_slice-words.ensures c.plain_command.ensures)
