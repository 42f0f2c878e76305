use Rattle.text_command.proofs.ExtendedFound.{extended_found}
use Rattle.text_command.proofs.extended.canonical_text.canonical_extended.Goals as goal

pub returns-clause-found : goal.returns-clause-found
returns-clause-found c =
    extended_found c.args.text c.in_ok-print_extended.field-0 c.in_ok-extended.extended c.in_ok-extended.ensures.read c.in_ok-print_extended.ensures
