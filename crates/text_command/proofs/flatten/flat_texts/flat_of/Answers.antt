use Rattle.std.proofs.Common.{ℕ, List, subst}
use Rattle.hier_flatten.specs.Flattened.{IsFlat}
use Rattle.text_command.proofs.Made.{flat_made}
use Rattle.text_command.proofs.flatten.flat_texts.flat_of.Goals as goal

pub returns-clause-found : goal.returns-clause-found
returns-clause-found c =
    flat_made c.flat_modules_keep_the_conditions.ensures c.args.library.now c.args.top.now c.args.text c.in_ok-hier.hier.modules c.in_ok-flatten.field-0 c.in_ok-hier.ensures.modules
    (subst (λ (name : List ℕ). IsFlat c.args.library.now c.in_ok-hier.hier.modules name c.in_ok-flatten.field-0) c.as_bytes.ensures.value c.in_ok-flatten.ensures.ok)
