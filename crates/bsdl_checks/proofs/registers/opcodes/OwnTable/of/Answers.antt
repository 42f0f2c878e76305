use Rattle.std.proofs.Common.{List, position, ◌∙◌, ap}
use Rattle.bsdl_lexicon.specs.Names.{is_same_name}
use Rattle.bsdl_lexicon.specs.declared.name_key.NameKey.{NameKey}
use Rattle.bsdl_checks.proofs.Tables.{finds_names}
use Rattle.bsdl_checks.proofs.registers.opcodes.OwnTable.of.Goals as goal

pub invariant_of-result : goal.invariant_of-result
invariant_of-result c =
    finds_names c.args.entries.now c.in_ok-keys.keys.items c.in_ok-places.places.entries c.in_ok-keys.ensures
    (λ k. c.in_ok-places.ensures k ∙ ap (λ (keys : List NameKey). position (λ (j : NameKey). is_same_name k.0.now j.0.now) keys) c.deref.ensures.value)
