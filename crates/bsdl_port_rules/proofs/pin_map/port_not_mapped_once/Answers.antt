use Rattle.std.proofs.Common.{List, count_by, ◌∙◌, ap}
use Rattle.bsdl_lexicon.specs.Names.{is_same_name}
use Rattle.bsdl_lexicon.specs.declared.name_key.NameKey.{NameKey}
use Rattle.bsdl_port_rules.specs.Keys.{uses_for}
use Rattle.bsdl_port_rules.proofs.Tables.{all_mapped_once}
use Rattle.bsdl_port_rules.proofs.pin_map.port_not_mapped_once.Goals as goal

pub returns : goal.returns
returns c =
    c.some_not_once.ensures
    ∙ all_mapped_once c.args.entries.now c.in_ok-keys.keys.items c.in_ok-mapped.mapped.entries c.in_ok-keys.ensures
    (λ k. c.in_ok-mapped.ensures k ∙ ap (λ (keys : List NameKey). uses_for (count_by (λ (j : NameKey). is_same_name k.0.now j.0.now) keys)) c.deref.ensures.value)
    c.args.ports.now
