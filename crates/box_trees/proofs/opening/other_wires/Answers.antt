use Rattle.std.proofs.Common.{◌∙◌, ℕ, List, Bool, not, ap, filter, rules}
use Rattle.std.proofs.lemmas.Fn.{filter_same}
use Rattle.texts.specs.Repeated.{has_name}
use Rattle.verilog_tree.specs.declared.tree.Wire.{Wire}
use Rattle.box_trees.proofs.opening.other_wires.Goals as goal

pub returns : goal.returns
returns c =
    let test : Wire → Bool = λ wire. not (has_name c.in_ok-names.names wire.name) in
    c.from.ensures ∙ filter_same _ test _ (λ x b f' r. search rules) _ _ c.retain.ensures.filtered ∙ ap (filter test) c.into_vec-wires.ensures
    ∙ ap (λ (names : List (List ℕ)). filter (λ (wire : Wire). not (has_name names wire.name)) c.args.wires) c.in_ok-names.ensures
