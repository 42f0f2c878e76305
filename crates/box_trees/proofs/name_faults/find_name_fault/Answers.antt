use Rattle.std.proofs.Common.{◌∙◌, [], List, map, ap}
use Rattle.box_model.specs.Faults.{name_fault}
use Rattle.box_trees.specs.declared.hidden_names.HiddenName.{HiddenName}
use Rattle.box_trees.specs.HiddenNames.{clashes_among, told}
use Rattle.box_trees.proofs.Taken.{first_taken}
use Rattle.box_trees.proofs.name_faults.find_name_fault.Goals as goal

pub returns : goal.returns
returns c =
    let used = c.in_ok-used.used in
    let clashing = c.in_ok-clashing.clashing in
    let ports = c.as_slice-2.result.now in
    c.in_ok-fault.ensures
    ∙ ap (λ (l : List HiddenName). name_fault used [] (map (told clashing) l)) c.as_slice-3.ensures
    ∙ first_taken c.args.table.now c.args.tree.now used clashing c.in_ok-hidden.hidden ports c.in_ok-used.ensures c.in_ok-hidden.ensures c.as_slice-2.ensures
    (λ name. c.in_ok-clashing.ensures name ∙ ap (λ (l : List HiddenName). clashes_among l ports name) (c.in_ok-places.ensures ∙ c.as_slice.ensures))
