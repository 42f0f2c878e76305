use Rattle.std.proofs.Common.{◌++◌, ℕ, List, true, false, filter, ap, sym, ◌∙◌}
use Rattle.std.proofs.lemmas.List.{map-append}
use Rattle.texts.specs.Repeated.{texts}
use Rattle.box_model.specs.declared.boxes.BoxPort.{BoxPort}
use Rattle.box_tables.specs.CutPorts.{is_of, box_port_names}
use Rattle.box_tables.proofs.port_table.names_of.Goals as goal

pub returns : goal.returns
returns c =
    let narrow = filter (is_of true) c.args.from.now in
    let wide = filter (is_of false) c.args.from.now in
    c.in_ok-add_names-2.ensures
    ∙ ap (λ (l : List (List ℕ)). l ++ box_port_names wide) (c.in_ok-add_names.ensures ∙ ap (λ (l : List (List ℕ)). l ++ box_port_names narrow) (ap texts c.new-names.ensures.items))
    ∙ sym (map-append (λ (p : BoxPort). p.name) narrow wide)
