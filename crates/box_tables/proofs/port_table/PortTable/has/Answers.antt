use Rattle.std.proofs.Common.{List, ℕ, ◌∙◌, ap}
use Rattle.std.specs.List.{list_any}
use Rattle.std.specs.Str.{bytes_eq}
use Rattle.texts.specs.Repeated.{has_name}
use Rattle.box_model.specs.declared.boxes.BoxPort.{BoxPort}
use Rattle.box_tables.proofs.CutPorts.{port_there}
use Rattle.box_tables.proofs.port_table.PortTable.has.Goals as goal

pub returns : goal.returns
returns c =
    c.has.ensures ∙ ap (λ (l : List (List ℕ)). has_name l c.args.name.now) c.self.invariant
    ∙ port_there c.self.inside.ports c.args.name.now
    ∙ ap (λ (l : List BoxPort). list_any (λ (p : BoxPort). bytes_eq p.name c.args.name.now) l) c.self.view_is
