use Rattle.std.proofs.Common.{List, ℕ, is_some, ◌∙◌, ap}
use Rattle.texts.specs.Repeated.{has_name}
use Rattle.box_model.specs.declared.boxes.BoxLibrary.{BoxLibrary}
use Rattle.box_model.specs.Ports.{box_named}
use Rattle.box_tables.proofs.CutPorts.{box_there}
use Rattle.box_tables.proofs.table.BoxTable.is_box.Goals as goal

pub returns : goal.returns
returns c =
    c.has.ensures ∙ ap (λ (l : List (List ℕ)). has_name l c.args.cell.now) c.self.invariant.boxes_are
    ∙ box_there c.self.inside.library.now c.args.cell.now
    ∙ ap (λ (b : BoxLibrary). is_some (box_named b c.args.cell.now)) c.self.view_is
