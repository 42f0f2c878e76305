use Rattle.std.proofs.Common.{◌∙◌, ap}
use Rattle.std.specs.Prelude.{option_map}
use Rattle.box_model.specs.declared.boxes.BoxCell.{BoxCell}
use Rattle.box_model.specs.declared.boxes.BoxLibrary.{BoxLibrary}
use Rattle.box_model.specs.Ports.{box_named}
use Rattle.box_tables.specs.CutPorts.{cut_in_box}
use Rattle.box_tables.proofs.Places.{found_nowhere, mapped_found}
use Rattle.box_tables.proofs.CutPorts.{box_first}
use Rattle.box_tables.proofs.table.BoxTable.ports_of_box.Goals as goal

pub returns-in-None : goal.returns-in-None
returns-in-None c =
    let library = c.self.inside.library.now in
    ap (option_map cut_in_box) (found_nowhere (λ (b : BoxCell). b.name) library.boxes c.self.inside.boxes c.args.cell.now c.self.invariant.boxes_are c.in-None.ensures ∙ box_first library c.args.cell.now)
    ∙ ap (λ (b : BoxLibrary). option_map cut_in_box (box_named b c.args.cell.now)) c.self.view_is

pub returns-in-Some : goal.returns-in-Some
returns-in-Some c =
    let library = c.self.inside.library.now in
    c.table_at.ensures
    ∙ mapped_found cut_in_box (λ (b : BoxCell). b.name) library.boxes c.as_slice.result.now c.self.inside.boxes c.args.cell.now c.in-Some.place (c.as_slice.ensures ∙ c.self.invariant.box_ports_are) c.self.invariant.boxes_are c.in-Some.ensures
    ∙ ap (option_map cut_in_box) (box_first library c.args.cell.now)
    ∙ ap (λ (b : BoxLibrary). option_map cut_in_box (box_named b c.args.cell.now)) c.self.view_is
