use Rattle.std.proofs.Common.{◌≡◌, List, Some, true, ◌∙◌, ap}
use Rattle.cell_library.specs.Gates.{is_flop}
use Rattle.box_model.specs.declared.boxes.BoxPort.{BoxPort}
use Rattle.box_model.specs.declared.boxes.BoxLibrary.{BoxLibrary}
use Rattle.box_tables.specs.CutPorts.{cut_in_kind}
use Rattle.box_tables.proofs.CutPorts.{own_flop, listed_flop, other_kind}
use Rattle.box_tables.proofs.table.BoxTable.output_of.Goals as goal

pub returns-in-Flop : goal.returns-in-Flop
returns-in-Flop c =
    ap (λ (l : List BoxPort). Some l) c.self.invariant.own_is
    ∙ own_flop c.self.inside.library.now c.args.kind c.in-Flop._flop c.in-Flop.is
    ∙ ap (λ (b : BoxLibrary). cut_in_kind b c.args.kind) c.self.view_is

pub returns-in-Listed : goal.returns-in-Listed
returns-in-Listed c =
    let flop : is_flop c.self.inside.library.now.cells c.args.kind ≡ true = ap (λ (b : BoxLibrary). is_flop b.cells c.args.kind) c.self.view_is ∙ c.requires in
    c.table_at.ensures
    ∙ listed_flop c.self.inside.library.now c.args.kind c.in-Listed.number c.as_slice.result.now c.in-Listed.is (c.as_slice.ensures ∙ c.self.invariant.outputs_are) flop
    ∙ ap (λ (b : BoxLibrary). cut_in_kind b c.args.kind) c.self.view_is

pub returns-in_default : goal.returns-in_default
returns-in_default c = other_kind c.args.self.now c.args.kind c.in_default.not-Flop c.in_default.not-Listed
