use Rattle.std.proofs.Common.{◌∙◌, ap, sym}
use Rattle.cell_library.specs.Gates.{is_flop}
use Rattle.box_model.specs.declared.boxes.BoxLibrary.{BoxLibrary}
use Rattle.box_tables.specs.CutPorts.{cut_in_kind}
use Rattle.box_tables.proofs.CutPorts.{no_flop}
use Rattle.box_tables.proofs.table.BoxTable.ports_of_kind.Goals as goal

pub output_of-requires : goal.output_of-requires
output_of-requires c = ap (λ (b : BoxLibrary). is_flop b.cells c.args.kind) (sym c.self.view_is) ∙ sym c.is_flop.ensures ∙ c.if-is_flop.true

pub returns-else-is_flop : goal.returns-else-is_flop
returns-else-is_flop c =
    no_flop c.self.inside.library.now c.args.kind (sym c.is_flop.ensures ∙ c.if-is_flop.false)
    ∙ ap (λ (b : BoxLibrary). cut_in_kind b c.args.kind) c.self.view_is
