use Rattle.std.proofs.Common.{◌∙◌, ◌++◌, ◌∷◌, [], ℕ, List, ap, arith}
use Rattle.list_laws.proofs.Lists.{front_all}
use Rattle.texts.specs.Repeated.{texts}
use Rattle.cell_library.specs.declared.listed.ListedCell.{ListedCell}
use Rattle.box_tables.specs.CutPorts.{cell_names}
use Rattle.box_tables.proofs.Steps.{mapped_more}
use Rattle.box_tables.proofs.table.names_of_cells.Goals as goal

pub loop-number-preserved : goal.loop-number-preserved
loop-number-preserved c =
    mapped_more (λ (x : ListedCell). x.name) c.args.cells.now c.loop-number.number c.cell.result.now (texts c.loop-number.names.items) (texts c.add_name.new.names.items) c.cell.ensures c.loop-number.invariant
    (c.in_ok-add_name.ensures ∙ ap (λ (x : List ℕ). texts c.loop-number.names.items ++ x ∷ []) c.as_bytes.ensures)

pub returns : goal.returns
returns c = c.loop-number.invariant ∙ ap cell_names (front_all c.args.cells.now c.loop-number.number (omega arith))
