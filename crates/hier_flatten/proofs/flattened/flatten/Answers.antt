use Rattle.std.proofs.Common.{◌∙◌, sym}
use Rattle.std.proofs.lemmas.Result.{IfOk-weaker, IfErr-weaker}
use Rattle.list_laws.proofs.Options.{err_is}
use Rattle.hier_model.specs.declared.fault.HierFault.TheVariants as fault
use Rattle.hier_flatten.specs.Flattened.{IsFlat, IsFlatOf, IsHierFault, IsLateFault}
use Rattle.hier_flatten.proofs.Told.{early_told, late_told, flat_told, top_listed, levels_told}
use Rattle.hier_flatten.proofs.flattened.flatten.Goals as goal

-- want of memory
pub returns-in_err-cells-clause-fault : goal.returns-in_err-cells-clause-fault
returns-in_err-cells-clause-fault c = err_is c.from_residual.result fault.OutOfMemory (IsHierFault c.args.library.now c.args.hier.now.modules c.args.top.now) c.from_residual.ensures.1 IsHierFault.memory

pub returns-in_err-table-clause-fault : goal.returns-in_err-table-clause-fault
returns-in_err-table-clause-fault c = err_is c.from_residual-in_err-table.result fault.OutOfMemory (IsHierFault c.args.library.now c.args.hier.now.modules c.args.top.now) c.from_residual-in_err-table.ensures.1 IsHierFault.memory

pub returns-in_err-fault-clause-fault : goal.returns-in_err-fault-clause-fault
returns-in_err-fault-clause-fault c = err_is c.from_residual-in_err-fault.result fault.OutOfMemory (IsHierFault c.args.library.now c.args.hier.now.modules c.args.top.now) c.from_residual-in_err-fault.ensures.1 IsHierFault.memory

pub returns-in-Some-clause-fault : goal.returns-in-Some-clause-fault
returns-in-Some-clause-fault c =
    early_told c.args.library.now c.args.hier.now.modules c.args.top.now c.in_ok-cells.cells c.in_ok-table.table c.in_ok-fault.field-0 c.in-Some.fault
    (record { cells_are = c.in_ok-cells.ensures; table_is = c.in_ok-table.ensures ∙ c.as_slice.ensures; told_is = c.in_ok-fault.ensures })
    c.in-Some.is

pub flatten_counted-requires-clause-listed : goal.flatten_counted-requires-clause-listed
flatten_counted-requires-clause-listed c = top_listed c.in_ok-table.table c.args.top.now c.in-Some-find.module.now (sym c.in-Some-find.ensures)

pub flatten_counted-requires-clause-levels : goal.flatten_counted-requires-clause-levels
flatten_counted-requires-clause-levels c =
    levels_told c.args.library.now c.args.hier.now.modules c.args.top.now c.in_ok-cells.cells c.in_ok-table.table c.in_ok-fault.field-0 c.in-Some-find.module.now
    (record { cells_are = c.in_ok-cells.ensures; table_is = c.in_ok-table.ensures ∙ c.as_slice.ensures; told_is = c.in_ok-fault.ensures })
    c.in-None.is (sym c.in-Some-find.ensures)

pub returns-clause-ok : goal.returns-clause-ok
returns-clause-ok c =
    IfOk-weaker c.flatten_counted.result (IsFlatOf c.in_ok-table.table c.in-Some-find.module.now) (IsFlat c.args.library.now c.args.hier.now.modules c.args.top.now)
    (λ made is. flat_told c.args.library.now c.args.hier.now.modules c.args.top.now c.in_ok-cells.cells c.in_ok-table.table c.in_ok-fault.field-0 c.in-Some-find.module.now made
    (record { cells_are = c.in_ok-cells.ensures; table_is = c.in_ok-table.ensures ∙ c.as_slice.ensures; told_is = c.in_ok-fault.ensures })
    c.in-None.is (sym c.in-Some-find.ensures) is) c.flatten_counted.ensures.ok

pub returns-clause-fault : goal.returns-clause-fault
returns-clause-fault c =
    IfErr-weaker c.flatten_counted.result (IsLateFault c.in_ok-table.table c.in-Some-find.module.now) (IsHierFault c.args.library.now c.args.hier.now.modules c.args.top.now)
    (λ f is. late_told c.args.library.now c.args.hier.now.modules c.args.top.now c.in_ok-cells.cells c.in_ok-table.table c.in_ok-fault.field-0 c.in-Some-find.module.now f
    (record { cells_are = c.in_ok-cells.ensures; table_is = c.in_ok-table.ensures ∙ c.as_slice.ensures; told_is = c.in_ok-fault.ensures })
    c.in-None.is (sym c.in-Some-find.ensures) is) c.flatten_counted.ensures.fault
