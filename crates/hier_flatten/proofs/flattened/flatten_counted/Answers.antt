use Rattle.list_laws.proofs.Options.{err_is}
use Rattle.hier_model.specs.declared.fault.HierFault.TheVariants as fault
use Rattle.hier_flatten.specs.Flattened.{IsLateFault}
use Rattle.hier_flatten.proofs.Told.{late_of_told}
use Rattle.hier_flatten.proofs.flattened.flatten_counted.Goals as goal

pub find_late_fault-requires-clause-listed : goal.find_late_fault-requires-clause-listed
find_late_fault-requires-clause-listed c = rw c.in_ok-tables.ensures c.requires.listed

pub find_late_fault-requires-clause-levels : goal.find_late_fault-requires-clause-levels
find_late_fault-requires-clause-levels c = rw c.in_ok-tables.ensures c.requires.levels

pub flat_module-requires-clause-listed : goal.flat_module-requires-clause-listed
flat_module-requires-clause-listed c = rw c.in_ok-tables.ensures c.requires.listed

pub flat_module-requires-clause-levels : goal.flat_module-requires-clause-levels
flat_module-requires-clause-levels c = rw c.in_ok-tables.ensures c.requires.levels

-- want of memory
pub returns-in_err-tables-clause-fault : goal.returns-in_err-tables-clause-fault
returns-in_err-tables-clause-fault c = err_is c.from_residual.result fault.OutOfMemory (IsLateFault c.args.table.now c.args.top.now) c.from_residual.ensures.1 IsLateFault.memory

pub returns-in_err-fault-clause-fault : goal.returns-in_err-fault-clause-fault
returns-in_err-fault-clause-fault c = err_is c.from_residual-in_err-fault.result fault.OutOfMemory (IsLateFault c.args.table.now c.args.top.now) c.from_residual-in_err-fault.ensures.1 IsLateFault.memory

pub returns-in_err-has_few_operands-clause-fault : goal.returns-in_err-has_few_operands-clause-fault
returns-in_err-has_few_operands-clause-fault c = err_is c.from_residual-in_err-has_few_operands.result fault.OutOfMemory (IsLateFault c.args.table.now c.args.top.now) c.from_residual-in_err-has_few_operands.ensures.1 IsLateFault.memory

pub returns-then-not-branch-clause-fault : goal.returns-then-not-branch-clause-fault
returns-then-not-branch-clause-fault c = IsLateFault.memory

pub returns-in_err-flat_module-clause-fault : goal.returns-in_err-flat_module-clause-fault
returns-in_err-flat_module-clause-fault c = err_is c.from_residual-in_err-flat_module.result fault.OutOfMemory (IsLateFault c.args.table.now c.args.top.now) c.from_residual-in_err-flat_module.ensures.1 IsLateFault.memory

pub returns-in-Some-clause-fault : goal.returns-in-Some-clause-fault
returns-in-Some-clause-fault c =
    late_of_told c.in_ok-tables.tables c.args.table.now c.args.top.now c.in_ok-fault.field-0 c.in-Some.fault c.in_ok-tables.ensures c.in_ok-fault.ensures c.in-Some.is
