-- Flat modules are trees that some text spells.
-- IEEE Std 1364-2001: hierarchical names; the flat module is own.
use Rattle.std.specs.Prelude.{◌≡◌, ℕ, List, Some, None}
use Rattle.std.specs.List.{AllByRecursion}
use Rattle.cell_library.specs.declared.listed.ListedCell.{ListedCell}
use Rattle.verilog_tree.specs.declared.tree.Module.{Module}
use Rattle.verilog_tree.specs.IsTree.{IsTree}
use Rattle.hier_model.specs.Visits.{module_named}
use Rattle.hier_model.specs.Faults.{hier_fault}
use Rattle.hier_model.specs.Flat.{flat}

-- Where the modules keep the conditions of trees, and no fault stands, so does the flat module.
abbrev pub FlatModulesKeepTheConditions : Type 0
FlatModulesKeepTheConditions = (library : List ListedCell) (modules : List Module) (name : List ℕ) (top : Module)
    → AllByRecursion IsTree modules → hier_fault library modules name ≡ None → module_named modules name ≡ Some top → IsTree (flat modules top)
