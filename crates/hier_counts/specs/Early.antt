-- Own: the first fault of those that come before links and flat names.
use Rattle.std.specs.Prelude.{ℕ, ◌+◌, nat_lt, not, List, [], Option, Some, None, if◌then◌else◌}
use Rattle.std.specs.Option.{option_map, option_map_or}
use Rattle.texts.specs.First.{or_else}
use Rattle.cell_library.specs.declared.listed.ListedCell.{ListedCell}
use Rattle.verilog_tree.specs.declared.tree.Module.{Module}
use Rattle.hier_model.specs.Visits.{module_named}
use Rattle.hier_model.specs.declared.fault.HierFault.{HierFault}
use Rattle.hier_model.specs.declared.fault.HierFault.TheVariants as fault
use Rattle.hier_model.specs.declared.fault.HierWhat.{HierWhat}
use Rattle.hier_model.specs.declared.fault.HierWhat.TheVariants as what
use Rattle.hier_model.specs.Faults.{twice_name, missing_name, recursive_name, too_many_in, cell_limit, net_limit}
use Rattle.hier_counts.specs.declared.levels.Counts.{Counts}

abbrev pub too_many : HierWhat → ℕ → HierFault
too_many what limit = fault.TooMany what (limit + 1) limit

-- what counts pass their limits
abbrev pub count_fault : Counts → Option HierFault
count_fault counts =
    if not counts.fits then Some (too_many what.Depth 64)
    else if nat_lt cell_limit counts.cells then Some (too_many what.Cells cell_limit)
    else if nat_lt net_limit counts.nets then Some (too_many what.Nets net_limit)
    else None

abbrev pub reached_fault : List ListedCell → List Module → Module → Option HierFault
reached_fault library modules top =
    or_else (option_map fault.ModuleMissing (missing_name library modules top))
    (or_else (option_map fault.ModuleRecursive (recursive_name modules top))
    (too_many_in modules top))

abbrev pub early_fault : List ListedCell → List Module → List ℕ → Option HierFault
early_fault library modules name =
    or_else (option_map fault.ModuleTwice (twice_name library [] modules))
    (option_map_or (reached_fault library modules) (module_named modules name) (Some (fault.ModuleMissing name)))
