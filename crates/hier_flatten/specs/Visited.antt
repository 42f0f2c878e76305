-- Own: modules that are the first of their names, and what the rest of a walk makes.
use Rattle.std.specs.Prelude.{◌≡◌, List, Some}
use Rattle.std.specs.List.{AllByRecursion}
use Rattle.verilog_tree.specs.declared.tree.Module.{Module}
use Rattle.hier_model.specs.Visits.{Turn, keeps, opens, closes, Visit, module_named}

abbrev pub IsListed : List Module → Module → Type 0
IsListed modules m = module_named modules m.name ≡ Some m

abbrev pub IsListedTurn : List Module → Turn → Type 0
IsListedTurn modules (keeps i) = Unit {0}
IsListedTurn modules (opens i child) = IsListed modules child
IsListedTurn modules (closes i child) = IsListed modules child

abbrev pub IsListedVisit : List Module → Visit → Type 0
IsListedVisit modules v = IsListed modules v.within × IsListedTurn modules v.turn

abbrev pub AreListed : List Module → List Visit → Type 0
AreListed modules visits = AllByRecursion (IsListedVisit modules) visits
