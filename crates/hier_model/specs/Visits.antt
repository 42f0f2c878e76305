-- The hierarchy of a module in flat order, as a recursion over it.
-- IEEE Std 1364-2001: module instances, hierarchical names; the flat order is own.
use Rattle.std.specs.Prelude.{ℕ, zero, suc, List, [], ◌∷◌, ◌++◌, find, Option, None, Bool, true, false}
use Rattle.std.specs.List.{flat_map, list_all}
use Rattle.std.specs.Option.{option_map, option_map_or}
use Rattle.std.specs.Str.{bytes_eq}
use Rattle.verilog_tree.specs.declared.tree.Instance.{Instance}
use Rattle.verilog_tree.specs.declared.tree.Item.{Item}
use Rattle.verilog_tree.specs.declared.tree.Item.TheVariants as item
use Rattle.verilog_tree.specs.declared.tree.Module.{Module}

-- the module of a name
abbrev pub module_named : List Module → List ℕ → Option Module
module_named modules name = find (λ (m : Module). bytes_eq name m.name) modules

-- an instance of a module, with the module
abbrev pub opened_by : List Module → Item → Option (Instance × Module)
opened_by modules (item.Gate g) = None
opened_by modules (item.Instance i) = option_map (λ child. (i, child)) (module_named modules i.cell)
opened_by modules (item.Assign output input) = None

-- own: an item that stays; an instance of a module before the module's items, and after them
pub data Turn : Type 0 where
  keeps : Item → Turn
  opens : Instance → Module → Turn
  closes : Instance → Module → Turn

-- an occurrence is the names of instances down to a module; at one of this module something comes next
pub record Visit : Type 0 where
  pub at : List (List ℕ)
  pub within : Module
  pub turn : Turn

abbrev pub visit : List (List ℕ) → Module → Turn → Visit
visit at within turn = record { at = at; within = within; turn = turn }

-- what stands for an item, where this stands for a module at an occurrence
abbrev pub item_visits : (List (List ℕ) → Module → List Visit) → List Module → List (List ℕ) → Module → Item → List Visit
item_visits below modules at m i =
    option_map_or (λ o. visit at m (opens o.0 o.1) ∷ (below (at ++ o.0.name ∷ []) o.1 ++ visit at m (closes o.0 o.1) ∷ [])) (opened_by modules i) (visit at m (keeps i) ∷ [])

-- Depth first, in the order of items, through so many levels.
abbrev pub visits : ℕ → List Module → List (List ℕ) → Module → List Visit
visits zero modules at m = []
visits (suc levels) modules at m = flat_map (item_visits (λ a c. visits levels modules a c) modules at m) m.items

-- the item is no instance of a module, or the module passes the test
abbrev pub item_passes : (Module → Bool) → List Module → Item → Bool
item_passes test modules i = option_map_or (λ o. test o.1) (opened_by modules i) true

-- the hierarchy of the module has so many levels at most
abbrev pub has_levels : ℕ → List Module → Module → Bool
has_levels zero modules m = false
has_levels (suc levels) modules m = list_all (item_passes (λ c. has_levels levels modules c) modules) m.items
