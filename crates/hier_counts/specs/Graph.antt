-- Own: modules as a graph of places, what a place leads to, and marks on what is reached.
use Rattle.std.specs.Prelude.{◌≡◌, ◌⊎◌, ℕ, zero, suc, ◌<◌, ◌≤◌, Bool, List, [], ◌∷◌, length, map, slice_index_or, Option, None}
use Rattle.std.specs.List.{filter_map}
use Rattle.list_laws.specs.Marks.{Marked}
use Rattle.verilog_tree.specs.declared.tree.Item.{Item}
use Rattle.verilog_tree.specs.declared.tree.Item.TheVariants as item
use Rattle.verilog_tree.specs.declared.tree.Module.{Module}
use Rattle.hier_model.specs.WalkNames.{module_place}

-- where the module stands that an item is an instance of
abbrev pub child_place : List Module → Item → Option ℕ
child_place modules (item.Gate g) = None
child_place modules (item.Instance i) = module_place modules i.cell
child_place modules (item.Assign output input) = None

-- the places of the modules that a module's items are instances of
abbrev pub child_places : List Module → Module → List ℕ
child_places modules m = filter_map (child_place modules) m.items

abbrev pub module_graph : List Module → List (List ℕ)
module_graph modules = map (child_places modules) modules

-- what a place leads to in one step
abbrev pub row : List (List ℕ) → ℕ → List ℕ
row graph v = slice_index_or graph v []

abbrev pub IsIn : ℕ → List ℕ → Type 0
IsIn w [] = ⊥
IsIn w (v ∷ vs) = (v ≡ w) ⊎ IsIn w vs

-- each step leads to a place of the graph
abbrev pub IsClosed : List (List ℕ) → Type 0
IsClosed graph = (v w : ℕ) → IsIn w (row graph v) → w < length graph

-- so many steps lead from one place to another
abbrev pub Path : List (List ℕ) → ℕ → ℕ → ℕ → Type 0
Path graph zero v w = v ≡ w
Path graph (suc steps) v w = (u : ℕ) × Path graph steps v u × IsIn w (row graph u)

-- so many steps at most lead from one of these places to another
pub record Within (graph : List (List ℕ)) (roots : List ℕ) (bound v : ℕ) : Type 0 where
  pub root : ℕ
  pub listed : IsIn root roots
  pub steps : ℕ
  pub few : steps ≤ bound
  pub path : Path graph steps root v

-- what these places lead to is marked, and nothing else
pub record IsReached (graph : List (List ℕ)) (roots : List ℕ) (marks : List Bool) : Type 0 where
  pub sized : length marks ≡ length graph
  pub within : (v : ℕ) → Marked marks v → Within graph roots (length graph) v
  pub all : (root steps v : ℕ) → IsIn root roots → Path graph steps root v → Marked marks v
