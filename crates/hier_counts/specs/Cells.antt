-- Own: the names of a library's cells, and what a table of them finds.
use Rattle.std.specs.Prelude.{◌≡◌, ℕ, List, map, position}
use Rattle.std.specs.Borrow.{Bor}
use Rattle.std.specs.Map.{lookup}
use Rattle.std.specs.Str.{bytes_eq}
use Rattle.cell_library.specs.declared.listed.ListedCell.{ListedCell}

abbrev pub cell_names : List ListedCell → List (List ℕ)
cell_names library = map (λ (cell : ListedCell). cell.name) library

-- the place of the first cell of each name stands under it
pub record FindsCells (library : List ListedCell) (entries : List (Bor (List ℕ) × ℕ)) : Type 0 where
  pub places : (name : List ℕ) → lookup (λ (k : Bor (List ℕ)). bytes_eq name k.now) entries ≡ position (λ (cell : ListedCell). bytes_eq name cell.name) library
