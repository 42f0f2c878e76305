-- own: the numbers of a library's cells, under their names.
use Rattle.std.specs.Prelude.{◌≡◌, ◌+◌, ℕ, List, [], ◌∷◌, map}
use Rattle.std.specs.Borrow.{Bor}
use Rattle.indexmap.specs.IndexMap.{IndexMap}
use Rattle.cell_library.specs.declared.listed.ListedCell.{ListedCell}

abbrev pub number_entry : Bor (List ℕ) × ℕ → List ℕ × ℕ
number_entry e = (e.0.now, e.1)

-- the names of a table with their numbers, in the order in which they came
abbrev pub numbers_in : {S : Type 0} → IndexMap (Bor (List ℕ)) ℕ S → List (List ℕ × ℕ)
numbers_in table = map number_entry table.entries

-- the cells' names with their numbers, counted from this one
abbrev pub numbered_from : ℕ → List ListedCell → List (List ℕ × ℕ)
numbered_from number [] = []
numbered_from number (cell ∷ cells) = (cell.name, number) ∷ numbered_from (number + 1) cells

-- the table has each cell's number under its name
abbrev pub HasNumbers : {S : Type 0} → List ListedCell → IndexMap (Bor (List ℕ)) ℕ S → Type 0
HasNumbers library table = numbers_in table ≡ numbered_from 0 library
