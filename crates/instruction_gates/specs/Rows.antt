-- Parts in a row, one for each bit of an opcode. In a list place 0 is nearest TDO.
-- Own: a row is laid from TDI to TDO, as a shift stage is.
use Rattle.std.specs.Prelude.{ℕ, ◌+◌, ◌*◌, Bool, false, List, [], ◌∷◌, ◌++◌, length, map}
use Rattle.signal_values.specs.declared.Sig.{Sig}
use Rattle.signal_values.specs.Values.{bit}
use Rattle.netlist_model.specs.declared.Feed.{Feed}
use Rattle.netlist_model.specs.declared.Feed.TheVariants.{Net, Const}
use Rattle.netlist_model.specs.Lists.{CellView}

-- own: the constant is 1
abbrev pub is_one : Feed → Bool
is_one (Const b) = b
is_one (Net net) = false

-- own: the bits of constants
abbrev pub bits_in : List Feed → List Sig
bits_in constants = map (λ c. bit (is_one c)) constants

-- own: the cells of a row, each part by how many stand behind it
abbrev pub row_cells : (ℕ → Feed → List CellView) → List Feed → List CellView
row_cells part [] = []
row_cells part (item ∷ rest) = row_cells part rest ++ part (length rest) item

-- own: where each part takes so many nets and cells, by its first net and the number of its first cell
abbrev pub placed : (ℕ → ℕ → ℕ → Feed → List CellView) → ℕ → ℕ → ℕ → ℕ → Feed → List CellView
placed part width first number behind item = part behind (first + width * behind) (number + width * behind) item
