-- What holds of the ports of each cell that has a name.
use Rattle.std.specs.Prelude.{◌≡◌, ℕ, false, List, [], ◌∷◌, length, slice_get, Some, ⊤}
use Rattle.std.specs.List.{AllByRecursion}
use Rattle.std.specs.Str.{bytes_eq}
use Rattle.cell_library.specs.declared.Kind.{Kind}
use Rattle.cell_library.specs.declared.listed.ListedCell.{ListedCell}
use Rattle.cell_library.specs.declared.PortPlace.TheVariants.{Output, Input}
use Rattle.cell_library.specs.Gates.{operand_count_of}
use Rattle.cell_library.specs.Library.{operand_ports, output_port, port_named}

-- own: the name is none of these
abbrev pub IsNoneOf : List ℕ → List (List ℕ) → Type 0
IsNoneOf name names = AllByRecursion (λ other. bytes_eq name other ≡ false) names

-- own: no name stands twice
abbrev pub AreApart : List (List ℕ) → Type 0
AreApart [] = ⊤
AreApart (name ∷ names) = IsNoneOf name names × AreApart names

-- own: a cell of this kind has an output's port and a port for each operand; no two are the same, and each is
-- found at its place
pub record HasPorts (library : List ListedCell) (kind : Kind) : Type 0 where
  pub output : List ℕ
  pub output_is : output_port library kind ≡ Some output
  pub once : AreApart (operand_ports library kind)
  pub no_output : IsNoneOf output (operand_ports library kind)
  pub output_found : port_named library kind output ≡ Some Output
  pub operand_found : (place : ℕ) (port : List ℕ) → slice_get (operand_ports library kind) place ≡ Some port → port_named library kind port ≡ Some (Input place)
  pub count : operand_count_of library kind ≡ Some (length (operand_ports library kind))
