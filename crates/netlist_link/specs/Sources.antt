-- Where what is read may come from.
use Rattle.std.specs.Prelude.{◌≡◌, ℕ, Some, List, IsTrue}
use Rattle.std.specs.List.{list_all}
use Rattle.netlist_model.specs.declared.Dir.TheVariants.{Input}
use Rattle.netlist_model.specs.declared.Feed.{Feed}
use Rattle.netlist_model.specs.Lists.{CellView, NetlistView, direction}
use Rattle.netlist_model.specs.Formed.{IsWellFormed}
use Rattle.gate_parts.specs.declared.Gate.{Gate}
use Rattle.gate_parts.specs.Parts.{part_cells}
use Rattle.netlist_link.specs.Grown.{IsOneOf}
use Rattle.netlist_link.specs.DraftLawsNames.{IsNamedCell}
use Rattle.netlist_link.specs.Readable.{CanBeRead, IsPure}
use Rattle.netlist_link.specs.DraftLawsTables.{is_plain}

-- own: the net of an input bit can be read and is pure
abbrev pub InputIsPure : Type 0
InputIsPure = (N : NetlistView) (net : ℕ) → IsWellFormed N → direction N.ports net ≡ Some Input → CanBeRead N net × IsPure N net

-- own: the cells of a table of plain gates are named
abbrev pub PartIsNamed : Type 0
PartIsNamed = (gates : List Gate) (given : List Feed) (first number : ℕ) → IsTrue (list_all (λ (gate : Gate). is_plain gate.kind) gates)
    → (cell : CellView) → IsOneOf (part_cells gates given first number) cell → IsNamedCell cell
