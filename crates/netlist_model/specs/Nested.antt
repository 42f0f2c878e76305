-- A netlist inside another.
-- IEEE Std 1364-2001: hierarchical structures; here a netlist stands in another with its nets and cells
-- under other numbers.
use Rattle.std.specs.Prelude.{◌≡◌, ℕ, false, map, Option, Some}
use Rattle.std.specs.Option.{option_map}
use Rattle.netlist_model.specs.declared.NetId.{NetId}
use Rattle.netlist_model.specs.declared.Name.{Name}
use Rattle.netlist_model.specs.declared.Feed.{Feed}
use Rattle.netlist_model.specs.declared.Feed.TheVariants.{Net, Const}
use Rattle.netlist_model.specs.Lists.{CellView, NetlistView, cell_at, direction, IsUndriven}
use Rattle.netlist_model.specs.Settled.{follows_pin}

-- own: a net by its other number
abbrev pub renamed_net : (ℕ → ℕ) → NetId → NetId
renamed_net to net = record { 0 = to net.0 }

-- own: an operand by the other number of its net
abbrev pub renamed_feed : (ℕ → ℕ) → Feed → Feed
renamed_feed to (Net net) = Net (renamed_net to net)
renamed_feed to (Const b) = Const b

-- own: the cell by other nets, under any name
abbrev pub renamed_cell : (ℕ → ℕ) → Option Name → CellView → CellView
renamed_cell to name cell = record {
  kind = cell.kind;
  name = name;
  feeds = map (renamed_feed to) cell.feeds;
  output = option_map (renamed_net to) cell.output;
}

-- own: the cell stands under this number, by other nets
pub record IsNested (M : NetlistView) (to : ℕ → ℕ) (number : ℕ) (cell : CellView) : Type 0 where
  pub name : Option Name
  pub live : cell_at M number ≡ Some (renamed_cell to name cell)

-- own: each cell of N stands in M, by other nets, which follow no pin where those of N don't
pub record Nested (N M : NetlistView) (to at : ℕ → ℕ) : Type 0 where
  pub library : M.library ≡ N.library
  pub cells : (i : ℕ) (cell : CellView) → cell_at N i ≡ Some cell → IsNested M to (at i) cell
  pub inside : (net : ℕ) → follows_pin (direction N.ports net) ≡ false → follows_pin (direction M.ports (to net)) ≡ false
  pub undriven : (net : ℕ) → follows_pin (direction N.ports net) ≡ false → IsUndriven N net → IsUndriven M (to net)
