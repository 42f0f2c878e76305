-- A netlist as contracts see it: its lists of ports, nets and cells, each by rising number, and the ways
-- to look into them.
use Rattle.std.specs.Prelude.{◌≡◌, ◌≢◌, ℕ, ◌==◌, ◌||◌, Bool, false, List, [], ◌∷◌, slice_get, count_by, is_some, Option, Some, None, option_and_then, if◌then◌else◌}
use Rattle.cell_library.specs.declared.Kind.{Kind}
use Rattle.cell_library.specs.declared.listed.ListedCell.{ListedCell}
use Rattle.netlist_model.specs.declared.NetId.{NetId}
use Rattle.netlist_model.specs.declared.Name.{Name}
use Rattle.netlist_model.specs.declared.Feed.{Feed}
use Rattle.netlist_model.specs.declared.Feed.TheVariants.{Net}
use Rattle.netlist_model.specs.declared.Dir.{Dir}
use Rattle.netlist_model.specs.declared.Range.{Range}

-- modules, port declarations: a port with its direction, its range, and one net for each bit from the left
pub record PortView : Type 0 where
  pub name : Name
  pub dir : Dir
  pub range : Option Range
  pub nets : List NetId

-- net declarations: a net with the name of its port or wire, and its index there if that has a range
pub record NetView : Type 0 where
  pub name : Name
  pub index : Option ℕ

-- gate and module instances: a cell with its operands in the order of its kind, and the net that it drives,
-- if it is connected
pub record CellView : Type 0 where
  pub kind : Kind
  pub name : Option Name
  pub feeds : List Feed
  pub output : Option NetId

-- own: a netlist, with the library of its listed cells; a cell that was removed leaves its number empty
pub record NetlistView : Type 0 where
  pub library : List ListedCell
  pub ports : List PortView
  pub nets : List NetView
  pub cells : List (Option CellView)

-- own: what stands at a number of the cells
abbrev pub live_cell : Option (Option CellView) → Option CellView
live_cell None = None
live_cell (Some place) = place

-- own: the live cell with this number
abbrev pub cell_at : NetlistView → ℕ → Option CellView
cell_at N i = live_cell (slice_get N.cells i)

-- own: how many live cells there are
abbrev pub cell_count : NetlistView → ℕ
cell_count N = count_by is_some N.cells

-- own: the net of a bit of a port, counted from the left
abbrev pub bit_net : NetlistView → ℕ → ℕ → Option NetId
bit_net N port bit = option_and_then (λ (p : PortView). slice_get p.nets bit) (slice_get N.ports port)

-- own: the net is one of these
abbrev pub is_among : ℕ → List NetId → Bool
is_among net [] = false
is_among net (n ∷ ns) = n.0 == net || is_among net ns

-- own: the direction of the port bit that has the net; a wire bit has none
abbrev pub direction : List PortView → ℕ → Option Dir
direction [] net = None
direction (p ∷ ps) net = if is_among net p.nets then Some p.dir else direction ps net

-- own: a live cell drives the net
pub record Drives (N : NetlistView) (i : ℕ) (cell : CellView) (net : ℕ) : Type 0 where
  pub live : cell_at N i ≡ Some cell
  pub output : cell.output ≡ Some (record { 0 = net })

-- own: no net has two drivers
abbrev pub IsDrivenOnce : NetlistView → Type 0
IsDrivenOnce N = (i j : ℕ) (cell other : CellView) (net : ℕ) → Drives N i cell net → Drives N j other net → i ≡ j

-- own: no live cell drives the net
abbrev pub IsUndriven : NetlistView → ℕ → Type 0
IsUndriven N net = (i : ℕ) (cell : CellView) → cell_at N i ≡ Some cell → cell.output ≢ Some (record { 0 = net })

-- own: a live cell reads the net as its operand at this place
pub record Reads (N : NetlistView) (i : ℕ) (cell : CellView) (place net : ℕ) : Type 0 where
  pub live : cell_at N i ≡ Some cell
  pub operand : slice_get cell.feeds place ≡ Some (Net (record { 0 = net }))
