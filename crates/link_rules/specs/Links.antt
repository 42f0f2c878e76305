-- The clock, clear and preset links of an item, read off its cell.
use Rattle.std.specs.Prelude.{ℕ, ◌==◌, ◌||◌, Bool, false, List, slice_get, slice_index_or, Option, Some, None, if◌then◌else◌, option_and_then}
use Rattle.std.specs.Option.{option_map}
use Rattle.cell_library.specs.declared.listed.ListedCell.{ListedCell}
use Rattle.cell_library.specs.Gates.{is_flop}
use Rattle.cell_library.specs.Library.{port_named}
use Rattle.cell_library.specs.declared.PortPlace.{PortPlace}
use Rattle.cell_library.specs.declared.PortPlace.TheVariants as place
use Rattle.netlist_model.specs.declared.Feed.{Feed}
use Rattle.netlist_model.specs.declared.Feed.TheVariants.{Net, Const}
use Rattle.netlist_model.specs.Lists.{CellView}
use Rattle.verilog_tree.specs.declared.tree.Link.{Link}
use Rattle.verilog_tree.specs.declared.tree.Item.{Item}
use Rattle.verilog_tree.specs.declared.tree.Item.TheVariants as item
use Rattle.link_model.specs.Lists.{first_in}
use Rattle.link_model.specs.Nets.{Declared}
use Rattle.link_model.specs.Cells.{NamedCell, cell_of}

-- own: a cell of a netlist as one of a module, without its name
abbrev pub unnamed_cell : List ListedCell → CellView → NamedCell
unnamed_cell library cell = record { kind = cell.kind; keeps = is_flop library cell.kind; name = None; feeds = cell.feeds; output = cell.output }

abbrev pub feed_net : Feed → Option ℕ
feed_net (Net net) = Some net.0
feed_net (Const value) = None

-- own: the net at a place of the operands
abbrev pub operand_net : List Feed → ℕ → Option ℕ
operand_net feeds place = option_and_then feed_net (slice_get feeds place)

abbrev pub placed_net : List Feed → Option PortPlace → Option ℕ
placed_net feeds None = None
placed_net feeds (Some place.Output) = None
placed_net feeds (Some (place.Input number)) = if number == 1 || number == 2 then operand_net feeds number else None

-- own: the net of a link, if that is of a flip-flop's clock, clear or preset
abbrev pub control_net : List ListedCell → NamedCell → Link → Option ℕ
control_net library cell link = if cell.keeps then placed_net cell.feeds (port_named library cell.kind link.port) else None

-- own: the net is marked
abbrev pub is_found_net : List Bool → ℕ → Bool
is_found_net marks net = slice_index_or marks net false

abbrev pub found_net : List Bool → ℕ → Option ℕ
found_net marks net = if is_found_net marks net then Some net else None

abbrev pub found_link : List ListedCell → List Bool → NamedCell → Link → Option ℕ
found_link library marks cell link = option_and_then (found_net marks) (control_net library cell link)

-- own: the name of an item with the net of its first link that is found
abbrev pub found_item : List ListedCell → List Bool → List (List ℕ × Declared) → Item → Option (List ℕ × ℕ)
found_item library marks names (item.Gate g) = None
found_item library marks names (item.Instance i) = option_map (λ net. (i.name, net)) (first_in (found_link library marks (cell_of library names (item.Instance i))) i.links)
found_item library marks names (item.Assign output input) = None
