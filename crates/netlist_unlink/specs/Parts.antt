-- The parts of a cell that may be there.
-- own: what stands under a number
use Rattle.std.specs.Prelude.{List, [], Option, Some, None}
use Rattle.netlist_model.specs.declared.Feed.{Feed}
use Rattle.netlist_model.specs.declared.Name.{Name}
use Rattle.netlist_model.specs.declared.NetId.{NetId}
use Rattle.netlist_model.specs.Lists.{CellView}

-- own: the operands
abbrev pub feeds_of : Option CellView → List Feed
feeds_of None = []
feeds_of (Some cell) = cell.feeds

-- own: the net that it drives
abbrev pub output_of : Option CellView → Option NetId
output_of None = None
output_of (Some cell) = cell.output

-- own: its name
abbrev pub name_of : Option CellView → Option Name
name_of None = None
name_of (Some cell) = cell.name
