-- That the gates of the boundary register, as they are written, tell the nets between the core and its cells.
-- IEEE Std 1149.1-2001: boundary-scan register; IEEE Std 1364-2001: gate and module instances; the statement is own.
use Rattle.std.specs.Prelude.{◌≡◌, ℕ, ◌+◌, ◌<◌, ◌≤◌, List, ◌++◌, map, reverse, slice_get, Some, None}
use Rattle.netlist_model.specs.declared.Name.TheVariants.{Added}
use Rattle.netlist_model.specs.declared.NetId.{NetId}
use Rattle.verilog_tree.specs.declared.tree.Item.{Item}
use Rattle.test_logic.specs.declared.ScanNets.{ScanNets}
use Rattle.plan_fitting.specs.declared.fitted.FitRow.{FitRow}
use Rattle.plan_fitting.specs.declared.fitted.Fitted.{Fitted}
use Rattle.plan_fitting.specs.Devices.{cell_row}
use Rattle.netlist_unlink.specs.Trees.{Naming, added, operand_of, items_from}
use Rattle.stitched_netlist.specs.Sites.{Boundary, sides_of}
use Rattle.stitched_netlist.specs.ModelRows.{rows_cells}
use Rattle.strip_model.specs.declared.Side.{Side}
use Rattle.strip_model.specs.Sides.{sides_in}
use Rattle.strip_model.specs.Pairs.{Pair, pairs_from}

-- own: a pair as it is written
abbrev pub written_side : Naming → Pair → Side
written_side naming pair = record { net = added naming.prefix 110 pair.net; core = operand_of naming pair.core }

-- own: these nets were added, by so many from this one on
abbrev pub AreAdded : Naming → ℕ → ℕ → Type 0
AreAdded naming first count = (net : ℕ) → first ≤ net → net < first + count → slice_get naming.nets net ≡ Some (record { name = Added net; index = None })

-- own: the gates of these rows, written from this number on, tell the pairs of the rows, whatever stands before them
abbrev pub ChainIsRead : Type 0
ChainIsRead = (naming : Naming) (B : Boundary) (f : Fitted) (scan : ScanNets) (first number written side : ℕ) (tdi : NetId) (rows : List FitRow) (before : List Item)
    → AreAdded naming side (sides_of B.ports rows)
    → sides_in (map (cell_row f) rows) (reverse (items_from naming written (map Some (rows_cells B scan first number tdi side rows))) ++ before)
    ≡ Some (map (written_side naming) (pairs_from B side rows))
