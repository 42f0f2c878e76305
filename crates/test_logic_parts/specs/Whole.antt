-- What the test logic needs of a netlist whose core stands behind its boundary cells.
-- IEEE Std 1149.1-2001: test logic architecture; the numbers are own.
use Rattle.std.specs.Prelude.{◌≡◌, ℕ, ◌+◌, ◌*◌, ◌≤◌, All, length}
use Rattle.netlist_model.specs.Contained.{IsDense}
use Rattle.netlist_arena.specs.Arena.{ArenaView}
use Rattle.netlist_arena.specs.Adds.{IsFree}
use Rattle.plan_fitting.specs.declared.fitted.Fitted.{Fitted}
use Rattle.core_sides.specs.stitched_netlist.declared.model.TapPort.{TapPort}
use Rattle.core_sides.specs.stitched_netlist.Sites.{Boundary, sides_of}
use Rattle.test_logic_parts.specs.Logic.{logic_room, IsPortBelow}
use Rattle.test_logic_parts.specs.Rows.{into_from, IsApart, AreApart, AreFree, IsBoundary, IsReady}

-- own: so many nets and cells suffice: at most seven nets and eight cells for each row, six nets and
-- seven cells for TDO
abbrev pub net_room : Fitted → ℕ
net_room f = logic_room f + 8 * length f.rows + 6

abbrev pub cell_room : Fitted → ℕ
cell_room f = logic_room f + 8 * length f.rows + 7

-- own: room, the nets of the port and those between, what the cells read, and nets for the cells and for TDO
-- that nothing drives
pub record CanTakeLogic (arena : ArenaView) (B : Boundary) (f : Fitted) (port : TapPort) : Type 0 where
  pub dense : IsDense arena.lists
  pub bits : f.codes.length ≤ 32
  pub rows : B.rows ≡ f.rows
  pub boundary : IsBoundary B
  pub nets : net_room f ≤ arena.spare.nets
  pub cells : cell_room f ≤ arena.spare.cells
  pub port_there : IsPortBelow (length arena.lists.nets) port
  pub between : B.first + sides_of B.ports B.rows ≤ length arena.lists.nets
  pub ready : All (IsReady B (length arena.lists.nets)) B.rows
  pub free : AreFree arena.lists (into_from B B.first B.rows)
  pub apart : AreApart (into_from B B.first B.rows)
  pub tdo_free : IsFree arena.lists port.tdo.0
  pub tdo_apart : IsApart (into_from B B.first B.rows) port.tdo.0
