-- The core behind one boundary cell more.
-- IEEE Std 1149.1-2001: boundary-scan register.
use Rattle.std.specs.Prelude.{ℕ, ◌<◌, List, [], ◌∷◌, map, length, Option, MatchOption, ⊤, if◌then◌else◌}
use Rattle.std.specs.Option.{option_map, option_map_or}
use Rattle.netlist_model.specs.declared.NetId.{NetId}
use Rattle.netlist_model.specs.declared.Feed.{Feed}
use Rattle.netlist_model.specs.declared.Feed.TheVariants.{Net}
use Rattle.netlist_model.specs.Lists.{CellView, NetlistView}
use Rattle.netlist_model.specs.Formed.{IsDriven}
use Rattle.netlist_model.specs.Settled.{is_output}
use Rattle.netlist_arena.specs.Adds.{IsFree}
use Rattle.netlist_arena.specs.Moves.{moved_readers, moved_driver}
use Rattle.stitched_netlist.specs.declared.model.Site.{Site}
use Rattle.stitched_netlist.specs.declared.model.Site.TheVariants as site
use Rattle.core_sides.specs.Ready.{HasDriver}

-- own: the cell with these operands if it drives the net
abbrev pub with_driver_feeds : NetId → List Feed → CellView → CellView
with_driver_feeds net feeds cell = if is_output cell.output net.0 then record cell { feeds = feeds } else cell

-- own: the lists where the driver of the net has these operands
abbrev pub fed_driver : NetId → List Feed → NetlistView → NetlistView
fed_driver net feeds N = record N { cells = map (option_map (with_driver_feeds net feeds)) N.cells }

-- own: what a cell at this site makes of the netlist, where its bit has this net: `side` is the first net between the
-- core and it, and `level` that of its control
abbrev pub stood_at : Site → NetId → NetId → NetId → NetlistView → NetlistView
stood_at site.Observed side level net N = N
stood_at site.Input side level net N = moved_readers net side N
stood_at site.Output side level net N = moved_readers net side (moved_driver net side N)
stood_at site.AddedDriver side level net N = moved_readers net side (moved_driver net side N)
stood_at site.Driver side level net N = fed_driver net (Net side ∷ Net level ∷ []) N
stood_at site.Inout side level net N = fed_driver net (Net side ∷ Net level ∷ []) N
stood_at site.Control side level net N = N

-- a control cell has no bit
abbrev pub stood_by : Option NetId → Site → NetId → NetId → NetlistView → NetlistView
stood_by bit at side level N = option_map_or (λ net. stood_at at side level net N) bit N

-- own: a net that is there, which nothing drives
pub record IsSpare (N : NetlistView) (net : ℕ) : Type 0 where
  pub there : net < length N.nets
  pub free : IsFree N net

-- own: the nets between are there for a cell at this site, and the core drives its net as it should
abbrev pub CanStandAt : NetlistView → Site → NetId → NetId → NetId → Type 0
CanStandAt N site.Observed side level net = ⊤
CanStandAt N site.Input side level net = side.0 < length N.nets
CanStandAt N site.Output side level net = IsSpare N side.0 × IsDriven N net.0
CanStandAt N site.AddedDriver side level net = IsSpare N side.0 × IsDriven N net.0
CanStandAt N site.Driver side level net = (side.0 < length N.nets) × (level.0 < length N.nets) × HasDriver N net.0
CanStandAt N site.Inout side level net = (side.0 < length N.nets) × (level.0 < length N.nets) × HasDriver N net.0
CanStandAt N site.Control side level net = ⊤

abbrev pub CanStandBy : NetlistView → Option NetId → Site → NetId → NetId → Type 0
CanStandBy N bit at side level = MatchOption bit ⊤ (CanStandAt N at side level)
