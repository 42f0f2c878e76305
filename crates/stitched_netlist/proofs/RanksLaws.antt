-- The numbers of the nets of the netlist with the test logic built in.
-- The control logic stands lowest, and the nets of the core above it, four numbers apart: so there is room for what a boundary cell gives
-- above what the core gives it, and below the driver that takes it.
use Rattle.std.proofs.Common.{ℕ, zero, suc, ◌+◌, ◌-◌, ◌*◌, ◌==◌, nat_lt, Bool, List, [], ◌∷◌, ◌++◌, length, Option, Some, None, if◌then◌else◌}
use Rattle.std.specs.List.{slice_index}
use Rattle.cell_library.specs.declared.codes.Bits.{Bits}
use Rattle.cell_library.specs.declared.codes.Instr.{Instr}
use Rattle.cell_library.specs.declared.codes.BoundaryKind.{BoundaryKind}
use Rattle.netlist_model.specs.declared.Dir.{Dir}
use Rattle.netlist_model.specs.declared.Dir.TheVariants.{Input, Output, Inout}
use Rattle.netlist_model.specs.declared.Feed.{Feed}
use Rattle.netlist_model.specs.declared.Feed.TheVariants.{Net, Const}
use Rattle.netlist_model.specs.Lists.{NetlistView, direction}
use Rattle.test_logic.specs.declared.Codes.{Codes}
use Rattle.test_logic.specs.Instructions.{opcode_of}
use Rattle.tap_gates.specs.Laws.{tap_levels}
use Rattle.surrounded_core.specs.instruction_gates.Register.{matched_instructions}
use Rattle.surrounded_core.specs.Registers.{shift_levels, selected_levels, inverse_levels, selections_levels, tdo_levels}
use Rattle.surrounded_core.specs.Instructions.{one_level, held_levels, equal_levels}
use Rattle.surrounded_core.specs.LevelsRows.{bc_1_levels, stage_levels, control_levels}
use Rattle.plan_fitting.specs.declared.fitted.FitRow.{FitRow}
use Rattle.plan_fitting.specs.declared.fitted.Fitted.{Fitted}
use Rattle.stitched_netlist.specs.declared.model.Site.{Site}
use Rattle.stitched_netlist.specs.declared.model.Site.TheVariants as site
use Rattle.stitched_netlist.specs.Sites.{Boundary, site_of}
use Rattle.stitched_netlist.specs.Sides.{core_side}
use Rattle.stitched_netlist.specs.ModelRows.{net_at}
use Rattle.stitched_netlist.specs.Stitched.{boundary_at}
use Rattle.stitched_netlist.proofs.RanksPlaces.{levels_at, blocks}

-- The controller and the registers beside the boundary register.

abbrev pub shift_block : ℕ → ℕ → List ℕ
shift_block base k = levels_at base shift_levels

abbrev pub latch_block : ℕ → List ℕ
latch_block k = levels_at 1 one_level ++ levels_at 2 held_levels

abbrev pub match_block : ℕ → List ℕ
match_block k = levels_at (0 + 2 * k) equal_levels

abbrev pub stages_ranks : ℕ → List ℕ
stages_ranks count = (levels_at 0 one_level ++ blocks (shift_block 0) count) ++ blocks latch_block count

abbrev pub opcode_ranks : ℕ → Option Bits → List ℕ
opcode_ranks count None = []
opcode_ranks count (Some opcode) = blocks match_block count

abbrev pub opcodes_ranks : Codes → List Instr → List ℕ
opcodes_ranks codes [] = []
opcodes_ranks codes (i ∷ rest) = opcode_ranks codes.length (opcode_of codes.opcodes i) ++ opcodes_ranks codes rest

-- a copy stands above its latched bit
abbrev pub copies_ranks : ℕ → List ℕ
copies_ranks zero = []
copies_ranks (suc behind) = levels_at 0 one_level ++ copies_ranks behind

abbrev pub instruction_ranks : Codes → List ℕ
instruction_ranks codes =
    stages_ranks codes.length ++ (opcodes_ranks codes matched_instructions ++ (levels_at (2 * codes.length) selections_levels ++ copies_ranks codes.length))

-- what the instruction register hands on has no greater number
abbrev pub control_top : Codes → ℕ
control_top codes = 2 * codes.length + 2

abbrev pub bypass_ranks : ℕ → List ℕ
bypass_ranks top = levels_at top selected_levels ++ levels_at (top + 1) shift_levels

abbrev pub inverse_ranks : ℕ → Option ℕ → List ℕ
inverse_ranks top None = []
inverse_ranks top (Some user) = levels_at top inverse_levels

abbrev pub data_ranks : ℕ → List ℕ
data_ranks top = levels_at top selected_levels ++ blocks (shift_block (top + 1)) 32

abbrev pub ident_ranks : ℕ → Option ℕ → Option ℕ → List ℕ
ident_ranks top user None = []
ident_ranks top user (Some code) = inverse_ranks top user ++ data_ranks top

abbrev pub logic_ranks : Codes → Option ℕ → Option ℕ → List ℕ
logic_ranks codes user idcode =
    ((levels_at 0 tap_levels ++ instruction_ranks codes) ++ bypass_ranks (control_top codes)) ++ ident_ranks (control_top codes) user idcode

-- The core, whose nets have these numbers where it is alone.

-- the numbers of the core begin above the control logic
abbrev pub core_low : Codes → ℕ
core_low codes = control_top codes + 1

abbrev pub net_rank : (ℕ → ℕ) → ℕ → ℕ → ℕ
net_rank alone low net = low + 4 * alone net + 4

abbrev pub feed_rank : (ℕ → ℕ) → ℕ → Option Feed → ℕ
feed_rank alone low None = low
feed_rank alone low (Some (Const b)) = low
feed_rank alone low (Some (Net net)) = net_rank alone low net.0

-- The boundary register: the nets between the core and a cell, and those of the cell.

abbrev pub sides_at : (ℕ → ℕ) → ℕ → Boundary → FitRow → Site → List ℕ
sides_at alone low B row site.Observed = []
sides_at alone low B row site.Input = low ∷ []
sides_at alone low B row site.Output = net_rank alone low (net_at B row).0 ∷ []
sides_at alone low B row site.AddedDriver = net_rank alone low (net_at B row).0 ∷ (net_rank alone low (net_at B row).0 + 1) ∷ []
sides_at alone low B row site.Driver = (feed_rank alone low row.core + 1) ∷ []
sides_at alone low B row site.Inout = (feed_rank alone low row.core + 1) ∷ []
sides_at alone low B row site.Control = (feed_rank alone low row.core + 2) ∷ []

abbrev pub sides_ranks : (ℕ → ℕ) → ℕ → Boundary → List FitRow → List ℕ
sides_ranks alone low B [] = []
sides_ranks alone low B (row ∷ rows) = sides_at alone low B row (site_of B.ports row) ++ sides_ranks alone low B rows

abbrev pub row_base : (ℕ → ℕ) → ℕ → Boundary → FitRow → Site → ℕ
row_base alone low B row site.Observed = low
row_base alone low B row site.Input = low
row_base alone low B row site.Output = net_rank alone low (net_at B row).0
row_base alone low B row site.AddedDriver = net_rank alone low (net_at B row).0
row_base alone low B row site.Driver = feed_rank alone low row.core
row_base alone low B row site.Inout = net_rank alone low (net_at B row).0
row_base alone low B row site.Control = feed_rank alone low row.core

abbrev pub bidir_levels : List ℕ
bidir_levels = 0 ∷ 3 ∷ 1 ∷ 0 ∷ 1 ∷ 2 ∷ 1 ∷ []

abbrev pub site_levels : BoundaryKind → Site → List ℕ
site_levels cell site.Observed = shift_levels
site_levels cell site.Input = bc_1_levels
site_levels cell site.Output = stage_levels cell
site_levels cell site.AddedDriver = stage_levels cell
site_levels cell site.Driver = stage_levels cell
site_levels cell site.Inout = bidir_levels
site_levels cell site.Control = control_levels cell

abbrev pub row_ranks : (ℕ → ℕ) → ℕ → Boundary → FitRow → Site → List ℕ
row_ranks alone low B row at = levels_at (row_base alone low B row at) (site_levels row.cell at)

-- the row nearest TDI stands first
abbrev pub rows_ranks : (ℕ → ℕ) → ℕ → Boundary → List FitRow → List ℕ
rows_ranks alone low B [] = []
rows_ranks alone low B (row ∷ rows) = rows_ranks alone low B rows ++ row_ranks alone low B row (site_of B.ports row)

-- The whole.

abbrev pub total : List ℕ → ℕ
total [] = 0
total (x ∷ xs) = x + total xs

-- the test access port: TDO alone is driven
abbrev pub tap_ranks : List ℕ
tap_ranks = 0 ∷ 0 ∷ 0 ∷ 1 ∷ 0 ∷ []

abbrev pub added_ranks : (ℕ → ℕ) → Boundary → Fitted → List ℕ
added_ranks alone B f =
    tap_ranks ++ (sides_ranks alone (core_low f.codes) B B.rows
    ++ ((logic_ranks f.codes f.usercode f.idcode ++ rows_ranks alone (core_low f.codes) B B.rows) ++ levels_at (control_top f.codes) tdo_levels))

-- the nets of the core's pins: an input's is driven by nothing, and where a cell drives an output's, nothing reads it
abbrev pub pin_by : Option Dir → Bool → ℕ → ℕ → ℕ
pin_by None stays own top = own
pin_by (Some Input) stays own top = 0
pin_by (Some Inout) stays own top = own
pin_by (Some Output) stays own top = if stays then own else top

abbrev pub pin_rank : (ℕ → ℕ) → ℕ → Boundary → ℕ → ℕ
pin_rank alone low B net = pin_by (direction B.ports net) (core_side B net == net) (net_rank alone low net) (suc (total (sides_ranks alone low B B.rows)))

-- the nets of the core have numbers below this count
abbrev pub rank_by : (ℕ → ℕ) → Boundary → Fitted → ℕ → ℕ → ℕ
rank_by alone B f count net = if nat_lt net count then pin_rank alone (core_low f.codes) B net else slice_index (added_ranks alone B f) (net - count)

abbrev pub stitched_rank : NetlistView → Fitted → (ℕ → ℕ) → ℕ → ℕ
stitched_rank N f alone = rank_by alone (boundary_at N f) f (length N.nets)
