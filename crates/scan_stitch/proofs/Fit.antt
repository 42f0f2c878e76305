-- What was fitted to a netlist can be built into it.
use Rattle.std.proofs.Common.{◌≡◌, ◌≢◌, ℕ, ◌+◌, ◌*◌, ◌^◌, ◌<◌, ◌≤◌, inl, inr, ◌&&◌, Bool, true, false, not, List, [], ◌++◌, length, length-append, get_or, refl, sym, ◌∙◌, ap, subst, arith, Option, Some, None}
use Rattle.std.specs.Prelude.{slice_get, option_map, MatchOption, IsSome, ⊤, if◌then◌else◌}
use Rattle.std.specs.Option.{option_map_or}
use Rattle.std.proofs.lemmas.Bool.{eqb-true}
use Rattle.std.proofs.lemmas.Option.{slice_get-get_or}
use Rattle.list_laws.proofs.Tests.{and_left, and_right}
use Rattle.cell_library.specs.declared.codes.Function.{Function}
use Rattle.cell_library.specs.declared.codes.Function.TheVariants as function
use Rattle.bsdl_device.specs.declared.values.CellRow.{CellRow}
use Rattle.bsdl_device.specs.declared.values.Disable.{Disable}
use Rattle.bsdl_device.specs.IsDevice.{is_disabled, is_control_at, disable_right}
use Rattle.texts.specs.First.{or_else}
use Rattle.netlist_model.specs.declared.Dir.{Dir}
use Rattle.netlist_model.specs.declared.Dir.TheVariants as dir
use Rattle.netlist_model.specs.declared.Feed.{Feed}
use Rattle.netlist_model.specs.declared.Feed.TheVariants.{Net, Const}
use Rattle.netlist_model.specs.declared.NetId.{NetId}
use Rattle.netlist_model.specs.Below.{IsFeedBelow}
use Rattle.netlist_model.specs.Contained.{IsDense}
use Rattle.netlist_model.specs.Formed.{IsLaidOut}
use Rattle.netlist_model.specs.Lists.{NetView, CellView, NetlistView, cell_at}
use Rattle.netlist_model.specs.Settled.{driver_of}
use Rattle.netlist_model.specs.Drivers.{IsDriverOf}
use Rattle.netlist_model.proofs.Inside.{driver_found, driver_drives}
use Rattle.netlist_model.proofs.Ports.{bit_has_direction}
use Rattle.gate_parts.specs.Parts.{added_nets}
use Rattle.gate_parts.proofs.Steps.{length-added_nets}
use Rattle.netlist_link.specs.Linked.{LinkedView}
use Rattle.plan_texts.specs.declared.plan.Plan.{Plan}
use Rattle.plan_texts.specs.declared.plan.PinLine.{PinLine}
use Rattle.plan_fitting.specs.declared.fitted.FitRow.{FitRow}
use Rattle.plan_fitting.specs.Pins.{PinSeen}
use Rattle.plan_fitting.specs.Rows.{Driver, three_state, added_driver, same_feed, controls, rows, has_highz}
use Rattle.plan_fitting.specs.Devices.{fitted_of, cell_row, disable_by, device_of}
use Rattle.plan_fitting.proofs.Controls.{control_cells_are_there}
use Rattle.plan_fitting.proofs.Drivers.{gate_is}
use Rattle.plan_fitting.specs.FittingPlan.{IsFitting}
use Rattle.plan_fitting.proofs.Lined.{IsLined}
use Rattle.plan_fitting.proofs.Rows.{side_driver, data_core, Controlled, IsDataRow, IsControlRow}
use Rattle.plan_fitting.proofs.RowPlaces.{net_of_line}
use Rattle.plan_fitting.proofs.DevicesFacts.{Facts, facts_of}
use Rattle.stitched_netlist.specs.declared.model.TapNames.{TapNames}
use Rattle.stitched_netlist.specs.Sites.{sides_of}
use Rattle.stitched_netlist.specs.Stitched.{tap_net_views}
use Rattle.written_netlists.specs.Prepared.{room_of}
use Rattle.written_netlists.specs.ReadyLaws.{FittedCanStandBehind}
use Rattle.written_netlists.proofs.Rows.{all_at}
use Rattle.scan_stitch.specs.Ready.{IsSmall}
use Rattle.scan_stitch.specs.Stitched.{nets_around, IsRowFit, CanBeStitched}

-- Operands of drivers.

abbrev BothBelow : ℕ → Driver → Type 0
BothBelow n d = IsFeedBelow n d.core × IsFeedBelow n d.operand

read_below : (N : NetlistView) → IsLaidOut N → (i place : ℕ) (cell : CellView) (feed : Feed) → cell_at N i ≡ Some cell → slice_get cell.feeds place ≡ Some feed → IsFeedBelow (length N.nets) feed
read_below N laid i place cell (Net net) live at = laid.operands i cell place net.0 (record { live = live; operand = at })
read_below N laid i place cell (Const b) live at = tt

gate_below : (N : NetlistView) → IsLaidOut N → (i : ℕ) (cell : CellView) (d : Driver) → cell_at N i ≡ Some cell → three_state (Some cell) ≡ Some d → BothBelow (length N.nets) d
gate_below N laid i cell d live h =
    let feeds = (gate_is cell.kind cell.feeds d h).are in (
      read_below N laid i 0 cell d.core live (ap (λ (fs : List Feed). slice_get fs 0) feeds),
      read_below N laid i 1 cell d.operand live (ap (λ (fs : List Feed). slice_get fs 1) feeds),
    )

found_below : (N : NetlistView) → IsLaidOut N → (net : ℕ) (found : Option CellView) → IsDriverOf N net found → (d : Driver) → three_state found ≡ Some d → BothBelow (length N.nets) d
found_below N laid net None is d h = absurd (cc)
found_below N laid net (Some cell) is d h = gate_below N laid is.0 cell d is.1.live h

own_or_gate : (highz : Bool) (net : NetId) (n : ℕ) (gate : Option Driver) (d : Driver) → net.0 < n → ((e : Driver) → gate ≡ Some e → BothBelow n e)
    → or_else gate (added_driver highz (Net net)) ≡ Some d → BothBelow n d
own_or_gate highz net n (Some e) d low each h = let same : e ≡ d = cc in let P : Driver → Type 0 = λ x. BothBelow n x in subst P same (each e refl)
own_or_gate true net n None d low each h =
    let same : record { core = Net net; operand = Const true; active_high = true } ≡ d = cc in
    let P : Driver → Type 0 = λ x. BothBelow n x in
    subst P same (low, tt)
own_or_gate false net n None d low each h = absurd (cc)

-- the driver that a control cell is to control
side_below : (N : NetlistView) → IsLaidOut N → (highz : Bool) (one : PinSeen) → one.net.0 < length N.nets → one.driver ≡ driver_of N.cells one.net.0 → (side : Dir) (d : Driver)
    → side_driver highz one side ≡ Some d → BothBelow (length N.nets) d
side_below N laid highz one low found dir.Input d h = absurd (cc)
side_below N laid highz one low found dir.Output d h =
    own_or_gate highz one.net (length N.nets) (three_state one.driver) d low
    (λ e is. found_below N laid one.net.0 (driver_of N.cells one.net.0) (driver_drives N one.net.0) e (ap three_state (sym found) ∙ is)) h
side_below N laid highz one low found dir.Inout d h = found_below N laid one.net.0 (driver_of N.cells one.net.0) (driver_drives N one.net.0) d (ap three_state (sym found) ∙ h)

core_below : (n : ℕ) (one : PinSeen) (side : Dir) (driver : Option Driver) → one.net.0 < n → ((d : Driver) → driver ≡ Some d → BothBelow n d) → MatchOption (data_core one side driver) ⊤ (IsFeedBelow n)
core_below n one dir.Input driver low each = tt
core_below n one dir.Output None low each = low
core_below n one dir.Output (Some d) low each = (each d refl).0
core_below n one dir.Inout None low each = tt
core_below n one dir.Inout (Some d) low each = (each d refl).0

-- Rows.

-- what is known of a data row's bit
one_below : (L : LinkedView) → IsLaidOut L.arena.lists → (line : PinLine) (one : PinSeen) → IsLined L line one → one.net.0 < length L.arena.lists.nets
one_below L laid line one lined = laid.port_nets one.pin.port.0 one.pin.bit one.net (net_of_line L line one lined)

driver_below : (L : LinkedView) → IsLaidOut L.arena.lists → (highz : Bool) (line : PinLine) (one : PinSeen) → IsLined L line one → (d : Driver) → side_driver highz one one.side ≡ Some d
    → BothBelow (length L.arena.lists.nets) d
driver_below L laid highz line one lined d h = side_below L.arena.lists laid highz one (one_below L laid line one lined) lined.seen.driver one.side d h

-- a control cell takes the operand of a driver that names it
operand_same : (n : ℕ) (operand : Feed) (core : Option Feed) → option_map_or (same_feed operand) core false ≡ true → IsFeedBelow n operand → MatchOption core ⊤ (IsFeedBelow n)
operand_same n operand None same low = tt
operand_same n (Net a) (Some (Net b)) same low =
    let e = eqb-true a.0 b.0 same in
    let l : a.0 < n = low in
    let r : b.0 < n = omega arith in
    r
operand_same n (Net a) (Some (Const b)) same low = tt
operand_same n (Const a) (Some (Net b)) same low = absurd (cc)
operand_same n (Const a) (Some (Const b)) same low = tt

controls_same : (d : Driver) (row : FitRow) → controls d row ≡ true → option_map_or (same_feed d.operand) row.core false ≡ true
controls_same d row h = and_right _ (option_map_or (same_feed d.operand) row.core false) h

named_row : (rs : List FitRow) (d : Driver) (named : Option ℕ) (number : ℕ) (row : FitRow) → Controlled rs (Some d) named → named ≡ Some number → slice_get rs number ≡ Some row → controls d row ≡ true
named_row rs d named number row by is at =
    let both : Some by.number ≡ Some number = sym by.is ∙ is in
    let same : by.number ≡ number = cc in
    let rows_same : Some by.row ≡ Some row = sym by.there ∙ ap (λ (n : ℕ). slice_get rs n) same ∙ at in
    let equal : by.row ≡ row = cc in
    ap (λ (r : FitRow). controls d r) (sym equal) ∙ by.right

named_drives : (rs : List FitRow) (cells : List CellRow) (does : Function) (named : Option ℕ) (number : ℕ) → named ≡ Some number
    → option_map_or (λ (d : Disable). is_disabled does && is_control_at cells d.control) (option_map (disable_by rs) named) (not (is_disabled does)) ≡ true → is_disabled does ≡ true
named_drives rs cells does None number is right = absurd (cc)
named_drives rs cells does (Some k) number is right = and_left (is_disabled does) (is_control_at cells k) right

inout_named : (rs : List FitRow) (cells : List CellRow) (does : Function) (named : Option ℕ) → does ≡ function.Bidir
    → option_map_or (λ (d : Disable). is_disabled does && is_control_at cells d.control) (option_map (disable_by rs) named) (not (is_disabled does)) ≡ true → IsSome named
inout_named rs cells does (Some k) is right = refl
inout_named rs cells does None is right =
    let e : not (is_disabled function.Bidir) ≡ true = ap (λ (x : Function). not (is_disabled x)) (sym is) ∙ right in
    absurd (cc)

row_right : (L : LinkedView) (p : Plan) (seen : List PinSeen) (k : ℕ) (row : FitRow) → slice_get (rows p seen) k ≡ Some row
    → disable_right (device_of L p seen).cells (cell_row (fitted_of L p seen) row) ≡ true
row_right L p seen k row at = all_at (disable_right (device_of L p seen).cells) (fitted_of L p seen) (rows p seen) k row (control_cells_are_there L p seen) at

not_both : (row : FitRow) → row.function ≡ function.Control → is_disabled row.function ≡ true → ⊥
not_both row is disabled = let e : is_disabled function.Control ≡ true = ap is_disabled (sym is) ∙ disabled in cc

no_name : (number : ℕ) (named : Option ℕ) → named ≡ None → named ≡ Some number → ⊥
no_name number named none is = let e : None ≡ Some number = sym none ∙ is in cc

user_below : (L : LinkedView) (p : Plan) (seen : List PinSeen) → IsLaidOut L.arena.lists → (k number : ℕ) (row user : FitRow) (d : IsDataRow (IsLined L) (has_highz p.opcodes) (rows p seen) user)
    (driver : Option Driver) → side_driver (has_highz p.opcodes) d.one d.one.side ≡ driver → Controlled (rows p seen) driver user.control → user.control ≡ Some number
    → slice_get (rows p seen) number ≡ Some row → MatchOption row.core ⊤ (IsFeedBelow (length L.arena.lists.nets))
user_below L p seen laid k number row user d None is by names at = absurd (no_name number user.control by names)
user_below L p seen laid k number row user d (Some driver) is by names at =
    operand_same (length L.arena.lists.nets) driver.operand row.core (controls_same driver row (named_row (rows p seen) driver user.control number row by names at))
    (driver_below L laid (has_highz p.opcodes) d.line d.one d.on driver is).1

control_below : (L : LinkedView) (p : Plan) (seen : List PinSeen) → IsLaidOut L.arena.lists → Facts L p seen → (k : ℕ) (row : FitRow) → slice_get (rows p seen) k ≡ Some row
    → IsControlRow p.control (rows p seen) k row → MatchOption row.core ⊤ (IsFeedBelow (length L.arena.lists.nets))
control_below L p seen laid facts k row at c = elim (facts.each c.user c.user_row c.user_there) [
  | inl d ↦ user_below L p seen laid c.user k row c.user_row d (side_driver (has_highz p.opcodes) d.one d.one.side) refl d.controlled c.names at
  | inr other ↦
      absurd (not_both c.user_row other.does
      (named_drives (rows p seen) (device_of L p seen).cells c.user_row.function c.user_row.control k c.names (row_right L p seen c.user c.user_row c.user_there)))
]

data_below : (L : LinkedView) (p : Plan) (seen : List PinSeen) → IsLaidOut L.arena.lists → (row : FitRow) → IsDataRow (IsLined L) (has_highz p.opcodes) (rows p seen) row
    → MatchOption row.core ⊤ (IsFeedBelow (length L.arena.lists.nets))
data_below L p seen laid row d =
    let P : Option Feed → Type 0 = λ core. MatchOption core ⊤ (IsFeedBelow (length L.arena.lists.nets)) in
    subst P (sym d.core)
    (core_below (length L.arena.lists.nets) d.one d.one.side (side_driver (has_highz p.opcodes) d.one d.one.side) (one_below L laid d.line d.one d.on)
    (λ driver is. driver_below L laid (has_highz p.opcodes) d.line d.one d.on driver is))

row_fits : (L : LinkedView) (p : Plan) (seen : List PinSeen) → IsLaidOut L.arena.lists → Facts L p seen → (k : ℕ) (row : FitRow) → slice_get (rows p seen) k ≡ Some row → IsRowFit L.arena.lists row
row_fits L p seen laid facts k row at =
    let inout : row.function ≡ function.Bidir → IsSome row.control
    = λ is. inout_named (rows p seen) (device_of L p seen).cells row.function row.control is (row_right L p seen k row at) in
    elim (facts.each k row at) [
      | inl d ↦ record {
        placed = λ none. absurd (let e : Some d.one.pin ≡ None = sym d.pin ∙ none in cc);
        core = data_below L p seen laid row d;
        inout = inout;
      }
      | inr c ↦ record {
        placed = λ none. c.does;
        core = control_below L p seen laid facts k row at c;
        inout = inout;
      }
    ]

pub can_be_stitched : FittedCanStandBehind → (L : LinkedView) (p : Plan) (seen : List PinSeen) (names : TapNames) → IsFitting L p seen → IsLaidOut L.arena.lists → IsDense L.arena.lists → IsSmall (fitted_of L p seen)
    → length L.arena.lists.nets + room_of (fitted_of L p seen) < 2 ^ 32 → CanBeStitched L.arena.lists names (fitted_of L p seen)
can_be_stitched stand L p seen names fits laid dense small room =
    let N : NetlistView = L.arena.lists in
    let facts = facts_of bit_has_direction driver_found L p seen fits in
    let around : List NetView = nets_around N names (rows p seen) in
    let sides : List NetView = added_nets (length N.nets + 5) (sides_of N.ports (rows p seen)) in
    let five : length (tap_net_views names) ≡ 5 = refl in
    let many = length-added_nets (length N.nets + 5) (sides_of N.ports (rows p seen)) in
    let both = length-append (tap_net_views names) sides in
    let long : length around ≡ 5 + sides_of N.ports (rows p seen) = omega arith in
    record {
      dense = dense;
      small = small;
      fit = λ k d low. row_fits L p seen laid facts k (get_or (rows p seen) k d) (slice_get-get_or (rows p seen) k d low);
      inputs = λ i cell net drives. fits.formed.inputs_free i cell net drives;
      stands = stand L p seen around fits laid small.rows (omega arith) (omega arith);
    }
