-- How the netlists behave that extend the one with the buffer.
use Rattle.std.proofs.Common.{◌≡◌, ◌≢◌, ℕ, zero, suc, ◌+◌, ◌<◌, ◌≤◌, Bool, true, false, ◌⊎◌, inl, inr, List, [], ◌∷◌, ◌++◌, length, Option, Some, None, refl, ap, sym, ◌∙◌, subst, arith}
use Rattle.std.proofs.lemmas.Option.{slice_get_within}
use Rattle.list_laws.proofs.Lists.{slice_get-append_left, slice_get-append_right}
use Rattle.signal_values.specs.declared.Sig.{Sig}
use Rattle.signal_values.specs.declared.PinSig.{PinSig}
use Rattle.cell_library.specs.Gates.{is_three_state}
use Rattle.netlist_model.specs.declared.NetId.{NetId}
use Rattle.netlist_model.specs.declared.Dir.{Dir}
use Rattle.netlist_model.specs.declared.Dir.TheVariants.{Output, Inout}
use Rattle.netlist_model.specs.declared.Feed.{Feed}
use Rattle.netlist_model.specs.declared.Feed.TheVariants.{Net}
use Rattle.netlist_model.specs.Lists.{PortView, CellView, NetlistView, cell_at, bit_net, direction, Drives, IsUndriven}
use Rattle.netlist_model.specs.Settled.{feed_value, driver_of, follows_pin}
use Rattle.netlist_model.specs.Formed.{IsWellFormed}
use Rattle.netlist_model.specs.Contained.{HasCells}
use Rattle.netlist_model.specs.Runs.{Moment, reading_at}
use Rattle.netlist_model.specs.Drivers.{IsDriverOf, DriverDrives}
use Rattle.netlist_model.specs.Ports.{DirectionHasBit}
use Rattle.netlist_model.specs.LawsRuns.{RunHasMoments}
use Rattle.netlist_link.specs.Linked.{LinkedView}
use Rattle.gate_parts.specs.PartLaws.{ContainedPartMeets}
use Rattle.gate_parts.specs.Parts.{part_cells}
use Rattle.instruction_gates.specs.Copies.{row_values}
use Rattle.bsdl_device.specs.declared.values.Device.{Device}
use Rattle.wrapped_chip.specs.Beside.{HasPins}
use Rattle.wrapped_chip.specs.ChipRuns.{ChipEvent, ChipMoment}
use Rattle.wrapped_chip.specs.Realises.{IsRunBeside}
use Rattle.plan_texts.specs.declared.plan.Plan.{Plan}
use Rattle.plan_fitting.specs.declared.fitted.Fitted.{Fitted}
use Rattle.plan_fitting.specs.Pins.{PinSeen}
use Rattle.plan_fitting.specs.Devices.{fitted_of, device_of}
use Rattle.plan_fitting.specs.FittingPlan.{IsFitting}
use Rattle.surrounded_core.specs.Places.{Places}
use Rattle.surrounded_core.specs.Laws.{core_value}
use Rattle.test_logic.specs.Machine.{test_logic_of}
use Rattle.surrounded_core.specs.Open.{HoldsAsChip, tdo_step}
use Rattle.status_gates.specs.Placed.{IsCoreWire}
use Rattle.stitched_netlist.specs.declared.model.TapNames.{TapNames}
use Rattle.stitched_netlist.specs.ModelLogic.{bypass_at}
use Rattle.stitched_netlist.specs.Stitched.{first_net, stitched_cells_by, stitched_cells, stitched}
use Rattle.stitched_netlist.specs.Places.{ExtendsStitched}
use Rattle.stitched_netlist.proofs.PlacesLaws.{listed_at}
use Rattle.stitched_netlist.specs.InsidePlaces.{places_in}
use Rattle.stitched_netlist.specs.RanksLaws.{StitchedHasPins}
use Rattle.open_stitch.specs.RunsLaws.{OpenNetlistsFollow, DrivenWiresStay, PinsByPorts}
use Rattle.open_stitch.proofs.Connected.{opened_length}
use Rattle.open_stitch.specs.declared.TheConstants.{THROUGH}
use Rattle.open_stitch.specs.Open.{through_number, through_net, through_cell, open_cells, stitched_open, parts_at}
use Rattle.open_stitch.specs.Runs.{Extends, HoldsOpen}
use Rattle.open_stitch.specs.Laws.{FittingPlansAreOpen}
use Rattle.wrapped_chip.proofs.Known.{run_settled}
use Rattle.stitched_netlist.specs.Directions.{StitchedDirections}
use Rattle.stitched_netlist.specs.RowsLaws.{RowsStandSomewhere, RowsStandOnce, NetsHaveRows}
use Rattle.stitched_netlist.proofs.FormedContext.{fits_well}
use Rattle.open_stitch.proofs.Undriven.{stays_undriven}
use Rattle.open_stitch.proofs.Places.{through_part}

pub record OpenLaws : Type 0 where
  pub follow : OpenNetlistsFollow
  pub stay : DrivenWiresStay
  pub by_ports : PinsByPorts
  pub pins : StitchedHasPins
  pub meets : ContainedPartMeets
  pub moments : RunHasMoments
  pub drivers : DriverDrives
  pub stand : RowsStandSomewhere
  pub once : RowsStandOnce
  pub has : NetsHaveRows
  pub bits : DirectionHasBit
  pub directions : StitchedDirections

-- The cells.

-- it has the cells of the stitched netlist, where TDO's take the buffer's net
extends_by : (N M : NetlistView) (names : TapNames) (f : Fitted) (operand : Feed) → Extends (stitched_open N names f) M (through_number N f) operand
    → ExtendsStitched M N names f (through_net N f)
extends_by N M names f operand x = record {
  library = x.library;
  ports = x.ports;
  cells = λ k cell at.
      let within = slice_get_within (stitched_cells_by (through_net N f) N f) k cell at in
      let long = opened_length N f (through_net N f) in
      let number : through_number N f ≡ length (stitched_cells N f) = refl in
      let apart : k ≢ through_number N f = λ e. absurd (omega (arith, within, long, number, e)) in
      x.cells k cell apart (listed_at (open_cells N f) k ∙ slice_get-append_left (stitched_cells_by (through_net N f) N f) (through_cell N f (Net (bypass_at (first_net N f) f)) ∷ []) k within ∙ at);
}

buffer_is : (N M : NetlistView) (names : TapNames) (f : Fitted) (operand : Feed) → Extends (stitched_open N names f) M (through_number N f) operand
    → cell_at M (through_number N f) ≡ Some (through_cell N f operand)
buffer_is N M names f operand x =
    let cells : List CellView = stitched_cells_by (through_net N f) N f in
    let own : CellView = through_cell N f (Net (bypass_at (first_net N f) f)) in
    let k : ℕ = through_number N f in
    let long = opened_length N f (through_net N f) in
    let number : k ≡ length (stitched_cells N f) = refl in
    let is : k ≡ length cells + 0 = omega (arith, long, number) in
    x.buffer own (listed_at (open_cells N f) k ∙ slice_get-append_right cells (own ∷ []) k 0 is)

has_buffer : (N M : NetlistView) (names : TapNames) (f : Fitted) (operand : Feed) → Extends (stitched_open N names f) M (through_number N f) operand
    → HasCells M (part_cells THROUGH (operand ∷ []) (through_net N f).0 (through_number N f))
has_buffer N M names f operand x =
    subst (HasCells M) (sym (through_part N f (through_net N f).0 (through_number N f) operand refl refl))
    (record { number = through_number N f; name = (through_cell N f operand).name; live = buffer_is N M names f operand x }, tt)

-- the buffer's net has the value of what it reads
buffer_tells : OpenLaws → (N M : NetlistView) (names : TapNames) (f : Fitted) (operand : Feed) → Extends (stitched_open N names f) M (through_number N f) operand
    → (B : Device) (given : ℕ → Sig) (events : List ChipEvent) (chip : ℕ → ChipMoment) (moment : ℕ → Moment) → IsRunBeside M B N given events chip moment
    → (t : ℕ) → t ≤ length events → (moment t).value (through_net N f).0 ≡ feed_value (moment t).value operand
buffer_tells laws N M names f operand x B given events chip moment beside t below =
    let count = beside.same_events.count in
    let settled = (laws.moments M beside.start beside.there moment beside.run t (omega (arith, below, count))).settled in
    let first : ℕ = (through_net N f).0 in
    let eqs = laws.meets M THROUGH (operand ∷ []) first (through_number N f) x.formed (has_buffer N M names f operand x) _ (moment t).state (moment t).value settled in
    let z : first + 0 ≡ first = omega arith in
    let e : (moment t).value (first + 0) ≡ feed_value (moment t).value operand = (eqs 0 _ refl refl).1 in
    ap (moment t).value (sym z) ∙ e

-- The core's wires.

plain_driver : (N : NetlistView) → IsWellFormed N → (i : ℕ) (cell : CellView) (net : ℕ) → direction N.ports net ≡ None → Drives N i cell net → is_three_state cell.kind ≡ false
plain_driver N formed i cell net none drives = by (is_three_state cell.kind) refl
  where
    neither : (dir : Dir) → direction N.ports net ≡ Some dir → ⊥
    neither dir e = let no : ◌≡◌ {A = Option Dir} None (Some dir) = sym none ∙ e in cc

    by : (b : Bool) → is_three_state cell.kind ≡ b → is_three_state cell.kind ≡ false
    by false e = e
    by true e = elim (formed.bufif_outside i cell net drives e) [
      | inl out ↦ absurd (neither Output out)
      | inr both ↦ absurd (neither Inout both)
    ]

core_is : (N : NetlistView) (S : Places) (v : ℕ → Sig) (net : ℕ) → IsCoreWire N S net → core_value N S v net ≡ v net
core_is N S v net wire = rw (wire.inside, wire.driver, wire.plain) (ap v wire.stays)

-- The latched opcode.

row_length : (v : ℕ → Sig) (first count : ℕ) → length (row_values v first count) ≡ count
row_length v first zero = refl
row_length v first (suc count) = ap suc (row_length v (suc first) count)

by_length : (v : ℕ → Sig) (first count : ℕ) (latched : List Sig) → row_values v first count ≡ latched → row_values v first (length latched) ≡ latched
by_length v first count latched e =
    ap (λ (n : ℕ). row_values v first n) (ap length (sym e) ∙ row_length v first count) ∙ e

-- TDO.

same_id : (a b : NetId) → ◌≡◌ {A = Option NetId} (Some a) (Some b) → a ≡ b
same_id a b e = cc

tap_once : (a b : ℕ) (found : Option NetId) → found ≡ Some (record { 0 = a }) → found ≡ Some (record { 0 = b }) → a ≡ b
tap_once a b found e g = ap (λ (n : NetId). n.0) (same_id (record { 0 = a }) (record { 0 = b }) (sym e ∙ g))

-- The whole.

-- what the chip and the netlist give a wire that nothing drives
no_pin : (o : Option Dir) → o ≡ None → follows_pin o ≡ false
no_pin o e = ap follows_pin e

-- of the netlist that was fitted, where wires that nothing drives stay so, and both are settled
holds_open : OpenLaws → (L : LinkedView) (p : Plan) (seen : List PinSeen) (names : TapNames) (M : NetlistView) → IsFitting L p seen
    → ExtendsStitched M L.arena.lists names (fitted_of L p seen) (through_net L.arena.lists (fitted_of L p seen)) → (m : Moment) (w : ChipMoment)
    → ((net : ℕ) → net < length L.arena.lists.nets → direction L.arena.lists.ports net ≡ None → IsUndriven L.arena.lists net → m.value net ≡ w.value net)
    → HoldsAsChip M (device_of L p seen) L.arena.lists (places_in M L.arena.lists (fitted_of L p seen)) m w
    → HoldsOpen M (device_of L p seen) L.arena.lists (parts_at L.arena.lists (fitted_of L p seen)) m w
holds_open laws L p seen names M fits extends m w idle h =
    let N : NetlistView = L.arena.lists in
    let f : Fitted = fitted_of L p seen in
    record {
      bits = h.bits;
      kept = h.kept;
      wires = λ net low none. by_driver net low none (driver_of N.cells net) refl;
      levels = h.levels;
      states = h.shows;
      selected = h.instruction.selected;
      last = h.instruction.last;
      opcode = by_length m.value (parts_at N f).instr.opcode.0 f.codes.length w.machine.latched h.instruction.opcode;
      data_in = h.data_in;
      bypass = h.bypass;
    }
  where
    plain_of : (net : ℕ) (cell : CellView) → direction L.arena.lists.ports net ≡ None → driver_of L.arena.lists.cells net ≡ Some cell → is_three_state cell.kind ≡ false
    plain_of net cell none driver =
        let P : Option CellView → Type 0 = λ found. IsDriverOf L.arena.lists net found in
        let is : (i : ℕ) × Drives L.arena.lists i cell net = subst P driver (laws.drivers L.arena.lists net) in
        plain_driver L.arena.lists fits.formed is.0 cell net none is.1

    by_driver : (net : ℕ) → net < length L.arena.lists.nets → direction L.arena.lists.ports net ≡ None → (found : Option CellView) → driver_of L.arena.lists.cells net ≡ found → m.value net ≡ w.value net
    by_driver net low none None driver =
        let P : Option CellView → Type 0 = λ found. IsDriverOf L.arena.lists net found in
        idle net low none (subst P driver (laws.drivers L.arena.lists net))
    by_driver net low none (Some cell) driver =
        let N : NetlistView = L.arena.lists in
        let f : Fitted = fitted_of L p seen in
        let plain = plain_of net cell none driver in
        sym (core_is N (places_in M N f) m.value net (laws.stay L p seen names M (through_net N f) fits extends net cell none driver plain)) ∙ h.core net

pub plans_are_open : OpenLaws → FittingPlansAreOpen
plans_are_open laws L p seen names fits laid dense M operand x given events chip moment run beside =
    let N : NetlistView = L.arena.lists in
    let f : Fitted = fitted_of L p seen in
    let extends = extends_by N M names f operand x in
    let pins : HasPins M N = laws.by_ports M (stitched N names f) N x.ports (laws.pins N names f laid) in
    let follows = laws.follow L p seen names M (through_net N f) fits laid dense extends x.formed pins given events chip moment run beside in
    record {
      holds = λ t below. holds_open laws L p seen names M fits extends (moment t) (chip t)
          (idle t below) (follows.holds t below);
      off = record { there = (places_in M N f).tdo.0; tap = follows.tap; reads = follows.off };
      tdo = λ t before below reads.
          let net : ℕ = (places_in M N f).tdo.0 in
          let same : reads.there ≡ net = tap_once reads.there net (bit_net M (length N.ports + 3) 0) reads.tap follows.tap in
          let old : reading_at M (moment t) net ≡ before = ap (reading_at M (moment t)) (sym same) ∙ reads.reads in
          let shown = buffer_tells laws N M names f operand x (device_of L p seen) given events chip moment beside t (omega (arith, below)) in
          record { there = net; tap = follows.tap; reads = follows.tdo t below ∙ step (device_of L p seen) t _ _ shown _ _ old };
    }
  where
    stays_inside : (net : ℕ) → net < length L.arena.lists.nets → direction L.arena.lists.ports net ≡ None → direction M.ports net ≡ None
    stays_inside net low none =
        ap (λ (ps : List PortView). direction ps net) x.ports ∙ (laws.directions L.arena.lists names (fitted_of L p seen) laid).core net low ∙ none

    idle : (t : ℕ) → t ≤ length events → (net : ℕ) → net < length L.arena.lists.nets → direction L.arena.lists.ports net ≡ None → IsUndriven L.arena.lists net
        → (moment t).value net ≡ (chip t).value net
    idle t below net low none free =
        let N : NetlistView = L.arena.lists in
        let f : Fitted = fitted_of L p seen in
        let well = fits_well laws.stand laws.once laws.has laws.bits L p seen fits laid dense in
        let count = beside.same_events.count in
        let settled = (laws.moments M beside.start beside.there moment beside.run t (omega (arith, below, count))).settled in
        let chip_settled = run_settled (device_of L p seen) N given events chip run t below in
        let past : direction M.ports net ≡ None = stays_inside net low none in
        settled.undriven net (no_pin (direction M.ports net) past) (stays_undriven N M names f operand well x net low none free)
        ∙ sym (chip_settled.undriven net (no_pin (direction N.ports net) none) free)

    step : (B : Device) (t : ℕ) (a b : Sig) → a ≡ b → (c d : PinSig) → c ≡ d
        → tdo_step (test_logic_of B) (chip t).levels (chip (suc t)).levels (chip t).machine a c ≡ tdo_step (test_logic_of B) (chip t).levels (chip (suc t)).levels (chip t).machine b d
    step B t a b e c d g =
        ap (λ (s : Sig). tdo_step (test_logic_of B) (chip t).levels (chip (suc t)).levels (chip t).machine s c) e
        ∙ ap (λ (s : PinSig). tdo_step (test_logic_of B) (chip t).levels (chip (suc t)).levels (chip t).machine b s) g
