-- A netlist that extends the open one has the device's test logic around the core, and the registers beside it.
use Rattle.std.proofs.Common.{◌≡◌, ◌≢◌, ℕ, ◌+◌, inl, inr, false, List, [], ◌∷◌, length, Some, None, refl, sym, ◌∙◌, arith}
use Rattle.std.proofs.lemmas.Option.{slice_get_within}
use Rattle.list_laws.proofs.Lists.{slice_get-append_left, slice_get-append_right}
use Rattle.list_laws.proofs.Options.{none_some}
use Rattle.list_laws.proofs.Tests.{never_true}
use Rattle.cell_library.specs.Gates.{is_three_state}
use Rattle.netlist_model.specs.declared.NetId.{NetId}
use Rattle.netlist_model.specs.declared.Feed.{Feed}
use Rattle.netlist_model.specs.declared.Feed.TheVariants.{Net}
use Rattle.netlist_model.specs.Lists.{CellView, NetlistView, cell_at, direction, Drives}
use Rattle.netlist_model.specs.Settled.{driver_of, IsSettled}
use Rattle.netlist_model.specs.Formed.{IsDriven, IsLaidOut, IsWellFormed}
use Rattle.netlist_model.specs.Contained.{IsDense}
use Rattle.netlist_model.specs.Runs.{Moment}
use Rattle.netlist_model.specs.Drivers.{DriverIsFound, DrivenIsInside}
use Rattle.netlist_link.specs.Linked.{LinkedView}
use Rattle.wrapped_chip.specs.Beside.{HasPins}
use Rattle.plan_texts.specs.declared.plan.Plan.{Plan}
use Rattle.plan_fitting.specs.declared.fitted.Fitted.{Fitted}
use Rattle.plan_fitting.specs.Pins.{PinSeen}
use Rattle.plan_fitting.specs.Devices.{fitted_of, device_of}
use Rattle.plan_fitting.specs.FittingPlan.{IsFitting}
use Rattle.plan_fitting.proofs.PlanBits.{plans_have_bits}
use Rattle.stitched_netlist.specs.declared.model.TapNames.{TapNames}
use Rattle.stitched_netlist.specs.ModelLogic.{bypass_at}
use Rattle.stitched_netlist.specs.Stitched.{first_net, stitched_cells_by, stitched_cells, stitched}
use Rattle.stitched_netlist.specs.Places.{ExtendsStitched, ExtensionIsBuiltIn}
use Rattle.stitched_netlist.proofs.PlacesLaws.{listed_at}
use Rattle.stitched_netlist.specs.InsidePlaces.{places_in}
use Rattle.stitched_netlist.specs.InsideLaws.{BuiltInSurrounds}
use Rattle.stitched_netlist.specs.RanksLaws.{StitchedHasPins}
use Rattle.surrounded_core.specs.Surrounds.{SurroundsBy}
use Rattle.status_fitting.specs.declared.fitted.FittedRegister.{FittedRegister}
use Rattle.status_gates.specs.Placed.{IsCoreWire}
use Rattle.status_gates.specs.PartsLaws.{status_of}
use Rattle.status_gates.specs.Stands.{FitsBeside, HoldsRegisters}
use Rattle.status_gates.proofs.Each.{each_so}
use Rattle.open_stitch.specs.RunsLaws.{DrivenWiresStay, PinsByPorts}
use Rattle.open_stitch.proofs.Connected.{opened_length}
use Rattle.open_stitch.specs.Open.{through_number, through_net, through_cell, open_cells, stitched_open}
use Rattle.open_stitch.specs.Runs.{Extends}
use Rattle.status_stitch.specs.Stands.{IsDrivenWire, IsOwn, status_shown, parts_of, HasStatus}
use Rattle.status_stitch.proofs.Free.{is_free}

pub record BuiltLaws : Type 0 where
  pub built : ExtensionIsBuiltIn
  pub around : BuiltInSurrounds
  pub by_ports : PinsByPorts
  pub pins : StitchedHasPins
  pub stay : DrivenWiresStay
  pub found : DriverIsFound
  pub inside : DrivenIsInside

-- The cells of the open netlist.

-- the bypass bit's buffer, as the open netlist has it
abbrev plain_buffer : NetlistView → Fitted → CellView
plain_buffer N f = through_cell N f (Net (bypass_at (first_net N f) f))

-- those of the stitched netlist, where TDO's take the buffer's net
extends_by : (N M : NetlistView) (names : TapNames) (f : Fitted) (operand : Feed) → Extends (stitched_open N names f) M (through_number N f) operand
    → ExtendsStitched M N names f (through_net N f)
extends_by N M names f operand x = record {
  library = x.library;
  ports = x.ports;
  cells = λ k cell at.
      let all : List CellView = stitched_cells_by (through_net N f) N f in
      let within = slice_get_within all k cell at in
      let long = opened_length N f (through_net N f) in
      let number : through_number N f ≡ length (stitched_cells N f) = refl in
      let apart : k ≢ through_number N f = λ e. absurd (omega (arith, within, long, number, e)) in
      x.cells k cell apart (listed_at (open_cells N f) k ∙ slice_get-append_left all (plain_buffer N f ∷ []) k within ∙ at);
}

-- and the buffer, with what it reads
buffer_is : (N M : NetlistView) (names : TapNames) (f : Fitted) (operand : Feed) → Extends (stitched_open N names f) M (through_number N f) operand
    → cell_at M (through_number N f) ≡ Some (through_cell N f operand)
buffer_is N M names f operand x =
    let all : List CellView = stitched_cells_by (through_net N f) N f in
    let k : ℕ = through_number N f in
    let long = opened_length N f (through_net N f) in
    let number : k ≡ length (stitched_cells N f) = refl in
    let is : k ≡ length all + 0 = omega (arith, long, number) in
    x.buffer (plain_buffer N f) (listed_at (open_cells N f) k ∙ slice_get-append_right all (plain_buffer N f ∷ []) k 0 is)

-- its net has the value of what it reads
buffer_tells : DrivenIsInside → (N M : NetlistView) (names : TapNames) (f : Fitted) (read : NetId) → Extends (stitched_open N names f) M (through_number N f) (Net read) → (m : Moment)
    → IsSettled M m.pins m.state m.value → m.value (through_net N f).0 ≡ m.value read.0
buffer_tells inside N M names f read x m settled =
    let k : ℕ = through_number N f in
    let cell : CellView = through_cell N f (Net read) in
    let net : ℕ = (through_net N f).0 in
    let drives : Drives M k cell net = record { live = buffer_is N M names f (Net read) x; output = refl } in
    settled.cells k cell net drives (inside M x.formed k cell net drives refl)

-- The core and its wires.

pub surrounds : BuiltLaws → (L : LinkedView) (p : Plan) (seen : List PinSeen) (names : TapNames) (M : NetlistView) (operand : Feed) → IsFitting L p seen → IsLaidOut L.arena.lists → IsDense L.arena.lists
    → Extends (stitched_open L.arena.lists names (fitted_of L p seen)) M (through_number L.arena.lists (fitted_of L p seen)) operand
    → SurroundsBy M L.arena.lists (device_of L p seen) (places_in M L.arena.lists (fitted_of L p seen)) (through_net L.arena.lists (fitted_of L p seen))
surrounds laws L p seen names M operand fits laid dense x =
    let N : NetlistView = L.arena.lists in
    let f : Fitted = fitted_of L p seen in
    let pins : HasPins M N = laws.by_ports M (stitched N names f) N x.ports (laws.pins N names f laid) in
    laws.around L p seen names M (through_net N f) fits laid (laws.built M N names f (through_net N f) dense (extends_by N M names f operand x)) x.formed pins

plain_driver : (N : NetlistView) → IsWellFormed N → (i : ℕ) (cell : CellView) (net : ℕ) → direction N.ports net ≡ None → Drives N i cell net → is_three_state cell.kind ≡ false
plain_driver N formed i cell net none drives =
    never_true (is_three_state cell.kind)
    (λ e. elim (formed.bufif_outside i cell net drives e) [ inl out ↦ none_some (sym none ∙ out) | inr out ↦ none_some (sym none ∙ out) ])

core_wire : BuiltLaws → (L : LinkedView) (p : Plan) (seen : List PinSeen) (names : TapNames) (M : NetlistView) → IsFitting L p seen
    → ExtendsStitched M L.arena.lists names (fitted_of L p seen) (through_net L.arena.lists (fitted_of L p seen)) → (net : ℕ) → IsDrivenWire L.arena.lists net
    → IsCoreWire L.arena.lists (places_in M L.arena.lists (fitted_of L p seen)) net
core_wire laws L p seen names M fits extends net wire =
    let N : NetlistView = L.arena.lists in
    let driven : IsDriven N net = wire.1 in
    let found : driver_of N.cells net ≡ Some driven.cell = laws.found N fits.formed.one_driver driven.number driven.cell net driven.drives in
    laws.stay L p seen names M (through_net N (fitted_of L p seen)) fits extends net driven.cell wire.0 found
    (plain_driver N fits.formed driven.number driven.cell net wire.0 driven.drives)

-- The registers.

pub fits_beside : BuiltLaws → (L : LinkedView) (p : Plan) (seen : List PinSeen) (names : TapNames) (M : NetlistView) → IsFitting L p seen
    → ExtendsStitched M L.arena.lists names (fitted_of L p seen) (through_net L.arena.lists (fitted_of L p seen)) → (r : FittedRegister) → IsOwn L.arena.lists (device_of L p seen) r
    → FitsBeside L.arena.lists (device_of L p seen) (places_in M L.arena.lists (fitted_of L p seen)) (status_of r)
fits_beside laws L p seen names M fits extends r own =
    let N : NetlistView = L.arena.lists in
    record {
      long = own.long;
      free = is_free p.opcodes r.register.bits (plans_have_bits p fits.spelled).values own.small own.free;
      some = own.some;
      wires = each_so (λ (net : NetId). IsDrivenWire N net.0) (λ (net : NetId). IsCoreWire N (places_in M N (fitted_of L p seen)) net.0)
          (λ net wire. core_wire laws L p seen names M fits extends net.0 wire) r.nets own.wires;
    }

-- own: what the law of a surrounded core asks for
pub record Surrounded (L : LinkedView) (p : Plan) (seen : List PinSeen) (names : TapNames) (M : NetlistView) (first number : ℕ) (registers : List FittedRegister) : Type 0 where
  pub around : SurroundsBy M L.arena.lists (device_of L p seen) (places_in M L.arena.lists (fitted_of L p seen)) (through_net L.arena.lists (fitted_of L p seen))
  pub holds : HoldsRegisters M (places_in M L.arena.lists (fitted_of L p seen)) (through_net L.arena.lists (fitted_of L p seen)) first number registers
  pub extends : ExtendsStitched M L.arena.lists names (fitted_of L p seen) (through_net L.arena.lists (fitted_of L p seen))

pub surrounded : BuiltLaws → (L : LinkedView) (p : Plan) (seen : List PinSeen) (names : TapNames) (M : NetlistView) (registers : List FittedRegister) → IsFitting L p seen → IsLaidOut L.arena.lists
    → IsDense L.arena.lists → (has : HasStatus L p seen names M registers) → Surrounded L p seen names M has.first has.number registers
surrounded laws L p seen names M registers fits laid dense has =
    let N : NetlistView = L.arena.lists in
    let f : Fitted = fitted_of L p seen in
    let read : NetId = status_shown (parts_of L p seen) p.length has.first registers in
    record {
      around = surrounds laws L p seen names M (Net read) fits laid dense has.extends;
      holds = record {
        inverses = has.holds.inverses;
        gates = has.holds.gates;
        shows = λ m settled. buffer_tells laws.inside N M names f read has.extends m settled;
      };
      extends = extends_by N M names f (Net read) has.extends;
    }
