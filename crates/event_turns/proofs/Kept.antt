-- What the driver of a net gives it, and what its bit then reads.
use Rattle.std.proofs.Common.{◌≡◌, ◌≢◌, ℕ, ◌-◌, ◌<◌, length, get_or, Option, Some, None, refl, sym, ap, ◌∙◌, arith, slice_index, if◌then◌else◌}
use Rattle.std.specs.Option.{option_map}
use Rattle.std.specs.Prelude.{slice_get}
use Rattle.std.proofs.lemmas.Option.{get_or_from_slice_get, slice_get-get_or}
use Rattle.signal_values.specs.declared.Sig.{Sig}
use Rattle.signal_values.specs.declared.PinSig.{PinSig}
use Rattle.signal_values.specs.Values.{pin_of}
use Rattle.cell_library.specs.declared.Kind.{Kind}
use Rattle.cell_library.specs.Gates.{is_three_state}
use Rattle.netlist_model.specs.Lists.{CellView}
use Rattle.netlist_model.specs.Settled.{driver_of}
use Rattle.netlist_model.specs.Drivers.{IsDriverOf}
use Rattle.netlist_model.proofs.Inside.{driver_drives}
use Rattle.event_laws.specs.Work.{kept_drive}
use Rattle.event_turns.specs.declared.circuit.Gate.{Gate}
use Rattle.event_turns.specs.Circuits.{CircuitView, IsCircuit, place_of, turn_at}

pub kept_some : (found : Option CellView) (kind : Kind) (value : ℕ → Sig) (drive : ℕ → PinSig) (net : ℕ) → Some kind ≡ option_map (λ (cell : CellView). cell.kind) found
    → (if is_three_state kind then drive net else pin_of (value net)) ≡ kept_drive found value drive net
kept_some None kind value drive net is = absurd (cc)
kept_some (Some cell) kind value drive net is = let same : cell.kind ≡ kind = cc in rw same refl

pub kept_none : (found : Option CellView) (value : ℕ → Sig) (drive : ℕ → PinSig) (net : ℕ) → None ≡ option_map (λ (cell : CellView). cell.kind) found
    → pin_of (value net) ≡ kept_drive found value drive net
kept_none None value drive net is = refl
kept_none (Some cell) value drive net is = absurd (let no : None ≡ Some cell.kind = is in cc)

-- no driver, where the table has none
pub undriven_kind : (c : CircuitView) (net : ℕ) → IsCircuit c → slice_index c.firsts net ≡ 0 → None ≡ option_map (λ (cell : CellView). cell.kind) (driver_of c.lists.cells net)
undriven_kind c net is none = go (driver_of c.lists.cells net) (driver_drives c.lists net)
  where
    go : (found : Option CellView) → IsDriverOf c.lists net found → None ≡ option_map (λ (cell : CellView). cell.kind) found
    go None driver = refl
    go (Some cell) driver = absurd (let first = is.firsts.driven driver.0 cell net driver.1 in omega arith)

-- the gate in the place of the turn before
pub record IsDriverGate (c : CircuitView) (net : ℕ) : Type 0 where
  pub gate : Gate
  pub cell : CellView
  pub there : slice_get c.gates (place_of (length c.gates) (slice_index c.firsts net - 1)) ≡ Some gate
  pub found : driver_of c.lists.cells net ≡ Some cell
  pub kind_is : gate.kind ≡ cell.kind

pub driver_gate : (c : CircuitView) (net : ℕ) → IsCircuit c → slice_index c.firsts net ≢ 0 → IsDriverGate c net
driver_gate c net is some = go (driver_of c.lists.cells net) refl (driver_drives c.lists net)
  where
    go : (found : Option CellView) → driver_of c.lists.cells net ≡ found → IsDriverOf c.lists net found → IsDriverGate c net
    go None at driver = absurd (some (is.firsts.undriven net driver))
    go (Some cell) at driver =
        let first = is.firsts.driven driver.0 cell net driver.1 in
        let stands = is.gates driver.0 cell driver.1.live in
        let before : slice_index c.firsts net - 1 ≡ turn_at c.turns driver.0 = omega arith in
        record {
          gate = stands.gate;
          cell = cell;
          found = at;
          kind_is = stands.is_of.kind_is;
          there = ap (λ (t : ℕ). slice_get c.gates (place_of (length c.gates) t)) before ∙ stands.there;
        }

-- the kind of the gate that was looked up there
pub kind_found : (c : CircuitView) (net : ℕ) (driver : IsDriverGate c net) (place : ℕ) (gate : Gate) → place ≡ place_of (length c.gates) (slice_index c.firsts net - 1) → gate ≡ get_or c.gates place gate
    → Some gate.kind ≡ option_map (λ (cell : CellView). cell.kind) (driver_of c.lists.cells net)
kind_found c net driver place gate e at =
    let same : gate ≡ driver.gate = at ∙ get_or_from_slice_get c.gates place driver.gate gate (ap (slice_get c.gates) e ∙ driver.there) in
    let kind : gate.kind ≡ driver.cell.kind = ap (λ (g : Gate). g.kind) same ∙ driver.kind_is in
    rw (driver.found, kind) refl

-- a turn that was looked up
pub first_is : (c : CircuitView) (net first : ℕ) → IsCircuit c → net < length c.lists.nets → first ≡ get_or c.firsts net first → slice_index c.firsts net ≡ first
first_is c net first is below at =
    let long = is.firsts.long in
    get_or_from_slice_get c.firsts net first 0 (slice_get-get_or c.firsts net first (omega arith) ∙ ap (λ (n : ℕ). Some n) (sym at))
