-- The wrapped chip's rule is causal.
use Rattle.std.proofs.Common.{◌≡◌, ◌⊎◌, ℕ, suc, ◌<◌, true, List, [], ◌∷◌, refl, ap, ◌∙◌, Option, Some, None, inl, inr}
use Rattle.std.specs.Option.{option_map}
use Rattle.signal_values.specs.declared.Sig.{Sig}
use Rattle.signal_values.specs.declared.PinSig.{PinSig}
use Rattle.signal_values.specs.Values.{see}
use Rattle.cell_library.specs.Gates.{is_three_state, operand}
use Rattle.netlist_model.specs.declared.Dir.TheVariants.{Input}
use Rattle.netlist_model.specs.Lists.{CellView, NetlistView, Drives, direction}
use Rattle.netlist_model.specs.Settled.{driver_of, feed_values, follows_pin}
use Rattle.netlist_model.specs.Formed.{IsNumbered, IsWellFormed}
use Rattle.netlist_model.proofs.Search.{Found, output_or_not}
use Rattle.netlist_model.proofs.Once.{feeds_below_at, feed_values_same}
use Rattle.netlist_model.proofs.KindLaws.{three_state_gate}
use Rattle.netlist_model.proofs.Pins.{pin_kinds}
use Rattle.test_logic.specs.Machine.{Machine, in_effect, test_logic_of, update_of}
use Rattle.test_logic.specs.Instructions.{mode_of}
use Rattle.test_logic.specs.Rows.{CellAt, ControlAt, into_core}
use Rattle.test_logic.specs.bsdl_device.declared.values.Disable.{Disable}
use Rattle.test_logic.specs.bsdl_device.declared.values.Device.{Device}
use Rattle.wrapped_chip.specs.Cells.{core_datum, core_control, control_at, Numbered, into_by, row_of, chip_rule}
use Rattle.netlist_model.specs.Settle.{IsCausal}

-- the first cell that drives the net, or none is found
search : (places : List (Option CellView)) (net : ℕ) → Found places net ⊎ (driver_of places net ≡ None)
search [] net = inr refl
search (None ∷ places) net =
    elim (search places net) [
      | inl f ↦ inl (record { number = suc f.number; cell = f.cell; live = f.live; output = f.output; first = f.first })
      | inr e ↦ inr e
    ]
search (Some c ∷ places) net =
    elim (output_or_not c.output net) [
      | inl h ↦ inl (record { number = 0; cell = c; live = refl; output = h.1; first = rw h.0 refl })
      | inr h ↦ elim (search places net) [
        | inl f ↦ inl (record { number = suc f.number; cell = f.cell; live = f.live; output = f.output; first = rw h.0 f.first })
        | inr e ↦ inr (rw h.0 e)
      ]
    ]

-- before a pin's net the core has the same, where nets with smaller numbers have
record SameCore (driver : Option CellView) (v v' : ℕ → Sig) (net : ℕ) : Type 0 where
  datum : core_datum driver v net ≡ core_datum driver v' net
  control : core_control driver v ≡ core_control driver v'

by_three_state : (cell : CellView) (v v' : ℕ → Sig) (net : ℕ) → is_three_state cell.kind ≡ true → feed_values v cell.feeds ≡ feed_values v' cell.feeds
    → SameCore (Some cell) v v' net
by_three_state cell v v' net three same = record {
  datum = rw three (ap (λ xs. operand xs 0) same);
  control = rw three (ap (λ xs. operand xs 1) same);
}

nothing_drives : (driver : Option CellView) (v v' : ℕ → Sig) (net : ℕ) → driver ≡ None → SameCore driver v v' net
nothing_drives driver v v' net e = record { datum = rw e refl; control = rw e refl }

bufif_drives : (driver : Option CellView) (cell : CellView) (v v' : ℕ → Sig) (net : ℕ) → driver ≡ Some cell → SameCore (Some cell) v v' net → SameCore driver v v' net
bufif_drives driver cell v v' net e h = record { datum = rw e h.datum; control = rw e h.control }

same_core : (N : NetlistView) (rank : ℕ → ℕ) (net : ℕ) (v v' : ℕ → Sig) → IsWellFormed N → IsNumbered N rank → follows_pin (direction N.ports net) ≡ true
    → ((other : ℕ) → rank other < rank net → v other ≡ v' other) → SameCore (driver_of N.cells net) v v' net
same_core N rank net v v' formed numbered g same =
    elim (search N.cells net) [
      | inr none ↦ nothing_drives (driver_of N.cells net) v v' net none
      | inl found ↦ (
          let drives : Drives N found.number found.cell net = record { live = found.live; output = found.output } in
          elim (pin_kinds (direction N.ports net) g) [
            | inl e ↦ absurd (formed.inputs_free found.number found.cell net drives e)
            | inr e ↦ (
                let three = formed.inout_bufif found.number found.cell net drives e in
                let below = numbered.gates found.number found.cell net drives (three_state_gate N.library found.cell.kind three) in
                bufif_drives (driver_of N.cells net) found.cell v v' net found.first (by_three_state found.cell v v' net three
                (feed_values_same v v' found.cell.feeds (λ k other at. same other (feeds_below_at rank found.cell.feeds (rank net) k other below at)))))
          ])
    ]

control_same : (N : NetlistView) (m : Machine) (v v' : ℕ → Sig) (net : ℕ) (disable : Option Disable) → SameCore (driver_of N.cells net) v v' net
    → option_map (control_at N m v net) disable ≡ option_map (control_at N m v' net) disable
control_same N m v v' net None h = refl
control_same N m v v' net (Some d) h =
    let at : Sig → Option ControlAt = λ core. Some (record { disable = d.value; upd = update_of m d.control; core = core }) in ap at h.control

into_same : (B : Device) (N : NetlistView) (m : Machine) (pins : ℕ → PinSig) (v v' : ℕ → Sig) (net : ℕ) (r : Option Numbered) → SameCore (driver_of N.cells net) v v' net
    → into_by B N m pins v net r ≡ into_by B N m pins v' net r
into_same B N m pins v v' net None h = refl
into_same B N m pins v v' net (Some r) h =
    let controls = control_same N m v v' net r.row.disable h in
    let into : CellAt → Sig = λ c. into_core r.row.cell r.row.function (mode_of (in_effect (test_logic_of B) m)) c in
    let at : Sig → Option ControlAt → CellAt = λ core control. record { upd = update_of m r.number; core = core; control = control; outside = pins net } in
    ap (λ core. into (at core (option_map (control_at N m v net) r.row.disable))) h.datum
    ∙ ap (λ control. into (at (core_datum (driver_of N.cells net) v' net) control)) controls

-- under other pins, where this one has the same
pins_same : (B : Device) (N : NetlistView) (m : Machine) (pins pins' : ℕ → PinSig) (v : ℕ → Sig) (net : ℕ) (r : Option Numbered) → pins net ≡ pins' net
    → into_by B N m pins v net r ≡ into_by B N m pins' v net r
pins_same B N m pins pins' v net None e = ap see e
pins_same B N m pins pins' v net (Some r) e =
    let into : PinSig → Sig = λ p. into_core r.row.cell r.row.function (mode_of (in_effect (test_logic_of B) m))
    (record { upd = update_of m r.number; core = core_datum (driver_of N.cells net) v net; control = option_map (control_at N m v net) r.row.disable; outside = p }) in
    ap into e

pub chip_rule_same : (B : Device) (N : NetlistView) (rank : ℕ → ℕ) (m : Machine) (pins pins' : ℕ → PinSig) (v v' : ℕ → Sig) (net : ℕ) → IsWellFormed N → IsNumbered N rank
    → follows_pin (direction N.ports net) ≡ true → pins net ≡ pins' net → ((other : ℕ) → rank other < rank net → v other ≡ v' other)
    → chip_rule B N m pins v net ≡ chip_rule B N m pins' v' net
chip_rule_same B N rank m pins pins' v v' net formed numbered g p same =
    into_same B N m pins v v' net (row_of B N net) (same_core N rank net v v' formed numbered g same) ∙ pins_same B N m pins pins' v' net (row_of B N net) p

-- at an input bit the core has no say
pub input_rule_same : (B : Device) (N : NetlistView) (m : Machine) (pins pins' : ℕ → PinSig) (v v' : ℕ → Sig) (net : ℕ) → IsWellFormed N → direction N.ports net ≡ Some Input
    → pins net ≡ pins' net → chip_rule B N m pins v net ≡ chip_rule B N m pins' v' net
input_rule_same B N m pins pins' v v' net formed input p =
    into_same B N m pins v v' net (row_of B N net)
    (elim (search N.cells net) [
      | inr none ↦ nothing_drives (driver_of N.cells net) v v' net none
      | inl found ↦ absurd (formed.inputs_free found.number found.cell net (record { live = found.live; output = found.output }) input)
    ])
    ∙ pins_same B N m pins pins' v' net (row_of B N net) p

-- what goes into the core at a pin's net hangs on nets with smaller numbers alone
pub chip_causal : (B : Device) (N : NetlistView) (rank : ℕ → ℕ) (m : Machine) (pins : ℕ → PinSig) → IsWellFormed N → IsNumbered N rank → IsCausal N rank (chip_rule B N m pins)
chip_causal B N rank m pins formed numbered = record { below = λ net g v v' same. chip_rule_same B N rank m pins pins v v' net formed numbered g refl same }
