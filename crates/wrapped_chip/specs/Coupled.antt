-- Boxes that answer what their inputs read by events at their outputs, around a chip and around a netlist.
-- Own.
use Rattle.std.specs.Prelude.{◌≡◌, ◌≤◌, ℕ, zero, suc, Bool, true, false, List, [], ◌∷◌, length, slice_get, Some, if◌then◌else◌}
use Rattle.signal_values.specs.declared.Sig.{Sig}
use Rattle.signal_values.specs.declared.PinSig.{PinSig}
use Rattle.signal_values.specs.declared.PinSig.TheVariants.{HighZ}
use Rattle.netlist_model.specs.Lists.{NetlistView}
use Rattle.netlist_model.specs.Runs.{Moment}
use Rattle.test_logic.specs.bsdl_device.declared.values.Device.{Device}
use Rattle.wrapped_chip.specs.Cells.{chip_reading}
use Rattle.wrapped_chip.specs.ChipRuns.{ChipMoment, ChipEvent, IsChipRun}
use Rattle.wrapped_chip.specs.Suits.{IsRead}
use Rattle.wrapped_chip.specs.Realises.{SameBit, ReadsBit, IsRunBeside, RealisesBy}

-- what boxes allow as the next event, by what their inputs have read up to now, the latest first
abbrev pub Rule : Type 0
Rule = List (ℕ → PinSig) → ChipEvent → Bool

-- what boxes see of the chip: the bits that pass the test, and z at others
abbrev pub chip_seen : (ℕ → Bool) → Device → NetlistView → ChipMoment → ℕ → PinSig
chip_seen sees B N w net = if sees net then chip_reading B N w.machine w.pins w.value net else HighZ

-- the netlist shows them the same
pub record Shows (M N : NetlistView) (sees : ℕ → Bool) (m : Moment) (seen : ℕ → PinSig) : Type 0 where
  pub bits : (net : ℕ) → sees net ≡ true → ReadsBit M N m net (seen net)
  pub others : (net : ℕ) → sees net ≡ false → seen net ≡ HighZ

-- what was seen up to a moment, the latest first
abbrev pub seen_up_to : (ℕ → ℕ → PinSig) → ℕ → List (ℕ → PinSig)
seen_up_to seen zero = seen 0 ∷ []
seen_up_to seen (suc t) = seen (suc t) ∷ seen_up_to seen t

-- each event is one that the boxes allow
abbrev pub IsCoupled : Rule → (ℕ → ℕ → PinSig) → List ChipEvent → Type 0
IsCoupled allows seen events = (t : ℕ) (event : ChipEvent) → slice_get events t ≡ Some event → allows (seen_up_to seen t) event ≡ true

-- the boxes see output and inout bits, each of which is one bit there
pub record CanSee (M N : NetlistView) (sees : ℕ → Bool) : Type 0 where
  pub reads : (net : ℕ) → sees net ≡ true → IsRead N net
  pub once : (net one other : ℕ) → sees net ≡ true → SameBit M N net one → SameBit M N net other → one ≡ other

-- what they allow around the chip they allow around the netlist
abbrev pub CoupledThere : Type 0
CoupledThere = (M : NetlistView) (B : Device) (N : NetlistView) (tdo : (ℕ → ChipMoment) → ℕ → PinSig) → RealisesBy M B N tdo → (sees : ℕ → Bool) → CanSee M N sees → (allows : Rule)
    (given : ℕ → Sig) (events : List ChipEvent) (chip : ℕ → ChipMoment) (moment : ℕ → Moment) → IsChipRun B N given events chip → IsRunBeside M B N given events chip moment
    → IsCoupled allows (λ t. chip_seen sees B N (chip t)) events
    → (seen : ℕ → ℕ → PinSig) × ((t : ℕ) → t ≤ length events → Shows M N sees (moment t) (seen t)) × IsCoupled allows seen events

-- and the other way round
abbrev pub CoupledHere : Type 0
CoupledHere = (M : NetlistView) (B : Device) (N : NetlistView) (tdo : (ℕ → ChipMoment) → ℕ → PinSig) → RealisesBy M B N tdo → (sees : ℕ → Bool) → CanSee M N sees → (allows : Rule)
    (given : ℕ → Sig) (events : List ChipEvent) (chip : ℕ → ChipMoment) (moment : ℕ → Moment) → IsChipRun B N given events chip → IsRunBeside M B N given events chip moment
    → (seen : ℕ → ℕ → PinSig) → ((t : ℕ) → t ≤ length events → Shows M N sees (moment t) (seen t)) → IsCoupled allows seen events
    → IsCoupled allows (λ t. chip_seen sees B N (chip t)) events
