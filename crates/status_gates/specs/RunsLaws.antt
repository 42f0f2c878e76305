-- A surrounded core with read-only data registers has the lists and the TDO of the extended test logic, from whatever
-- the registers hold.
-- Own.
use Rattle.std.specs.Prelude.{◌≡◌, ℕ, suc, ◌≤◌, List, map, length, All}
use Rattle.signal_values.specs.Values.{bit}
use Rattle.netlist_model.specs.declared.NetId.{NetId}
use Rattle.netlist_model.specs.Lists.{NetlistView}
use Rattle.netlist_model.specs.Settled.{IsSettled}
use Rattle.netlist_model.specs.Runs.{Moment, PinEvent, IsStep, reading_at}
use Rattle.bsdl_device.specs.declared.values.Device.{Device}
use Rattle.wrapped_chip.specs.ChipRuns.{ChipEvent, ChipMoment}
use Rattle.surrounded_core.specs.Places.{Places}
use Rattle.surrounded_core.specs.Surrounds.{SurroundsBy}
use Rattle.surrounded_core.specs.Open.{FollowsChip}
use Rattle.status_gates.specs.Extended.{is_latched, list_from, tdo_from}
use Rattle.status_gates.specs.Placed.{Placed, IsCoreWire, IsPlaced, contents, held_at, shown_by, IsFree}

-- own: moments of M that follow a run of the chip, whatever led to the first
pub record Beside (M N : NetlistView) (B : Device) (S : Places) (shown : NetId) (events : List ChipEvent) (chip : ℕ → ChipMoment) (moment : ℕ → Moment) : Type 0 where
  pub around : SurroundsBy M N B S shown
  pub follows : FollowsChip M B N S shown events chip moment
  pub settled : (t : ℕ) → t ≤ length events → IsSettled M (moment t).pins (moment t).state (moment t).value
  pub steps : (t : ℕ) → suc t ≤ length events → (event : PinEvent) × IsStep M event (moment t) (moment (suc t))

-- a captured wire carries the core's value in the chip
abbrev pub WiresCarry : Type 0
WiresCarry = (M N : NetlistView) (B : Device) (S : Places) (shown : NetId) (events : List ChipEvent) (chip : ℕ → ChipMoment) (moment : ℕ → Moment)
    → Beside M N B S shown events chip moment → (net : ℕ) → IsCoreWire N S net → (t : ℕ) → t ≤ length events → (moment t).value net ≡ (chip t).value net

-- own: at each moment the register's bits are its list, where its net tells whether its opcode is latched
abbrev pub RegistersFollow : Type 0
RegistersFollow = (M N : NetlistView) (B : Device) (S : Places) (shown : NetId) (events : List ChipEvent) (chip : ℕ → ChipMoment) (moment : ℕ → Moment)
    → Beside M N B S shown events chip moment → (p : Placed) → IsPlaced M N S p
    → ((t : ℕ) → t ≤ length events → (moment t).value p.on.0 ≡ bit (is_latched p.register (chip t).machine))
    → (t : ℕ) → t ≤ length events → contents (moment t) p ≡ list_from (held_at (moment 0) p) chip t

-- own: and TDO reads as the extended test logic, where what is shown is the bit of the register that is on, else the
-- bypass bit
abbrev pub ExtendedTdoFollows : Type 0
ExtendedTdoFollows = (M N : NetlistView) (B : Device) (S : Places) (shown : NetId) (events : List ChipEvent) (chip : ℕ → ChipMoment) (moment : ℕ → Moment)
    → Beside M N B S shown events chip moment → (ps : List Placed) → All (IsPlaced M N S) ps → All (λ (p : Placed). IsFree B p.register) ps
    → All (λ (p : Placed). (t : ℕ) → t ≤ length events → (moment t).value p.on.0 ≡ bit (is_latched p.register (chip t).machine)) ps
    → ((t : ℕ) → t ≤ length events → (moment t).value shown.0 ≡ shown_by S ps (moment t))
    → (t : ℕ) → t ≤ length events → reading_at M (moment t) S.tdo.0 ≡ tdo_from (map (held_at (moment 0)) ps) B chip t
