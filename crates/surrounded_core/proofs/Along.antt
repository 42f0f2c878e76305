-- Each course of a surrounded core from a moment at which its parts hold a machine is a run of the chip from that machine, and reads as it.
use Rattle.std.proofs.Common.{◌≡◌, ℕ, zero, suc, ◌<◌, ◌≤◌, List, [], ◌∷◌, length, refl, ap, sym, ◌∙◌, arith}
use Rattle.std.proofs.lemmas.Option.{slice_get_within}
use Rattle.list_laws.proofs.Lists.{slice_get_there}
use Rattle.signal_values.specs.declared.Sig.{Sig}
use Rattle.signal_values.specs.declared.PinSig.{PinSig}
use Rattle.signal_values.specs.declared.PinSig.TheVariants.{HighZ}
use Rattle.netlist_model.specs.declared.NetId.{NetId}
use Rattle.netlist_model.specs.Runs.{reading_at}
use Rattle.bsdl_device.specs.Instructions.{selected_register}
use Rattle.bsdl_device.specs.declared.entries.Register.{Register}
use Rattle.bsdl_device.specs.declared.entries.Register.TheVariants as register
use Rattle.test_logic.specs.declared.Levels.{Levels}
use Rattle.test_logic.specs.Registers.{first_bit, tdo_after}
use Rattle.test_logic.specs.Machine.{Machine, in_effect, bit_of}
use Rattle.register_gates.specs.BitsLaws.{bit_after}
use Rattle.register_gates.specs.Tdo.{data_bit, Presents, TdoLaws, tdo_given_by}
use Rattle.boundary_cells.specs.MachineRows.{bit_at}
use Rattle.wrapped_chip.specs.Cells.{chip_reading}
use Rattle.wrapped_chip.specs.ChipRuns.{ChipMoment}
use Rattle.wrapped_chip.specs.Home.{IsChipRunFrom}
use Rattle.wrapped_chip.specs.Realises.{ReadsAsChip, ReadsBit}
use Rattle.wrapped_chip.specs.Suits.{IsRead}
use Rattle.surrounded_core.specs.Places.{controller_nets, selection_nets, ident_bit}
use Rattle.surrounded_core.specs.Open.{shown_bit, tdo_step}
use Rattle.surrounded_core.proofs.Parts.{RunLaws, Scene, logic, levels_at, core_at, machine_at, caught_at, next_at, settled_at, carried, state_shown, instruction_followed, selected, ident_nearest}
use Rattle.surrounded_core.proofs.Held.{held_always, stands_then, bit_kept}
use Rattle.surrounded_core.proofs.Stands.{read_direction}

-- The moments of M, seen as a run of the chip.

abbrev pub seen_at : Scene → ℕ → ChipMoment
seen_at r t = record { levels = levels_at r t; pins = (r.outside t).pins; machine = machine_at r t; state = (r.moment t).state; value = core_at r t }

pub is_chip_run : RunLaws → (r : Scene) → IsChipRunFrom r.begun r.device r.inner r.given r.events (seen_at r)
is_chip_run by r =
    let S = r.places in
    let core = r.around.core in
    let formed = r.around.core_formed in record {
      machine = refl;
      controls = r.is_outside.controls;
      settled = (stands_then by r 0 (omega arith) (held_always by r 0 (omega arith))).settled;
      flops = by.starts r.inner r.outer S.to (λ i. i) r.given (r.moment 0).value (r.moment 0).state formed core r.rests;
      steps = λ t event at.
          let within : t < length r.events = slice_get_within r.events t event at in
          let after : suc t ≤ length r.events = omega arith in
          let next = next_at r t after in record {
            legal = r.is_outside.legal t event at;
            levels = r.is_outside.levels t event at;
            pins = r.is_outside.pins t event at;
            machine = refl;
            settled = (stands_then by r (suc t) after (held_always by r (suc t) after)).settled;
            flops = by.steps r.inner r.outer S.to (λ i. i) (r.moment t).value (r.moment (suc t)).value (r.moment t).state (r.moment (suc t)).state formed core next.1.flops;
          };
    }

-- TDO.

first_is : (bits : List Sig) → first_bit bits ≡ bit_at bits 0
first_is [] = refl
first_is (b ∷ bits) = refl

boundary_nearest : RunLaws → (r : Scene) (t : ℕ) → t ≤ length r.events → (r.moment t).value r.places.nearest.0 ≡ first_bit (machine_at r t).boundary
boundary_nearest by r t below =
    let row = slice_get_there r.device.cells 0 r.around.rows.some in
    ap (λ (n : NetId). (r.moment t).value n.0) r.around.rows.nearest ∙ (held_always by r t below 0 row.0 row.1).shift ∙ sym (first_is (machine_at r t).boundary)

-- what is handed in shows the bit of the register that is selected, with what is shown in the place of the bypass bit
shown_by : RunLaws → (r : Scene) (t : ℕ) → t ≤ length r.events → (of : Register) → selected_register (in_effect (logic r) (machine_at r t)) ≡ of
    → data_bit of r.shown (ident_bit r.places) r.places.nearest (r.moment t) ≡ shown_bit of ((r.moment t).value r.shown.0) (machine_at r t)
shown_by by r t below register.Boundary is = boundary_nearest by r t below
shown_by by r t below register.Bypass is = refl
shown_by by r t below register.DeviceId is = ident_nearest by r t below is

presents : RunLaws → (r : Scene) (t : ℕ) → t ≤ length r.events
    → Presents (controller_nets r.places) (selection_nets r.places) r.shown (ident_bit r.places) r.places.nearest (levels_at r t) (machine_at r t).state
    (selected_register (in_effect (logic r) (machine_at r t)))
    (shown_bit (selected_register (in_effect (logic r) (machine_at r t))) ((r.moment t).value r.shown.0) (machine_at r t)) (first_bit (machine_at r t).shift) (r.moment t)
presents by r t below = let s = selected by r t below in record {
  carries = carried r t below;
  shows = state_shown by r t below;
  bypass_on = s.bypass_on;
  ident_on = s.ident_on;
  nearest = shown_by by r t below (selected_register (in_effect (logic r) (machine_at r t))) refl;
  last = (instruction_followed by r t below).last;
}

tdo_laws : RunLaws → (r : Scene)
    → TdoLaws r.places.driver r.places.driver_number (controller_nets r.places) (selection_nets r.places) r.shown (ident_bit r.places) r.places.nearest r.places.tdo
tdo_laws by r =
    let S = r.places in by.tdo S.driver S.driver_number (controller_nets S) (selection_nets S) r.shown (ident_bit S) S.nearest S.tdo

tdo_read : RunLaws → (r : Scene) (t : ℕ) → reading_at r.outer (r.moment t) r.places.tdo.0 ≡ tdo_given_by r.places.driver (r.moment t)
tdo_read by r t = (tdo_laws by r).reads r.outer (r.moment t) r.around.formed r.around.registers.tdo r.around.ports.tdo_side

pub tdo_begins : RunLaws → (r : Scene) → reading_at r.outer (r.moment 0) r.places.tdo.0 ≡ r.begun.tdo
tdo_begins by r = tdo_read by r 0 ∙ r.holds.tdo

pub tdo_moves : RunLaws → (r : Scene) (t : ℕ) → suc t ≤ length r.events
    → reading_at r.outer (r.moment (suc t)) r.places.tdo.0
    ≡ tdo_step (logic r) (levels_at r t) (levels_at r (suc t)) (machine_at r t) ((r.moment t).value r.shown.0) (reading_at r.outer (r.moment t) r.places.tdo.0)
tdo_moves by r t below =
    let before : t ≤ length r.events = omega arith in
    let next = next_at r t below in
    let a : Levels = levels_at r t in
    let b : Levels = levels_at r (suc t) in
    let machine : Machine = machine_at r t in
    let of : Register = selected_register (in_effect (logic r) machine) in
    let near : Sig = shown_bit of ((r.moment t).value r.shown.0) machine in
    tdo_read by r (suc t)
    ∙ (tdo_laws by r).step r.outer next.0 machine.state of near (first_bit machine.shift) a b (r.moment t) (r.moment (suc t)) r.around.formed r.around.registers.tdo
    (settled_at r t before) next.1 (presents by r t before) (carried r (suc t) below)
    ∙ ap (λ (x : PinSig). bit_after a b HighZ x (tdo_after machine.state near (first_bit machine.shift)) x) (sym (tdo_read by r t))

-- Where the bypass bit itself is shown TDO is the test logic's.

abbrev pub ShowsBypass : Scene → Type 0
ShowsBypass r = (t : ℕ) → t ≤ length r.events → (r.moment t).value r.shown.0 ≡ (machine_at r t).bypass

bit_shown : (of : Register) (shown : Sig) (m : Machine) → shown ≡ m.bypass → shown_bit of shown m ≡ bit_of of m
bit_shown register.Boundary shown m e = refl
bit_shown register.Bypass shown m e = e
bit_shown register.DeviceId shown m e = refl

tdo_closed : RunLaws → (r : Scene) → ShowsBypass r → (t : ℕ) → t ≤ length r.events → reading_at r.outer (r.moment t) r.places.tdo.0 ≡ (machine_at r t).tdo
tdo_closed by r closed zero below = tdo_begins by r
tdo_closed by r closed (suc t) below =
    let before : t ≤ length r.events = omega arith in
    let a : Levels = levels_at r t in
    let b : Levels = levels_at r (suc t) in
    let machine : Machine = machine_at r t in
    let of : Register = selected_register (in_effect (logic r) machine) in
    let shown : Sig = (r.moment t).value r.shown.0 in
    tdo_moves by r t below
    ∙ ap (tdo_step (logic r) a b machine shown) (tdo_closed by r closed t before)
    ∙ ap (λ (x : Sig). bit_after a b HighZ machine.tdo (tdo_after machine.state x (first_bit machine.shift)) machine.tdo) (bit_shown of shown machine (closed t before))
    ∙ sym (by.registers (logic r) a b (caught_at r t) machine).tdo

-- Readings.

pub bit_read : RunLaws → (r : Scene) (t : ℕ) → t ≤ length r.events → (net : ℕ) → IsRead r.inner net
    → ReadsBit r.outer r.inner (r.moment t) net (chip_reading r.device r.inner (machine_at r t) (r.outside t).pins (core_at r t) net)
bit_read by r t below net read =
    let d = read_direction r.inner net read in
    record { there = net; same = bit_kept by r net d.0 d.1; reads = (stands_then by r t below (held_always by r t below)).reads net read }

pub reads_then : RunLaws → (r : Scene) → ShowsBypass r → (t : ℕ) → t ≤ length r.events → ReadsAsChip r.outer r.device r.inner (r.moment t) (seen_at r t)
reads_then by r closed t below = record {
  bits = λ net read. bit_read by r t below net read;
  tdo = record { there = r.places.tdo.0; tap = r.around.ports.tdo; reads = tdo_closed by r closed t below };
  kept = λ i cell kind live is. refl;
}
