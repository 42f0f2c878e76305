-- A bit of an output or inout that a program reads is one of the netlist, and reads on the chip what its cell reads by itself.
use Rattle.std.proofs.Common.{◌≡◌, ◌⊎◌, ℕ, ◌==◌, ◌&&◌, ◌||◌, not, Bool, true, false, List, [], ◌∷◌, slice_get, Option, Some, None, refl, sym, ap, ◌∙◌, subst, inl, inr, eqb-true}
use Rattle.std.specs.Prelude.{option_and_then}
use Rattle.std.specs.Option.{option_map_or}
use Rattle.std.proofs.lemmas.Option.{get_or_from_slice_get}
use Rattle.std.proofs.lemmas.List.Quantifiers.{position-Some}
use Rattle.list_laws.proofs.Lists.{slice_get_there}
use Rattle.list_laws.proofs.Tests.{and_left, and_right}
use Rattle.signal_values.specs.declared.PinSig.{PinSig}
use Rattle.netlist_model.specs.declared.Dir.{Dir}
use Rattle.netlist_model.specs.declared.Dir.TheVariants.{Input, Output, Inout}
use Rattle.netlist_model.specs.Lists.{NetlistView, direction}
use Rattle.netlist_model.specs.Formed.{IsWellFormed}
use Rattle.netlist_model.specs.Ports.{BitHasDirection}
use Rattle.bsdl_device.specs.declared.values.PortMode.{PortMode}
use Rattle.bsdl_device.specs.declared.values.PortMode.TheVariants as mode
use Rattle.bsdl_device.specs.declared.values.DevBit.{DevBit}
use Rattle.bsdl_device.specs.declared.values.CellRow.{CellRow}
use Rattle.bsdl_device.specs.declared.values.Device.{Device}
use Rattle.bsdl_device.specs.Ports.{same_index, is_mode}
use Rattle.bsdl_device.specs.IsDevice.{is_at, is_tap_place}
use Rattle.wrapped_chip.specs.Cells.{net_of_bit}
use Rattle.wrapped_chip.specs.ChipRuns.{ChipMoment}
use Rattle.wrapped_chip.specs.Suits.{Suits}
use Rattle.plan_fitting.specs.Devices.{mode_of_side}
use Rattle.scan_programs.specs.Pins.{cell_of}
use Rattle.scan_programs.specs.Met.{Moment, BitReads}
use Rattle.program_runs.specs.Around.{StandsAtNet, StandsAround}
use Rattle.program_runs.specs.Readings.{ChipBitReads}
use Rattle.program_runs.proofs.Cells.{core_of, reading_same}
use Rattle.program_runs.proofs.Pins.{side_is}
use Rattle.program_runs.proofs.Sides.{port_of, LeavesPins, outside_is}

-- The cell at a bit.

same_some : (index other : Option ℕ) → same_index index other ≡ true → index ≡ other
same_some None None h = refl
same_some None (Some j) h = absurd (cc)
same_some (Some i) None h = absurd (cc)
same_some (Some i) (Some j) h = ap (λ (n : ℕ). Some n) (eqb-true i j h)

same_bits : (b c : DevBit) → (b.port == c.port && same_index b.index c.index) ≡ true → c ≡ b
same_bits b c h =
    let port : b.port ≡ c.port = eqb-true b.port c.port (and_left (b.port == c.port) (same_index b.index c.index) h) in
    let index : b.index ≡ c.index = same_some b.index c.index (and_right (b.port == c.port) (same_index b.index c.index) h) in
    ap (λ (n : ℕ). let bit : DevBit = record { port = n; index = c.index } in bit) (sym port) ∙ ap (λ (i : Option ℕ). let bit : DevBit = record { port = b.port; index = i } in bit) (sym index)

pin_is : (bit : DevBit) (pin : Option DevBit) → option_map_or (λ (b : DevBit). bit.port == b.port && same_index bit.index b.index) pin false ≡ true → pin ≡ Some bit
pin_is bit None h = absurd (cc)
pin_is bit (Some b) h = ap (λ (c : DevBit). Some c) (same_bits bit b h)

record IsCellAt (B : Device) (bit : DevBit) (number : ℕ) : Type 0 where
  row : CellRow
  there : slice_get B.cells number ≡ Some row
  pin : row.pin ≡ Some bit

cell_is : (B : Device) (bit : DevBit) (number : ℕ) (any : CellRow) → cell_of B.cells bit ≡ Some number → IsCellAt B bit number
cell_is B bit number any found =
    let at = position-Some (is_at bit) B.cells number any found in
    let there = slice_get_there B.cells number at.0 in
    record { row = there.0; there = there.1; pin = pin_is bit there.0.pin (subst (λ (r : CellRow). is_at bit r ≡ true) (get_or_from_slice_get B.cells number there.0 any there.1) at.1) }

some_cell : (B : Device) (bit : DevBit) (number : ℕ) → cell_of B.cells bit ≡ Some number → IsCellAt B bit number
some_cell B bit number found = by B.cells refl
  where
    by : (cells : List CellRow) → B.cells ≡ cells → IsCellAt B bit number
    by [] e = absurd (let none : None ≡ Some number = sym (ap (λ (cells : List CellRow). cell_of cells bit) e) ∙ found in cc)
    by (row ∷ rows) e = cell_is B bit number row found

-- The direction of a bit that is read.

read_side : (d : Dir) (m : PortMode) (tap : Bool) → m ≡ mode_of_side d → (not tap && (is_mode mode.Output m || is_mode mode.Inout m)) ≡ true → (Some d ≡ Some Output) ⊎ (Some d ≡ Some Inout)
read_side Output m tap e h = inl refl
read_side Inout m tap e h = inr refl
read_side Input m tap e h = absurd (by tap (sym (ap (λ (n : PortMode). not tap && (is_mode mode.Output n || is_mode mode.Inout n)) e) ∙ h))
  where
    by : (b : Bool) → (not b && (is_mode mode.Output mode.Input || is_mode mode.Inout mode.Input)) ≡ true → ⊥
    by true k = cc
    by false k = cc

read_by : (o : Option Dir) (d : Dir) → o ≡ Some d → (Some d ≡ Some Output) ⊎ (Some d ≡ Some Inout) → (o ≡ Some Output) ⊎ (o ≡ Some Inout)
read_by o d e (inl h) = inl (e ∙ h)
read_by o d e (inr h) = inr (e ∙ h)

-- The bit on the chip.

-- the moment of the chip as one of the test logic and of the cells by themselves
abbrev pub moment_of : Device → NetlistView → ChipMoment → Moment
moment_of B N w = record { levels = w.levels; machine = w.machine; core = core_of B N w }

stands_there : (B : Device) (N : NetlistView) (bit : DevBit) (number : ℕ) → StandsAround B N → (cell : IsCellAt B bit number) → StandsAtNet B N number cell.row
stands_there B N bit number around cell =
    elim (around.cells number cell.row cell.there) [
      | inl stands ↦ stands
      | inr none ↦ absurd (let no : None ≡ Some bit = sym none.pin ∙ cell.pin in cc)
    ]

pub bit_reads : BitHasDirection → (B : Device) (N : NetlistView) (w : ChipMoment) (word : List ℕ) (value : PinSig) → IsWellFormed N → Suits B N → StandsAround B N → LeavesPins B N w
    → BitReads B (moment_of B N w) word value → ChipBitReads B N w word value
bit_reads directed B N w word value formed suits around leaves reads =
    let bit : DevBit = record { port = reads.place; index = reads.index } in
    let cell = some_cell B bit reads.number reads.cell in
    let stands = stands_there B N bit reads.number around cell in
    let at : net_of_bit N bit ≡ Some stands.net = sym (ap (option_and_then (net_of_bit N)) cell.pin) ∙ stands.at in
    let port = port_of directed N formed bit stands.net at in
    let side = around.sides reads.number cell.row bit port.port reads.port cell.there cell.pin port.there reads.there in
    record {
      net = stands.net.0;
      bit = record {
        place = reads.place;
        port = reads.port;
        index = reads.index;
        there = reads.there;
        inside = λ e. side_is port.port.dir (sym side ∙ e);
        named = reads.named;
        at = at;
        row = record { number = reads.number; row = cell.row };
        found = stands.found;
        read = read_by (direction N.ports stands.net.0) port.port.dir port.side (read_side port.port.dir reads.port.mode (is_tap_place B reads.place) side reads.read);
      };
      reads = reading_same B N w reads.number cell.row stands cell.there (outside_is directed B N w formed suits leaves reads.number cell.row stands) ∙ reads.reads;
    }
