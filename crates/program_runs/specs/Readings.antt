-- What the expectations of lines are of, and when each is read at its moment, on the wrapped chip and on a
-- netlist beside it.
-- IEEE Std 1149.1-2001: test access port (TDO), boundary-scan register. The lines are own.
use Rattle.std.specs.Prelude.{◌≡◌, ◌≢◌, ◌⊎◌, ℕ, suc, List, [], ◌∷◌, slice_get, Option, Some, ⊤}
use Rattle.signal_values.specs.declared.PinSig.{PinSig}
use Rattle.netlist_model.specs.Lists.{NetlistView}
use Rattle.netlist_model.specs.Runs.{Moment}
use Rattle.bsdl_device.specs.declared.values.PortMode.TheVariants.{Linkage}
use Rattle.bsdl_device.specs.declared.values.DevPort.{DevPort}
use Rattle.bsdl_device.specs.declared.values.Device.{Device}
use Rattle.wrapped_chip.specs.Cells.{net_of_bit, Numbered, row_of, chip_reading}
use Rattle.wrapped_chip.specs.ChipRuns.{ChipMoment}
use Rattle.wrapped_chip.specs.Suits.{IsRead}
use Rattle.wrapped_chip.specs.Realises.{ReadsBit, ReadsTdo}
use Rattle.scan_vectors.specs.declared.lines.Line.{Line}
use Rattle.scan_vectors.specs.declared.lines.Line.TheVariants.{Start, Set, Expect}
use Rattle.scan_programs.specs.Pins.{bit_word, port_word}

-- from this moment on each expectation of the lines is read so at its moment; a set leads to the next moment
abbrev pub AreReadFrom : (ℕ → List ℕ → PinSig → Type 0) → ℕ → List Line → Type 0
AreReadFrom reads t [] = ⊤
AreReadFrom reads t (Start word value ∷ lines) = AreReadFrom reads t lines
AreReadFrom reads t (Set word value ∷ lines) = AreReadFrom reads (suc t) lines
AreReadFrom reads t (Expect word value ∷ lines) = reads t word value × AreReadFrom reads t lines

-- the word is that of an output or inout bit of the netlist at which a cell stands, on this net
pub record IsBitWord (B : Device) (N : NetlistView) (word : List ℕ) (net : ℕ) : Type 0 where
  pub place : ℕ
  pub port : DevPort
  pub index : Option ℕ
  pub there : slice_get B.ports place ≡ Some port
  pub inside : port.mode ≢ Linkage
  pub named : word ≡ bit_word port.name index
  pub at : net_of_bit N (record { port = place; index = index }) ≡ Some (record { 0 = net })
  pub row : Numbered
  pub found : row_of B N net ≡ Some row
  pub read : IsRead N net

-- On the wrapped chip.

pub record ChipBitReads (B : Device) (N : NetlistView) (w : ChipMoment) (word : List ℕ) (value : PinSig) : Type 0 where
  pub net : ℕ
  pub bit : IsBitWord B N word net
  pub reads : chip_reading B N w.machine w.pins w.value net ≡ value

pub record ChipTdoReads (B : Device) (w : ChipMoment) (word : List ℕ) (value : PinSig) : Type 0 where
  pub named : word ≡ port_word B B.tdo
  pub reads : w.machine.tdo ≡ value

abbrev pub ChipReads : Device → NetlistView → ChipMoment → List ℕ → PinSig → Type 0
ChipReads B N w word value = ChipTdoReads B w word value ⊎ ChipBitReads B N w word value

-- On a netlist M with the same bits and a test access port.

pub record BitReadsThere (M : NetlistView) (B : Device) (N : NetlistView) (m : Moment) (word : List ℕ) (value : PinSig) : Type 0 where
  pub net : ℕ
  pub bit : IsBitWord B N word net
  pub reads : ReadsBit M N m net value

pub record TdoReadsThere (M : NetlistView) (B : Device) (N : NetlistView) (m : Moment) (word : List ℕ) (value : PinSig) : Type 0 where
  pub named : word ≡ port_word B B.tdo
  pub reads : ReadsTdo M N m value

abbrev pub ReadsThere : NetlistView → Device → NetlistView → Moment → List ℕ → PinSig → Type 0
ReadsThere M B N m word value = TdoReadsThere M B N m word value ⊎ BitReadsThere M B N m word value
