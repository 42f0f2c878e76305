-- The gates of a boundary cell. Its shift bit is on its first net, and its update bit on the third net after it.
-- IEEE Std 1149.1-2001: boundary-scan register; the gates are own.
use Rattle.std.specs.Prelude.{ℕ, ◌+◌, ◌<◌, List, [], ◌∷◌, ◌++◌, length, Some, IsTrue}
use Rattle.cell_library.specs.declared.Kind.TheVariants.{Mux2}
use Rattle.cell_library.specs.declared.codes.BoundaryKind.{BoundaryKind}
use Rattle.cell_library.specs.declared.codes.BoundaryKind.TheVariants.{Bc2}
use Rattle.netlist_model.specs.declared.Name.TheVariants.{Added}
use Rattle.netlist_model.specs.declared.NetId.{NetId}
use Rattle.netlist_model.specs.declared.Feed.{Feed}
use Rattle.netlist_model.specs.declared.Feed.TheVariants.{Net}
use Rattle.netlist_model.specs.Lists.{CellView}
use Rattle.gate_parts.specs.declared.Gate.{Gate}
use Rattle.gate_parts.specs.Parts.{feed_of, part_cells, is_sound_pin}
use Rattle.test_logic.specs.declared.ScanNets.{ScanNets}
use Rattle.register_gates.specs.declared.bits.Steering.{Steering}
use Rattle.register_gates.specs.declared.bits.Holding.{Holding}
use Rattle.register_gates.specs.Bits.{AreNetsBelow, shift_bit_cells}
use Rattle.boundary_cells.specs.declared.tables.Choice.{Choice}
use Rattle.boundary_cells.specs.declared.tables.TheConstants.{BC_1, BC_2, UPDATES}

-- own: these nets have numbers below this one
abbrev pub AreScanNetsBelow : ℕ → ScanNets → Type 0
AreScanNetsBelow count scan = AreNetsBelow count scan.tck scan.trst × AreNetsBelow count scan.capture scan.shift × AreNetsBelow count scan.update scan.extest
    × AreNetsBelow count scan.m_out scan.m_in × (scan.hiz.0 < count)

-- own: what steers the shift bits, and the update bits
abbrev pub steering_of : ScanNets → Steering
steering_of scan = record { tck = scan.tck; trst = scan.trst; capture = scan.capture; shift = scan.shift }

abbrev pub holding_of : ScanNets → Holding
holding_of scan = record { tck = scan.tck; trst = scan.trst; load = scan.update }

-- own: each pin of the choice names a gate of the table, or something that is handed in
abbrev pub is_sound_choice : ℕ → ℕ → Choice → Type 0
is_sound_choice gates given choice =
    IsTrue (is_sound_pin gates given choice.usual) × IsTrue (is_sound_pin gates given choice.other) × IsTrue (is_sound_pin gates given choice.select)

-- own: the multiplexer of a choice, with this number, which drives this net
abbrev pub choice_cell : ℕ → List Feed → ℕ → NetId → Choice → CellView
choice_cell first given number into choice = record {
  kind = Mux2;
  name = Some (Added number);
  feeds = feed_of first given choice.usual ∷ feed_of first given choice.other ∷ feed_of first given choice.select ∷ [];
  output = Some into;
}

-- own: the gates of a table, and a choice that drives a net
abbrev pub cells_onto : List Gate → Choice → List Feed → ℕ → ℕ → NetId → List CellView
cells_onto gates choice given first number into = part_cells gates given first number ++ choice_cell first given (number + length gates) into choice ∷ []

-- own: the table of a cell's two bits and of what it captures
abbrev pub stage_table : BoundaryKind → List Gate
stage_table Bc2 = BC_2
stage_table _ = BC_1

abbrev pub stage_count : BoundaryKind → ℕ
stage_count cell = length (stage_table cell)

-- own: what is handed to a cell: what steers it, the next bit towards TDI, what it captures, and its mode
abbrev pub cell_given : ScanNets → NetId → Feed → NetId → List Feed
cell_given scan next captured mode =
    Net scan.tck ∷ Net scan.trst ∷ Net scan.capture ∷ Net scan.shift ∷ Net scan.update ∷ Net next ∷ captured ∷ Net scan.extest ∷ Net mode ∷ []

-- own: the cells of a BC_4, where the nets that are added begin at `first` and the cells' numbers at `number`
abbrev pub observe_cells : ℕ → ℕ → ScanNets → NetId → NetId → List CellView
observe_cells first number scan pin next = shift_bit_cells first number (steering_of scan) (Net pin) next

-- own: those of a BC_1 at an input
abbrev pub input_cells : ℕ → ℕ → ScanNets → NetId → NetId → NetId → List CellView
input_cells first number scan pin into next = cells_onto BC_1 UPDATES (cell_given scan next (Net pin) scan.m_in) first number into

-- own: those of a BC_1 or BC_2 at an output
abbrev pub output_cells : BoundaryKind → ℕ → ℕ → ScanNets → Feed → NetId → NetId → List CellView
output_cells cell first number scan core into next = cells_onto (stage_table cell) UPDATES (cell_given scan next core scan.m_out) first number into
