-- The gates of data registers of a design's own, those of the last register first: of each what tells whether its
-- opcode is latched, its bits, and the multiplexer that has its bit nearest TDO while it is selected, and else what
-- stands behind it.
-- IEEE Std 1149.1-2001: design-specific test data registers; the gates and their order are own.
use Rattle.std.specs.Prelude.{ℕ, ◌+◌, ◌*◌, ◌<◌, ◌≤◌, List, [], ◌∷◌, ◌++◌, length, All}
use Rattle.cell_library.specs.declared.codes.Bits.{Bits}
use Rattle.netlist_model.specs.declared.NetId.{NetId}
use Rattle.netlist_model.specs.declared.Feed.{Feed}
use Rattle.netlist_model.specs.declared.Feed.TheVariants.{Net, Const}
use Rattle.netlist_model.specs.Lists.{CellView}
use Rattle.netlist_model.specs.Below.{IsNetBelow}
use Rattle.gate_parts.specs.Parts.{part_cells}
use Rattle.register_gates.specs.Bits.{AreNetsBelow}
use Rattle.register_gates.specs.Constants.{constant_bits}
use Rattle.register_gates.specs.Registers.{data_cells, data_last}
use Rattle.status_fitting.specs.declared.fitted.FittedRegister.{FittedRegister}
use Rattle.status_gates.specs.declared.TheConstants.{SHOWN}
use Rattle.status_gates.specs.Opcodes.{told_feed, opcode_cells}
use Rattle.status_gates.specs.Shown.{shown_given}
use Rattle.status_gates.specs.Wires.{net_feeds}
use Rattle.status_gates.specs.declared.parts.SharedNets.{SharedNets}

-- own: the bits of an opcode as constants
abbrev pub wanted_feeds : Bits → List Feed
wanted_feeds bits = constant_bits bits.len bits.value

-- own: the net that an operand is; of a constant net 0, which no opcode with a bit gives
abbrev pub net_in : Feed → NetId
net_in (Net net) = net
net_in (Const b) = record { 0 = 0 }

-- own: how many cells and nets the bits of a register take, and all of it with an opcode of so many bits
abbrev pub bits_size : FittedRegister → ℕ
bits_size r = 2 + 3 * length r.nets

abbrev pub register_size : FittedRegister → ℕ
register_size r = r.register.bits.len + bits_size r + 1

-- own: the net that tells whether its opcode is latched, the bit nearest TDO, and the multiplexer's net, where its nets
-- begin at `first`
abbrev pub on_at : ℕ → FittedRegister → NetId
on_at first r = net_in (told_feed first (wanted_feeds r.register.bits))

abbrev pub near_at : ℕ → SharedNets → FittedRegister → NetId
near_at first shared r = data_last (first + r.register.bits.len) shared.tdi (net_feeds r.nets)

abbrev pub shown_at : ℕ → FittedRegister → NetId
shown_at first r = record { 0 = first + (r.register.bits.len + bits_size r) }

-- own: its gates
abbrev pub register_cells : ℕ → ℕ → SharedNets → FittedRegister → NetId → List CellView
register_cells first number shared r behind =
    (opcode_cells first number shared.opcode.0 shared.inverses.0 (wanted_feeds r.register.bits)
    ++ data_cells (first + r.register.bits.len) (number + r.register.bits.len) shared.tap (on_at first r) shared.tdi (net_feeds r.nets))
    ++ part_cells SHOWN (shown_given behind (near_at first shared r) (on_at first r)) (first + (r.register.bits.len + bits_size r)) (number + (r.register.bits.len + bits_size r))

-- own: all registers
abbrev pub registers_size : List FittedRegister → ℕ
registers_size [] = 0
registers_size (r ∷ rs) = registers_size rs + register_size r

abbrev pub shown_of : ℕ → NetId → List FittedRegister → NetId
shown_of first bypass [] = bypass
shown_of first bypass (r ∷ rs) = shown_at (first + registers_size rs) r

abbrev pub registers_cells : ℕ → ℕ → SharedNets → NetId → List FittedRegister → List CellView
registers_cells first number shared bypass [] = []
registers_cells first number shared bypass (r ∷ rs) = registers_cells first number shared bypass rs
    ++ register_cells (first + registers_size rs) (number + registers_size rs) shared r (shown_of first bypass rs)

-- own: what it stands on is there: it has 1 to 32 bits of opcode, at most 256 wires, and all nets are among the first
-- so many
pub record CanStand (nets : ℕ) (shared : SharedNets) (r : FittedRegister) : Type 0 where
  pub some : 0 < r.register.bits.len
  pub few : r.register.bits.len ≤ 32
  pub wires : length r.nets ≤ 256
  pub clock : AreNetsBelow nets shared.tap.tck shared.tap.trst
  pub steps : AreNetsBelow nets shared.tap.capture_dr shared.tap.shift_dr
  pub tdi : shared.tdi.0 < nets
  pub opcode : shared.opcode.0 + r.register.bits.len ≤ nets
  pub inverses : shared.inverses.0 + r.register.bits.len ≤ nets
  pub captured : All (IsNetBelow nets) r.nets
