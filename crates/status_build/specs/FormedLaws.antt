-- Where the inverses and the gates of registers are appended, a well-formed netlist stays so.
-- Own.
use Rattle.std.specs.Prelude.{◌≡◌, ℕ, ◌+◌, ◌<◌, ◌≤◌, List, ◌++◌, length, All}
use Rattle.netlist_model.specs.declared.NetId.{NetId}
use Rattle.netlist_model.specs.Lists.{CellView, NetlistView, cell_count}
use Rattle.netlist_model.specs.Formed.{IsLaidOut, IsWellFormed}
use Rattle.netlist_model.specs.Settle.{IsDrivenOnce}
use Rattle.netlist_arena.specs.Arena.{ArenaView}
use Rattle.gate_parts.specs.Appended.{Appended}
use Rattle.netlist_link.specs.Grown.{IsOneOf}
use Rattle.netlist_link.specs.DraftLawsNames.{IsNamedCell}
use Rattle.netlist_link.specs.Readable.{CanBeRead, IsPure}
use Rattle.netlist_link.specs.Parts.{IsGrown}
use Rattle.status_fitting.specs.declared.fitted.FittedRegister.{FittedRegister}
use Rattle.status_gates.specs.Opcodes.{inverses_cells}
use Rattle.status_gates.specs.declared.parts.SharedNets.{SharedNets}
use Rattle.status_gates.specs.Registers.{registers_size, registers_cells}

-- own: the net is there, and can be read
abbrev pub IsReadNet : NetlistView → ℕ → Type 0
IsReadNet N net = (net < length N.nets) × CanBeRead N net

-- own: so are the nets that all registers stand on; TCK and TRST are pure; the latched opcode has so many bits
pub record CanShare (N : NetlistView) (shared : SharedNets) (bits : ℕ) : Type 0 where
  pub tck : IsReadNet N shared.tap.tck.0
  pub trst : IsReadNet N shared.tap.trst.0
  pub clock : IsPure N shared.tap.tck.0
  pub clear : IsPure N shared.tap.trst.0
  pub capture : IsReadNet N shared.tap.capture_dr.0
  pub shift : IsReadNet N shared.tap.shift_dr.0
  pub tdi : IsReadNet N shared.tdi.0
  pub opcode : (k : ℕ) → k < bits → IsReadNet N (shared.opcode.0 + k)

-- own: a register has an opcode of at most so many bits, and captures nets that can be read
pub record CanCapture (N : NetlistView) (bits : ℕ) (r : FittedRegister) : Type 0 where
  pub some : 0 < r.register.bits.len
  pub few : r.register.bits.len ≤ bits
  pub wires : All (λ (net : NetId). IsReadNet N net.0) r.nets

abbrev pub RegistersAreFormed : Type 0
RegistersAreFormed = (old new : ArenaView) (shared : SharedNets) (bypass : NetId) (bits : ℕ) (rs : List FittedRegister) → IsLaidOut old.lists → IsWellFormed old.lists → IsDrivenOnce new.lists
    → Appended old new (bits + registers_size rs)
    (inverses_cells (length old.lists.nets) (cell_count old.lists) shared.opcode.0 bits ++ registers_cells (length old.lists.nets + bits) (cell_count old.lists + bits) shared bypass rs)
    → shared.inverses.0 ≡ length old.lists.nets → CanShare old.lists shared bits → IsReadNet old.lists bypass.0 → All (CanCapture old.lists bits) rs
    → IsGrown new.lists (length old.lists.nets)

-- own: and each of these cells has an added name and an output
abbrev pub RegistersAreNamed : Type 0
RegistersAreNamed = (first number opcode bits : ℕ) (shared : SharedNets) (bypass : NetId) (rs : List FittedRegister) (cell : CellView)
    → IsOneOf (inverses_cells first number opcode bits ++ registers_cells (first + bits) (number + bits) shared bypass rs) cell → IsNamedCell cell
