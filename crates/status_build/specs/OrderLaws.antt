-- What a gate before TDO may read once the gates of registers are there.
-- Own.
use Rattle.std.specs.Prelude.{◌≡◌, ℕ, ◌+◌, ◌<◌, ◌≤◌, true, List, ◌++◌, length, slice_get, Some, All}
use Rattle.cell_library.specs.Gates.{is_flop}
use Rattle.netlist_model.specs.declared.NetId.{NetId}
use Rattle.netlist_model.specs.declared.Feed.TheVariants.{Net}
use Rattle.netlist_model.specs.Lists.{CellView, NetlistView, Drives}
use Rattle.netlist_model.specs.Formed.{IsWellFormed}
use Rattle.netlist_model.specs.Contained.{HasCells}
use Rattle.status_build.specs.ReconnectedLaws.{Reconnects, ReadsFlop, IsReadable}
use Rattle.status_fitting.specs.declared.fitted.FittedRegister.{FittedRegister}
use Rattle.status_gates.specs.Opcodes.{inverses_cells}
use Rattle.status_gates.specs.declared.parts.SharedNets.{SharedNets}
use Rattle.status_gates.specs.Registers.{shown_of, registers_cells}

-- own: a flip-flop drives the net
pub record IsHeld (N : NetlistView) (net : ℕ) : Type 0 where
  pub number : ℕ
  pub cell : CellView
  pub flop : is_flop N.library cell.kind ≡ true
  pub drives : Drives N number cell net

-- own: the cell that drives the net reads such nets only
pub record IsCopy (N : NetlistView) (net : ℕ) : Type 0 where
  pub number : ℕ
  pub cell : CellView
  pub drives : Drives N number cell net
  pub reads : (place read : ℕ) → slice_get cell.feeds place ≡ Some (Net (record { 0 = read })) → IsHeld N read

-- own: a register has a bit of opcode, at most so many, and captures a net
pub record IsProper (bits : ℕ) (r : FittedRegister) : Type 0 where
  pub some : 0 < r.register.bits.len
  pub few : r.register.bits.len ≤ bits
  pub wired : 0 < length r.nets

-- own: where the inverses and the gates of registers are there, the latched opcode is on copies of flip-flops' nets and
-- the bypass bit is a flip-flop's, a gate that drives a net behind those copies and before these gates may read what
-- the registers show
abbrev pub ShownIsFormed : Type 0
ShownIsFormed = (old new : NetlistView) (number first start : ℕ) (shared : SharedNets) (bypass : NetId) (bits : ℕ) (rs : List FittedRegister) → IsWellFormed old
    → HasCells old (inverses_cells first start shared.opcode.0 bits ++ registers_cells (first + bits) (start + bits) shared bypass rs)
    → shared.inverses.0 ≡ first → 0 < length rs → All (IsProper bits) rs → ((k : ℕ) → k < bits → IsCopy old (shared.opcode.0 + k)) → IsHeld old bypass.0
    → (r : Reconnects old new number (shown_of (first + bits) bypass rs).0) → ReadsFlop old r.cell → IsReadable old (shown_of (first + bits) bypass rs).0
    → ((net : ℕ) → r.cell.output ≡ Some (record { 0 = net }) → (shared.opcode.0 + bits ≤ net) × (net < first)) → IsWellFormed new
