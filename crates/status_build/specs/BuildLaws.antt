-- What building in registers needs of a netlist, and what it leaves.
-- Own.
use Rattle.std.specs.Prelude.{◌≡◌, ◌≢◌, ℕ, ◌+◌, ◌<◌, ◌≤◌, List, ◌++◌, length, slice_get, Some, All}
use Rattle.netlist_model.specs.declared.NetId.{NetId}
use Rattle.netlist_model.specs.declared.Feed.TheVariants.{Net}
use Rattle.netlist_model.specs.Lists.{CellView, NetlistView, cell_at, cell_count}
use Rattle.netlist_model.specs.Below.{IsNetBelow}
use Rattle.netlist_arena.specs.Moves.{with_feed}
use Rattle.gate_parts.specs.Parts.{added_nets}
use Rattle.register_gates.specs.Bits.{AreNetsBelow}
use Rattle.status_fitting.specs.declared.fitted.FittedRegister.{FittedRegister}
use Rattle.status_gates.specs.declared.parts.SharedNets.{SharedNets}
use Rattle.status_gates.specs.Registers.{registers_size}
use Rattle.status_build.specs.Build.{added_cells, shown_at}

-- own: a register has a bit of opcode, at most so many, and at most 256 wires, on nets that are there
pub record IsAddable (nets bits : ℕ) (r : FittedRegister) : Type 0 where
  pub some : 0 < r.register.bits.len
  pub few : r.register.bits.len ≤ bits
  pub wires : length r.nets ≤ 256
  pub captured : All (IsNetBelow nets) r.nets

-- own: what the registers stand on is among so many nets, behind which the inverses come
pub record CanAdd (nets : ℕ) (shared : SharedNets) (bypass : NetId) (bits : ℕ) (rs : List FittedRegister) : Type 0 where
  pub clock : AreNetsBelow nets shared.tap.tck shared.tap.trst
  pub steps : AreNetsBelow nets shared.tap.capture_dr shared.tap.shift_dr
  pub tdi : shared.tdi.0 < nets
  pub opcode : shared.opcode.0 + bits ≤ nets
  pub inverses : shared.inverses.0 ≡ nets
  pub bit : bypass.0 < nets
  pub few : bits ≤ 32
  pub each : All (IsAddable nets bits) rs

-- own: the netlist has these gates behind its own, one of which reads what they show
pub record IsBuiltOn (old new : NetlistView) (shared : SharedNets) (bypass : NetId) (bits number : ℕ) (rs : List FittedRegister) : Type 0 where
  pub library : new.library ≡ old.library
  pub ports : new.ports ≡ old.ports
  pub nets : new.nets ≡ old.nets ++ added_nets (length old.nets) (bits + registers_size rs)
  pub count : cell_count new ≡ cell_count old + (bits + registers_size rs)
  pub kept : (k : ℕ) → k < cell_count old → k ≢ number → cell_at new k ≡ cell_at old k
  pub gate : (cell : CellView) → cell_at old number ≡ Some cell → cell_at new number ≡ Some (with_feed 0 (Net (shown_at old bypass bits rs)) cell)
  pub added : (k : ℕ) → cell_at new (cell_count old + k) ≡ slice_get (added_cells old shared bypass bits rs) k
