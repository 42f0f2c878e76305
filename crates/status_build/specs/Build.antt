-- A netlist that is open to data registers of a design's own, and what holds of it once they are built in.
-- Own.
use Rattle.std.specs.Prelude.{◌≡◌, ℕ, ◌+◌, ◌<◌, ◌≤◌, false, List, [], ◌∷◌, ◌++◌, length, Some, None, All}
use Rattle.cell_library.specs.Gates.{is_flop}
use Rattle.netlist_model.specs.declared.Dir.TheVariants.{Input}
use Rattle.netlist_model.specs.declared.NetId.{NetId}
use Rattle.netlist_model.specs.declared.Feed.TheVariants.{Net}
use Rattle.netlist_model.specs.Lists.{CellView, NetlistView, cell_at, cell_count, direction}
use Rattle.netlist_model.specs.Formed.{IsLaidOut, IsWellFormed}
use Rattle.netlist_model.specs.Settle.{IsDrivenOnce}
use Rattle.netlist_arena.specs.Arena.{ArenaView}
use Rattle.netlist_arena.specs.Moves.{connected}
use Rattle.netlist_link.specs.WellNamed.{IsWellNamed}
use Rattle.gate_parts.specs.Appended.{Appended}
use Rattle.status_fitting.specs.declared.fitted.FittedRegister.{FittedRegister}
use Rattle.status_gates.specs.Opcodes.{inverses_cells}
use Rattle.status_gates.specs.declared.parts.SharedNets.{SharedNets}
use Rattle.status_gates.specs.Registers.{registers_size, shown_of, registers_cells}
use Rattle.status_build.specs.FormedLaws.{IsReadNet}
use Rattle.status_build.specs.OrderLaws.{IsHeld, IsCopy, IsProper}

-- own: an input bit's net
pub record IsInputNet (N : NetlistView) (net : ℕ) : Type 0 where
  pub low : net < length N.nets
  pub input : direction N.ports net ≡ Some Input

-- own: a net inside that a flip-flop drives
pub record IsInnerFlop (N : NetlistView) (net : ℕ) : Type 0 where
  pub inside : direction N.ports net ≡ None
  pub held : IsHeld N net

-- own: a net inside that is driven by a copy of flip-flops
pub record IsInnerCopy (N : NetlistView) (net : ℕ) : Type 0 where
  pub inside : direction N.ports net ≡ None
  pub copy : IsCopy N net

-- own: what registers stand on is there: TCK, TRST and TDI are inputs, Capture-DR, Shift-DR and the bypass bit are
-- flip-flops, the latched opcode of so many bits is on copies of flip-flops, and the gate with this number reads the
-- bypass bit alone, and drives a net behind those copies
pub record IsOpenTo (N : NetlistView) (shared : SharedNets) (bypass : NetId) (bits number : ℕ) : Type 0 where
  pub tck : IsInputNet N shared.tap.tck.0
  pub trst : IsInputNet N shared.tap.trst.0
  pub tdi : IsInputNet N shared.tdi.0
  pub capture : IsInnerFlop N shared.tap.capture_dr.0
  pub shift : IsInnerFlop N shared.tap.shift_dr.0
  pub bit : IsInnerFlop N bypass.0
  pub opcode : (k : ℕ) → k < bits → IsInnerCopy N (shared.opcode.0 + k)
  pub gate : CellView
  pub live : cell_at N number ≡ Some gate
  pub plain : is_flop N.library gate.kind ≡ false
  pub reads : gate.feeds ≡ Net bypass ∷ []
  pub drives : (net : ℕ) → gate.output ≡ Some (record { 0 = net }) → (shared.opcode.0 + bits ≤ net) × (net < length N.nets)

-- own: the cells of all registers, behind those of the netlist
abbrev pub added_cells : NetlistView → SharedNets → NetId → ℕ → List FittedRegister → List CellView
added_cells N shared bypass bits rs = inverses_cells (length N.nets) (cell_count N) shared.opcode.0 bits
    ++ registers_cells (length N.nets + bits) (cell_count N + bits) shared bypass rs

-- own: the net that they show
abbrev pub shown_at : NetlistView → NetId → ℕ → List FittedRegister → NetId
shown_at N bypass bits rs = shown_of (length N.nets + bits) bypass rs

-- own: each captures nets that can be read
abbrev pub CanRead : NetlistView → FittedRegister → Type 0
CanRead N r = All (λ (net : NetId). IsReadNet N net.0) r.nets

-- own: with the gates of registers and its gate on what they show, such a netlist stays well formed
abbrev pub StatusIsFormed : Type 0
StatusIsFormed = (old middle : ArenaView) (new : NetlistView) (shared : SharedNets) (bypass : NetId) (bits number : ℕ) (rs : List FittedRegister) → IsLaidOut old.lists
    → IsWellFormed old.lists → IsDrivenOnce middle.lists → Appended old middle (bits + registers_size rs) (added_cells old.lists shared bypass bits rs)
    → shared.inverses.0 ≡ length old.lists.nets → IsOpenTo old.lists shared bypass bits number → 0 < length rs → All (IsProper bits) rs → All (CanRead old.lists) rs
    → new ≡ connected number 0 (Net (shown_at old.lists bypass bits rs)) middle.lists → IsWellFormed new

-- own: and well named
abbrev pub StatusIsNamed : Type 0
StatusIsNamed = (table : List (List ℕ)) (old middle : ArenaView) (new : NetlistView) (shared : SharedNets) (bypass : NetId) (bits number : ℕ) (rs : List FittedRegister)
    → IsLaidOut old.lists → IsWellNamed table old.lists → Appended old middle (bits + registers_size rs) (added_cells old.lists shared bypass bits rs)
    → IsOpenTo old.lists shared bypass bits number → new ≡ connected number 0 (Net (shown_at old.lists bypass bits rs)) middle.lists → IsWellNamed table new
