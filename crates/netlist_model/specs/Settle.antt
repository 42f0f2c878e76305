-- A netlist has exactly one valuation that meets its equations.
use Rattle.std.specs.Prelude.{◌≡◌, ℕ, ◌<◌, true, Some}
use Rattle.cell_library.specs.signal_values.declared.Sig.{Sig}
use Rattle.cell_library.specs.signal_values.declared.PinSig.{PinSig}
use Rattle.cell_library.specs.declared.FlopKind.{FlopKind}
use Rattle.cell_library.specs.Gates.{flop_of}
use Rattle.netlist_model.specs.Lists.{CellView, NetlistView, cell_at, direction}
pub use Rattle.netlist_model.specs.Lists.{IsDrivenOnce}
use Rattle.netlist_model.specs.Settled.{follows_pin, IsSettled}
use Rattle.netlist_model.specs.Formed.{IsWellFormed}

-- own: what the rule gives the net of a pin hangs on nets with smaller numbers alone
pub record IsCausal (N : NetlistView) (rank : ℕ → ℕ) (given : (ℕ → Sig) → ℕ → Sig) : Type 0 where
  pub below : (net : ℕ) → follows_pin (direction N.ports net) ≡ true → (v v' : ℕ → Sig)
      → ((other : ℕ) → rank other < rank net → v other ≡ v' other) → given v net ≡ given v' net

-- own: the pins of input and inout bits are the same
abbrev pub SamePins : NetlistView → (ℕ → PinSig) → (ℕ → PinSig) → Type 0
SamePins N pins pins' = (net : ℕ) → follows_pin (direction N.ports net) ≡ true → pins net ≡ pins' net

-- own: the flip-flops hold the same
abbrev pub SameFlops : NetlistView → (ℕ → Sig) → (ℕ → Sig) → Type 0
SameFlops N state state' = (i : ℕ) (cell : CellView) (kind : FlopKind) → cell_at N i ≡ Some cell → flop_of N.library cell.kind ≡ Some kind → state i ≡ state' i

-- own: a well-formed netlist has a settled valuation for any pins and flip-flops
abbrev pub SettledExists : Type 0
SettledExists = (N : NetlistView) → IsWellFormed N → (pins : ℕ → PinSig) (state : ℕ → Sig) → (value : ℕ → Sig) × IsSettled N pins state value

-- own: and no other, which hangs on the pins of input and inout bits and on the flip-flops alone
abbrev pub SettledOnce : Type 0
SettledOnce = (N : NetlistView) → IsWellFormed N → (pins pins' : ℕ → PinSig) (state state' v v' : ℕ → Sig)
    → SamePins N pins pins' → SameFlops N state state' → IsSettled N pins state v → IsSettled N pins' state' v' → (net : ℕ) → v net ≡ v' net
