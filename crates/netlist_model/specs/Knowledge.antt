-- The order of knowledge is kept from pins and flip-flops to the nets.
use Rattle.std.specs.Prelude.{◌≡◌, ℕ, true, Some}
use Rattle.cell_library.specs.signal_values.declared.Sig.{Sig}
use Rattle.cell_library.specs.signal_values.declared.PinSig.{PinSig}
use Rattle.cell_library.specs.signal_values.Knowledge.{IsBelow, IsPinBelow}
use Rattle.cell_library.specs.declared.FlopKind.{FlopKind}
use Rattle.cell_library.specs.Gates.{flop_of}
use Rattle.netlist_model.specs.Lists.{CellView, NetlistView, cell_at, direction}
use Rattle.netlist_model.specs.Settled.{follows_pin, IsSettled}
use Rattle.netlist_model.specs.Readings.{reading}
use Rattle.netlist_model.specs.Formed.{IsWellFormed}

-- own: the pins of input and inout bits are below the others
abbrev pub PinsBelow : NetlistView → (ℕ → PinSig) → (ℕ → PinSig) → Type 0
PinsBelow N pins pins' = (net : ℕ) → follows_pin (direction N.ports net) ≡ true → IsPinBelow (pins net) (pins' net)

-- own: the flip-flops hold values below the others
abbrev pub FlopsBelow : NetlistView → (ℕ → Sig) → (ℕ → Sig) → Type 0
FlopsBelow N state state' = (i : ℕ) (cell : CellView) (kind : FlopKind) → cell_at N i ≡ Some cell → flop_of N.library cell.kind ≡ Some kind → IsBelow (state i) (state' i)

-- own: where pins and flip-flops are better known, each net is better known or the same, and never another known value
abbrev pub SettledKeepsOrder : Type 0
SettledKeepsOrder = (N : NetlistView) → IsWellFormed N → (pins pins' : ℕ → PinSig) (state state' v v' : ℕ → Sig)
    → PinsBelow N pins pins' → FlopsBelow N state state' → IsSettled N pins state v → IsSettled N pins' state' v' → (net : ℕ) → IsBelow (v net) (v' net)

-- own: and so is each reading
abbrev pub ReadingsKeepOrder : Type 0
ReadingsKeepOrder = (N : NetlistView) → IsWellFormed N → (pins pins' : ℕ → PinSig) (state state' v v' : ℕ → Sig)
    → PinsBelow N pins pins' → FlopsBelow N state state' → IsSettled N pins state v → IsSettled N pins' state' v' → (net : ℕ)
    → IsPinBelow (reading N pins v net) (reading N pins' v' net)
