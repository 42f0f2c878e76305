-- A netlist that behaves as a wrapped chip does so with its nets and cells numbered anew, and has the control
-- ports that it had.
-- Own. For IEEE Std 1149.1-2001 see wrapped_chip.
use Rattle.std.specs.Prelude.{◌≡◌, ℕ, List, Some}
use Rattle.signal_values.specs.declared.PinSig.{PinSig}
use Rattle.netlist_model.specs.Lists.{CellView, NetlistView, cell_at}
use Rattle.netlist_model.specs.Formed.{IsWellFormed}
use Rattle.netlist_model.specs.Renumbered.{IsRenumbering}
use Rattle.test_logic.specs.bsdl_device.declared.values.Device.{Device}
use Rattle.wrapped_chip.specs.ChipRuns.{ChipMoment}
use Rattle.wrapped_chip.specs.Realises.{RealisesBy, Realises, Alone}
use Rattle.wrapped_chip.specs.Legal.{HasControls}
use Rattle.wrapped_chip.specs.Home.{HeldTdo, FindsHomeBy, FindsHome}

-- own: the numbers of the chip's cells stay
abbrev pub KeepsNumbers : NetlistView → (ℕ → ℕ) → Type 0
KeepsNumbers N at = (i : ℕ) (cell : CellView) → cell_at N i ≡ Some cell → at i ≡ i

-- own: so it is of what it owes in the test logic, whatever TDO is to read
abbrev pub RenumberedRealisesBy : Type 0
RenumberedRealisesBy = (M M' N : NetlistView) (B : Device) (tdo : (ℕ → ChipMoment) → ℕ → PinSig) (to at : ℕ → ℕ) → IsRenumbering M M' to at → IsWellFormed M → KeepsNumbers N at
    → RealisesBy M B N tdo → RealisesBy M' B N tdo

-- own: as the chip's
abbrev pub RenumberedRealises : Type 0
RenumberedRealises = (M M' N : NetlistView) (B : Device) (to at : ℕ → ℕ) → IsRenumbering M M' to at → IsWellFormed M → KeepsNumbers N at → Realises M B N → Realises M' B N

-- own: and alone
abbrev pub RenumberedAlone : Type 0
RenumberedAlone = (M M' N : NetlistView) (B : Device) (to at : ℕ → ℕ) → IsRenumbering M M' to at → IsWellFormed M → KeepsNumbers N at → Alone M B N → Alone M' B N

-- own: and its control ports
abbrev pub RenumberedControls : Type 0
RenumberedControls = (M M' N : NetlistView) (to at : ℕ → ℕ) → IsRenumbering M M' to at → HasControls M N → HasControls M' N

-- own: the same library and ports, and the same live cell under each number; so one realises what the other does,
-- whatever TDO is to read
abbrev pub SameRealisesBy : Type 0
SameRealisesBy = (M M' N : NetlistView) (B : Device) (tdo : (ℕ → ChipMoment) → ℕ → PinSig) → M.library ≡ M'.library → M.ports ≡ M'.ports → ((i : ℕ) → cell_at M i ≡ cell_at M' i)
    → IsWellFormed M → RealisesBy M B N tdo → RealisesBy M' B N tdo

-- own: as the chip's
abbrev pub SameRealises : Type 0
SameRealises = (M M' N : NetlistView) (B : Device) → M.library ≡ M'.library → M.ports ≡ M'.ports → ((i : ℕ) → cell_at M i ≡ cell_at M' i) → IsWellFormed M → Realises M B N → Realises M' B N

-- own: and is alone where the other is
abbrev pub SameAlone : Type 0
SameAlone = (M M' N : NetlistView) (B : Device) → M.library ≡ M'.library → M.ports ≡ M'.ports → ((i : ℕ) → cell_at M i ≡ cell_at M' i) → IsWellFormed M → Alone M B N → Alone M' B N

-- own: some cell stands under each number of the chip's cells
abbrev pub HasNumbers : NetlistView → NetlistView → Type 0
HasNumbers M N = (i : ℕ) (cell : CellView) → cell_at N i ≡ Some cell → (other : CellView) × (cell_at M i ≡ Some other)

-- own: it finds home where the other does, whatever TDO is to read
abbrev pub RenumberedFindsHomeBy : Type 0
RenumberedFindsHomeBy = (M M' N : NetlistView) (B : Device) (lengths : List ℕ) (tdo : HeldTdo) (to at : ℕ → ℕ) → IsRenumbering M M' to at → IsWellFormed M → HasNumbers M N → KeepsNumbers N at
    → FindsHomeBy M B N lengths tdo → FindsHomeBy M' B N lengths tdo

-- own: with TDO as the chip's
abbrev pub RenumberedFindsHome : Type 0
RenumberedFindsHome = (M M' N : NetlistView) (B : Device) (to at : ℕ → ℕ) → IsRenumbering M M' to at → IsWellFormed M → HasNumbers M N → KeepsNumbers N at
    → FindsHome M B N → FindsHome M' B N

-- own: so does one with the same library, ports and cells
abbrev pub SameFindsHomeBy : Type 0
SameFindsHomeBy = (M M' N : NetlistView) (B : Device) (lengths : List ℕ) (tdo : HeldTdo) → M.library ≡ M'.library → M.ports ≡ M'.ports → ((i : ℕ) → cell_at M i ≡ cell_at M' i) → IsWellFormed M
    → HasNumbers M N → FindsHomeBy M B N lengths tdo → FindsHomeBy M' B N lengths tdo

-- own: with TDO as the chip's
abbrev pub SameFindsHome : Type 0
SameFindsHome = (M M' N : NetlistView) (B : Device) → M.library ≡ M'.library → M.ports ≡ M'.ports → ((i : ℕ) → cell_at M i ≡ cell_at M' i) → IsWellFormed M → HasNumbers M N
    → FindsHome M B N → FindsHome M' B N
