-- A surrounded core beside which data registers stand behaves as the netlist wrapped in the device with them, and finds
-- home.
-- Own.
use Rattle.std.specs.Prelude.{ℕ, List, All}
use Rattle.netlist_model.specs.declared.NetId.{NetId}
use Rattle.netlist_model.specs.Lists.{NetlistView}
use Rattle.bsdl_device.specs.declared.values.Device.{Device}
use Rattle.wrapped_chip.specs.Legal.{HasControls}
use Rattle.surrounded_core.specs.Places.{Places}
use Rattle.surrounded_core.specs.Surrounds.{SurroundsBy}
use Rattle.surrounded_core.specs.Home.{IsControllerAdded}
use Rattle.status_fitting.specs.declared.fitted.FittedRegister.{FittedRegister}
use Rattle.status_gates.specs.PartsLaws.{status_of}
use Rattle.status_gates.specs.Realises.{RealisesStatus, FindsHomeWithRegisters}
use Rattle.status_gates.specs.Stands.{FitsBeside, HoldsRegisters}

-- own: whatever else the netlist holds, where its control ports are the core's, TCK and TRST
abbrev pub SurroundedStatusRealises : Type 0
SurroundedStatusRealises = (M N : NetlistView) (B : Device) (S : Places) (shown : NetId) (first number : ℕ) (registers : List FittedRegister) → SurroundsBy M N B S shown
    → HoldsRegisters M S shown first number registers → All (λ (r : FittedRegister). FitsBeside N B S (status_of r)) registers → HasControls M N
    → RealisesStatus M B N registers

-- own: and from whatever the test logic and the registers hold it finds home
abbrev pub SurroundedStatusFindsHome : Type 0
SurroundedStatusFindsHome = (M N : NetlistView) (B : Device) (S : Places) (shown : NetId) (first number : ℕ) (registers : List FittedRegister) → SurroundsBy M N B S shown
    → HoldsRegisters M S shown first number registers → All (λ (r : FittedRegister). FitsBeside N B S (status_of r)) registers → IsControllerAdded M N S
    → FindsHomeWithRegisters M B N registers
