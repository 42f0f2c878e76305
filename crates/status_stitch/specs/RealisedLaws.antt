-- A netlist with the test logic of a plan and data registers of the design's own behaves as the original wrapped in the
-- plan's device with them.
-- IEEE Std 1149.1-2001: test data registers (design-specific); normal operation of the system logic under BYPASS.
use Rattle.std.specs.Prelude.{◌≡◌, true, List, All}
use Rattle.cell_library.specs.declared.codes.Instr.TheVariants as instr
use Rattle.netlist_model.specs.Lists.{NetlistView}
use Rattle.netlist_model.specs.Formed.{IsLaidOut}
use Rattle.netlist_model.specs.Contained.{IsDense}
use Rattle.netlist_link.specs.Linked.{LinkedView}
use Rattle.test_logic.specs.Machine.{Machine, in_effect, test_logic_of}
use Rattle.wrapped_chip.specs.Realises.{Alone}
use Rattle.plan_texts.specs.declared.plan.Plan.{Plan}
use Rattle.plan_fitting.specs.Pins.{PinSeen}
use Rattle.plan_fitting.specs.Devices.{device_of}
use Rattle.plan_fitting.specs.FittingPlan.{IsFitting}
use Rattle.stitched_netlist.specs.declared.model.TapNames.{TapNames}
use Rattle.status_fitting.specs.declared.register_texts.plan.StatusPlan.{StatusPlan}
use Rattle.status_fitting.specs.declared.fitted.FittedRegister.{FittedRegister}
use Rattle.status_fitting.specs.declared.fitted.FittedStatus.{FittedStatus}
use Rattle.status_fitting.specs.Faults.{HasNoFault, IsSpelled}
use Rattle.status_fitting.specs.Fitted.{IsFitted}
use Rattle.status_gates.specs.Extended.{is_latched}
use Rattle.status_gates.specs.PartsLaws.{status_of}
use Rattle.status_gates.specs.Realises.{RealisesStatus, FindsHomeWithRegisters, AloneFromHomeWithRegisters}
use Rattle.status_stitch.specs.Stands.{IsOwn, HasStatus}

-- what was fitted to a netlist and a plan, and without a fault, may stand beside the plan's device
abbrev pub FittedRegistersAreOwn : Type 0
FittedRegistersAreOwn = (L : LinkedView) (p : Plan) (seen : List PinSeen) (plan : StatusPlan) (fitted : FittedStatus) → IsSpelled plan → IsFitted L plan fitted → HasNoFault L p plan
    → All (IsOwn L.arena.lists (device_of L p seen)) fitted.registers

-- while the opcode of such a register is latched, BYPASS is in effect in the plan's device
abbrev pub OwnInstructionsBypass : Type 0
OwnInstructionsBypass = (L : LinkedView) (p : Plan) (seen : List PinSeen) (r : FittedRegister) → IsFitting L p seen → IsOwn L.arena.lists (device_of L p seen) r
    → (machine : Machine) → is_latched (status_of r) machine ≡ true → in_effect (test_logic_of (device_of L p seen)) machine ≡ instr.Bypass

-- of a plan that fits a netlist without gaps: through any events that are legal in the chip every output and inout bit
-- reads as the chip's, TDO as the test logic with the registers, and the core's flip-flops hold what the chip's hold
abbrev pub StatusRealises : Type 0
StatusRealises = (L : LinkedView) (p : Plan) (seen : List PinSeen) (names : TapNames) (M : NetlistView) (registers : List FittedRegister) → IsFitting L p seen → IsLaidOut L.arena.lists
    → IsDense L.arena.lists → All (IsOwn L.arena.lists (device_of L p seen)) registers → HasStatus L p seen names M registers
    → RealisesStatus M (device_of L p seen) L.arena.lists registers

-- and while the instruction in effect is transparent every pin reads as the netlist's alone
abbrev pub StatusIsAlone : Type 0
StatusIsAlone = (L : LinkedView) (p : Plan) (seen : List PinSeen) (names : TapNames) (M : NetlistView) (registers : List FittedRegister) → IsFitting L p seen → IsLaidOut L.arena.lists
    → IsDense L.arena.lists → All (IsOwn L.arena.lists (device_of L p seen)) registers → HasStatus L p seen names M registers
    → Alone M (device_of L p seen) L.arena.lists

-- from whatever the test logic and the registers hold it finds home, and reads as the chip with the registers from there
-- on
abbrev pub StatusFindsHome : Type 0
StatusFindsHome = (L : LinkedView) (p : Plan) (seen : List PinSeen) (names : TapNames) (M : NetlistView) (registers : List FittedRegister) → IsFitting L p seen → IsLaidOut L.arena.lists
    → IsDense L.arena.lists → All (IsOwn L.arena.lists (device_of L p seen)) registers → HasStatus L p seen names M registers
    → FindsHomeWithRegisters M (device_of L p seen) L.arena.lists registers

-- and as the netlist alone while the instruction in effect is transparent
abbrev pub StatusIsAloneFromHome : Type 0
StatusIsAloneFromHome = (L : LinkedView) (p : Plan) (seen : List PinSeen) (M : NetlistView) (registers : List FittedRegister) → IsFitting L p seen
    → AloneFromHomeWithRegisters M (device_of L p seen) L.arena.lists registers
