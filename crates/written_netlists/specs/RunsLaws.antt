-- The netlist that is written with its test logic behaves as the wrapped chip of the plan's device, and as the netlist
-- alone; TCK and TRST are the control ports that it has more.
-- Own. For IEEE Std 1149.1-2001 (normal operation of the system logic under BYPASS, IDCODE, USERCODE, SAMPLE and
-- PRELOAD) see `Alone`.
use Rattle.std.specs.Prelude.{◌≡◌}
use Rattle.verilog_tree.specs.declared.tree.Module.{Module}
use Rattle.netlist_model.specs.Formed.{IsLaidOut}
use Rattle.netlist_link.specs.Linked.{LinkedView}
use Rattle.netlist_link.specs.Links.{IsLinkOf}
use Rattle.core_sides.specs.netlist_unlink.Renumbered.{IsWrittenAs}
use Rattle.wrapped_chip.specs.Realises.{Realises, Alone}
use Rattle.wrapped_chip.specs.Legal.{HasControls}
use Rattle.wrapped_chip.specs.Home.{FindsHome, AloneFromHome}
use Rattle.plan_texts.specs.declared.plan.Plan.{Plan}
use Rattle.core_sides.specs.plan_fitting.declared.fitted.Fitted.{Fitted}
use Rattle.core_sides.specs.plan_fitting.Devices.{device_of}
use Rattle.written_netlists.specs.ModulesLaws.{IsStitching}

-- through any events that are legal in the chip every pin reads as the chip's, and the core's flip-flops hold
-- what the chip's hold
abbrev pub WrittenRealises : Type 0
WrittenRealises = (m : Module) (L : LinkedView) (p : Plan) (f : Fitted) (after : LinkedView) (s : IsStitching m L p f after) → IsLaidOut after.arena.lists
    → (tree : Module) → IsWrittenAs after p.prefix tree → (written : LinkedView) → written.arena.lists.library ≡ L.arena.lists.library → IsLinkOf tree written
    → Realises written.arena.lists (device_of L p s.fits.seen) L.arena.lists

-- and while the instruction in effect is transparent every pin reads as the netlist's alone
abbrev pub WrittenIsAlone : Type 0
WrittenIsAlone = (m : Module) (L : LinkedView) (p : Plan) (f : Fitted) (after : LinkedView) (s : IsStitching m L p f after) → IsLaidOut after.arena.lists
    → (tree : Module) → IsWrittenAs after p.prefix tree → (written : LinkedView) → written.arena.lists.library ≡ L.arena.lists.library → IsLinkOf tree written
    → Alone written.arena.lists (device_of L p s.fits.seen) L.arena.lists

-- the control ports are the netlist's, TCK and TRST
abbrev pub WrittenHasControls : Type 0
WrittenHasControls = (m : Module) (L : LinkedView) (p : Plan) (f : Fitted) (after : LinkedView) (s : IsStitching m L p f after) → IsLaidOut after.arena.lists
    → (tree : Module) → IsWrittenAs after p.prefix tree → (written : LinkedView) → written.arena.lists.library ≡ L.arena.lists.library → IsLinkOf tree written
    → HasControls written.arena.lists L.arena.lists

-- and from whatever its test logic holds it finds home
abbrev pub WrittenFindsHome : Type 0
WrittenFindsHome = (m : Module) (L : LinkedView) (p : Plan) (f : Fitted) (after : LinkedView) (s : IsStitching m L p f after) → IsLaidOut after.arena.lists
    → (tree : Module) → IsWrittenAs after p.prefix tree → (written : LinkedView) → written.arena.lists.library ≡ L.arena.lists.library → IsLinkOf tree written
    → FindsHome written.arena.lists (device_of L p s.fits.seen) L.arena.lists

-- and is alone from there on while the instruction in effect is transparent
abbrev pub WrittenIsAloneFromHome : Type 0
WrittenIsAloneFromHome = (m : Module) (L : LinkedView) (p : Plan) (f : Fitted) (after : LinkedView) (s : IsStitching m L p f after) → IsLaidOut after.arena.lists
    → (tree : Module) → IsWrittenAs after p.prefix tree → (written : LinkedView) → written.arena.lists.library ≡ L.arena.lists.library → IsLinkOf tree written
    → AloneFromHome written.arena.lists (device_of L p s.fits.seen) L.arena.lists
