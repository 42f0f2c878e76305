-- What holds of the module that the netlist with the test logic and with registers of the design's own is written as,
-- and how the netlist behaves that it tells.
-- IEEE Std 1364-2001: modules and ports, hierarchical names; the statements are own. For IEEE Std 1149.1-2001 (normal
-- operation of the system logic under BYPASS, IDCODE, USERCODE, SAMPLE and PRELOAD) see `Alone`.
use Rattle.std.specs.Prelude.{◌≡◌, ℕ, None}
use Rattle.verilog_tree.specs.declared.tree.Module.{Module}
use Rattle.verilog_tree.specs.IsTree.{IsTree}
use Rattle.cell_library.specs.Sound.{IsLibrary}
use Rattle.netlist_model.specs.Formed.{IsLaidOut, IsWellFormed}
use Rattle.netlist_link.specs.Linked.{LinkedView}
use Rattle.netlist_link.specs.Links.{IsLinkOf}
use Rattle.netlist_unlink.specs.Prefixes.{IsFreePrefix}
use Rattle.netlist_unlink.specs.Renumbered.{passed_limit, IsWrittenAs}
use Rattle.wrapped_chip.specs.Realises.{Alone}
use Rattle.wrapped_chip.specs.Legal.{HasControls}
use Rattle.plan_texts.specs.declared.plan.Plan.{Plan}
use Rattle.plan_texts.specs.Canonical.{IsPlan}
use Rattle.plan_fitting.specs.declared.fitted.Fitted.{Fitted}
use Rattle.plan_fitting.specs.Devices.{IsFitted, device_of}
use Rattle.stitched_netlist.specs.declared.model.TapNames.{TapNames}
use Rattle.written_netlists.specs.Prepared.{with_tap_names, AreTapNames}
use Rattle.written_netlists.specs.Same.{IsSameNetlist}
use Rattle.written_netlists.specs.Written.{WritesStitched}
use Rattle.status_fitting.specs.declared.fitted.FittedStatus.{FittedStatus}
use Rattle.status_stitch.specs.Stitched.{stitched_status}
use Rattle.status_register.specs.Stitch.{AreRegisters, HasRoomFor}
use Rattle.status_gates.specs.Realises.{RealisesStatus, FindsHomeWithRegisters, AloneFromHomeWithRegisters}

-- own: the table of names and the netlist are those of this one with the test logic and the registers built in; it is
-- well formed
pub record IsStitchedOf (L : LinkedView) (f : Fitted) (s : FittedStatus) (after : LinkedView) : Type 0 where
  pub names : TapNames
  pub table : after.names ≡ with_tap_names f L.names
  pub are : AreTapNames (with_tap_names f L.names) f names
  pub same : IsSameNetlist after.arena.lists (stitched_status L.arena.lists names f s.registers)
  pub formed : IsWellFormed after.arena.lists

-- own: a netlist that a text tells, a plan that some text spells and that fits it, and registers that some text spells
-- and that fit both, with room for all, and built in
pub record IsStitching (m : Module) (L : LinkedView) (p : Plan) (f : Fitted) (s : FittedStatus) (after : LinkedView) : Type 0 where
  pub tree : IsTree m
  pub listed : IsLibrary L.arena.lists.library
  pub linked : IsLinkOf m L
  pub laid : IsLaidOut L.arena.lists
  pub plan : IsPlan p
  pub fits : IsFitted L p f
  pub registers : AreRegisters L p s
  pub room : HasRoomFor L f s
  pub is : IsStitchedOf L f s after

-- own: it can be written with the plan's prefix
abbrev pub StatusCanBeWritten : Type 0
StatusCanBeWritten = (m : Module) (L : LinkedView) (p : Plan) (f : Fitted) (s : FittedStatus) (after : LinkedView) → IsStitching m L p f s after → IsFreePrefix after p.prefix

-- own: no limit is passed
abbrev pub StatusKeepsLimits : Type 0
StatusKeepsLimits = (m : Module) (L : LinkedView) (p : Plan) (f : Fitted) (s : FittedStatus) (after : LinkedView) → IsStitching m L p f s after → passed_limit after.arena.lists ≡ None

-- own: so it is written
abbrev pub StatusIsWritten : Type 0
StatusIsWritten = (m : Module) (L : LinkedView) (p : Plan) (f : Fitted) (s : FittedStatus) (after : LinkedView) → IsStitching m L p f s after
    → (tree : Module) → IsTree tree → IsWrittenAs after p.prefix tree → WritesStitched L p tree

-- through any events that are legal in the chip every pin but TDO reads as the chip's, TDO as that of the test logic
-- with the registers, and the core's flip-flops hold what the chip's hold
abbrev pub WrittenStatusRealises : Type 0
WrittenStatusRealises = (m : Module) (L : LinkedView) (p : Plan) (f : Fitted) (s : FittedStatus) (after : LinkedView) (is : IsStitching m L p f s after) → IsLaidOut after.arena.lists
    → (tree : Module) → IsWrittenAs after p.prefix tree → (written : LinkedView) → written.arena.lists.library ≡ L.arena.lists.library → IsLinkOf tree written
    → RealisesStatus written.arena.lists (device_of L p is.fits.seen) L.arena.lists s.registers

-- and while the instruction in effect is transparent every pin reads as the netlist's alone; a register's counts as
-- BYPASS
abbrev pub WrittenStatusIsAlone : Type 0
WrittenStatusIsAlone = (m : Module) (L : LinkedView) (p : Plan) (f : Fitted) (s : FittedStatus) (after : LinkedView) (is : IsStitching m L p f s after) → IsLaidOut after.arena.lists
    → (tree : Module) → IsWrittenAs after p.prefix tree → (written : LinkedView) → written.arena.lists.library ≡ L.arena.lists.library → IsLinkOf tree written
    → Alone written.arena.lists (device_of L p is.fits.seen) L.arena.lists

-- from whatever its test logic and the registers hold it finds home
abbrev pub WrittenStatusFindsHome : Type 0
WrittenStatusFindsHome = (m : Module) (L : LinkedView) (p : Plan) (f : Fitted) (s : FittedStatus) (after : LinkedView) (is : IsStitching m L p f s after) → IsLaidOut after.arena.lists
    → (tree : Module) → IsWrittenAs after p.prefix tree → (written : LinkedView) → written.arena.lists.library ≡ L.arena.lists.library → IsLinkOf tree written
    → FindsHomeWithRegisters written.arena.lists (device_of L p is.fits.seen) L.arena.lists s.registers

-- and reads as the netlist alone from there on while the instruction in effect is transparent
abbrev pub WrittenStatusIsAloneFromHome : Type 0
WrittenStatusIsAloneFromHome = (m : Module) (L : LinkedView) (p : Plan) (f : Fitted) (s : FittedStatus) (after : LinkedView) (is : IsStitching m L p f s after) → (written : LinkedView)
    → AloneFromHomeWithRegisters written.arena.lists (device_of L p is.fits.seen) L.arena.lists s.registers

-- the control ports are the netlist's, TCK and TRST
abbrev pub WrittenStatusHasControls : Type 0
WrittenStatusHasControls = (m : Module) (L : LinkedView) (p : Plan) (f : Fitted) (s : FittedStatus) (after : LinkedView) → IsStitching m L p f s after → IsLaidOut after.arena.lists
    → (tree : Module) → IsWrittenAs after p.prefix tree → (written : LinkedView) → written.arena.lists.library ≡ L.arena.lists.library → IsLinkOf tree written
    → HasControls written.arena.lists L.arena.lists
