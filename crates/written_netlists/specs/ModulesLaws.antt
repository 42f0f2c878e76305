-- What holds of the module that the netlist with the test logic is written as.
-- IEEE Std 1364-2001: modules and ports, hierarchical names; the statements are own.
use Rattle.std.specs.Prelude.{◌≡◌, ℕ, List, None}
use Rattle.verilog_tree.specs.declared.tree.Module.{Module}
use Rattle.verilog_tree.specs.IsTree.{IsTree}
use Rattle.cell_library.specs.Sound.{IsLibrary}
use Rattle.netlist_model.specs.Formed.{IsLaidOut}
use Rattle.netlist_link.specs.Linked.{LinkedView}
use Rattle.netlist_link.specs.Links.{IsLinkOf}
use Rattle.core_sides.specs.netlist_unlink.Prefixes.{IsFreePrefix}
use Rattle.core_sides.specs.netlist_unlink.Renumbered.{passed_limit, IsWrittenAs}
use Rattle.plan_texts.specs.declared.plan.Plan.{Plan}
use Rattle.plan_texts.specs.Canonical.{IsPlan}
use Rattle.core_sides.specs.plan_fitting.declared.fitted.Fitted.{Fitted}
use Rattle.core_sides.specs.plan_fitting.Devices.{IsFitted}
use Rattle.core_sides.specs.stitched_netlist.Stitched.{stitched}
use Rattle.written_netlists.specs.Written.{IsStitchedOf, HasStitchRoom, WritesStitched, IsNumberedAnew}

-- own: a netlist that a text tells, and a plan that some text spells, fits it and finds room, with the
-- test logic built in
pub record IsStitching (m : Module) (L : LinkedView) (p : Plan) (f : Fitted) (after : LinkedView) : Type 0 where
  pub tree : IsTree m
  pub listed : IsLibrary L.arena.lists.library
  pub linked : IsLinkOf m L
  pub laid : IsLaidOut L.arena.lists
  pub plan : IsPlan p
  pub fits : IsFitted L p f
  pub room : HasStitchRoom L f
  pub is : IsStitchedOf L f after

-- own: it can be written with the plan's prefix
abbrev pub StitchedCanBeWritten : Type 0
StitchedCanBeWritten = (m : Module) (L : LinkedView) (p : Plan) (f : Fitted) (after : LinkedView) → IsStitching m L p f after → IsFreePrefix after p.prefix

-- own: no limit is passed
abbrev pub StitchedKeepsLimits : Type 0
StitchedKeepsLimits = (m : Module) (L : LinkedView) (p : Plan) (f : Fitted) (after : LinkedView) → IsStitching m L p f after → passed_limit after.arena.lists ≡ None

-- own: so it is written
abbrev pub StitchedIsWritten : Type 0
StitchedIsWritten = (m : Module) (L : LinkedView) (p : Plan) (f : Fitted) (after : LinkedView) → IsStitching m L p f after
    → (tree : Module) → IsTree tree → IsWrittenAs after p.prefix tree → WritesStitched L p tree

-- own: and the netlist that the module tells is the one that was written, but for the numbers of nets
abbrev pub StitchedIsRenumbered : Type 0
StitchedIsRenumbered = (L : LinkedView) (f : Fitted) (after : LinkedView) (is : IsStitchedOf L f after) (prefix : List ℕ) (tree : Module) → IsLaidOut after.arena.lists
    → IsWrittenAs after prefix tree → (written : LinkedView) → written.arena.lists.library ≡ L.arena.lists.library → IsLinkOf tree written
    → IsNumberedAnew (stitched L.arena.lists is.names f) written.arena.lists
