-- What `strip` makes of the bytes of a netlist with test logic and of a BSDL text.
-- IEEE Std 1364-2001 for the netlists; IEEE Std 1149.1-2001: boundary-scan register, the annex on BSDL; plans are own.
use Rattle.std.specs.Prelude.{◌≡◌, ℕ, List}
use Rattle.verilog_tree.specs.declared.tree.Module.{Module}
use Rattle.verilog_tree.specs.Texts as verilog
use Rattle.verilog_tree.specs.Canonical.{canonical}
use Rattle.cell_library.specs.declared.listed.ListedCell.{ListedCell}
use Rattle.link_model.specs.Late.{IsLinkable}
use Rattle.netlist_link.specs.Linked.{LinkedView}
use Rattle.netlist_unlink.specs.Trees.{tree_of}
use Rattle.bsdl_device.specs.declared.values.Device.{Device}
use Rattle.bsdl_device.specs.Spelled as bsdl
use Rattle.plan_texts.specs.declared.plan.Plan.{Plan}
use Rattle.plan_texts.specs.Canonical.{canonical_plan}
use Rattle.scan_strip.specs.Stripped.{IsStripped}
use Rattle.scan_strip.specs.strip_model.Answer.{IsNotInserted}

-- The netlist's bytes spell one tree, which can be linked with the library, and the BSDL text's bytes one device.
pub record Tells (library : List ListedCell) (net text : List ℕ) : Type 0 where
  pub tree : Module
  pub spells : verilog.SpellsText net tree
  pub only : (other : Module) → verilog.SpellsText net other → other ≡ tree
  pub linkable : IsLinkable library tree
  pub device : Device
  pub spells_device : bsdl.SpellsText text device
  pub only_device : (other : Device) → bsdl.SpellsText text other → other ≡ device

-- What is recovered of the two gives them: the plan, and the netlist that is linked with the library; and these are the
-- canonical texts of the module that the netlist is written as, and of the plan.
pub record IsStripping (library : List ListedCell) (net text outnet outplan : List ℕ) : Type 0 where
  pub tells : Tells library net text
  pub linked : LinkedView
  pub plan : Plan
  pub stripped : IsStripped library tells.tree tells.device linked plan
  pub net_is : outnet ≡ canonical (tree_of linked plan.prefix)
  pub plan_is : outplan ≡ canonical_plan plan

-- No netlist with the library, and no plan, give the tree and the device.
pub record IsOther (library : List ListedCell) (net text : List ℕ) : Type 0 where
  pub tells : Tells library net text
  pub none : IsNotInserted library tells.tree tells.device

-- own: no fault stands in the bytes of the netlist, with this library, and of the device, and some netlist and
-- plan give the two
pub record IsStrippable (library : List ListedCell) (net text : List ℕ) : Type 0 where
  pub tells : Tells library net text
  pub given : IsNotInserted library tells.tree tells.device → ⊥
