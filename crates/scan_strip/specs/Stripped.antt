-- What stripping comes to.
-- IEEE Std 1149.1-2001: boundary-scan register, the annex on BSDL; the statements are own.
use Rattle.std.specs.Prelude.{◌≡◌, ℕ, List, Some}
use Rattle.cell_library.specs.declared.listed.ListedCell.{ListedCell}
use Rattle.verilog_tree.specs.declared.tree.Module.{Module}
use Rattle.bsdl_device.specs.declared.values.Device.{Device}
use Rattle.netlist_link.specs.Linked.{LinkedView, HidesNone}
use Rattle.netlist_link.specs.Links.{IsLinkOf}
use Rattle.netlist_unlink.specs.Trees.{tree_of}
use Rattle.plan_texts.specs.declared.plan.Plan.{Plan}
use Rattle.plan_texts.specs.Canonical.{IsPlan}
use Rattle.plan_fitting.specs.declared.fitted.Fitted.{Fitted}
use Rattle.stitched_netlist.specs.declared.model.TapNames.{TapNames}
use Rattle.written_netlists.specs.InsertedLaws.{with_test_logic}
use Rattle.written_netlists.specs.Prepared.{with_tap_names, AreTapNames}
use Rattle.insertion_inputs.specs.Inputs.{IsFittingAs, IsLinkedTree}
use Rattle.strip_model.specs.Recovered.{recovered}
use Rattle.strip_model.specs.Gives.{GivesAt, Gives}

-- The module and the plan that are recovered give the module with test logic and the device; this is the plan, and the
-- netlist that the module denotes with this library. It hides nothing.
pub record IsStripped (library : List ListedCell) (inserted : Module) (d : Device) (L : LinkedView) (p : Plan) : Type 0 where
  pub tree : Module
  pub found : recovered inserted d ≡ Some (tree, p)
  pub library_is : L.arena.lists.library ≡ library
  pub hides : HidesNone L
  pub gives : Gives tree L p inserted d

-- The module and the plan that are recovered give the module with test logic and the device, by the netlist that the
-- module denotes with this library, which hides nothing; and the module is the one that this netlist is written as.
pub record IsStrippedTree (library : List ListedCell) (inserted : Module) (d : Device) (tree : Module) (p : Plan) : Type 0 where
  pub linked : LinkedView
  pub found : recovered inserted d ≡ Some (tree, p)
  pub library_is : linked.arena.lists.library ≡ library
  pub hides : HidesNone linked
  pub gives : Gives tree linked p inserted d
  pub written : tree ≡ tree_of linked p.prefix

-- own: some text spells the plan, and the netlist and the plan give these
pub record GivesBy (L : LinkedView) (p : Plan) (inserted : Module) (d : Device) : Type 0 where
  pub plan : IsPlan p
  pub at : GivesAt L p inserted d

-- own: the netlist that the module denotes with this library, and that hides nothing, and the plan give these
pub record IsGivenBy (library : List ListedCell) (core : Module) (p : Plan) (inserted : Module) (d : Device) : Type 0 where
  pub linked : LinkedView
  pub links : IsLinkOf core linked
  pub library_is : linked.arena.lists.library ≡ library
  pub hides : HidesNone linked
  pub by : GivesBy linked p inserted d

-- own: the plan was recovered with a module whose netlist this is
pub record IsFound (L : LinkedView) (p : Plan) (inserted : Module) (d : Device) : Type 0 where
  pub tree : IsLinkedTree L
  pub found : recovered inserted d ≡ Some (tree.tree, p)

-- own: a netlist of some tree was made ready for what was fitted, as some text tells
pub record IsReadied (readied : LinkedView) (p : Plan) (f : Fitted) (d : Device) : Type 0 where
  pub text : List ℕ
  pub before : LinkedView
  pub tree : IsLinkedTree before
  pub fitting : IsFittingAs text before p f d readied

-- own: the module is the one that the netlist with the test logic is written as
pub record IsMadeAgain (before : LinkedView) (p : Plan) (f : Fitted) (tree : Module) : Type 0 where
  pub names : TapNames
  pub are : AreTapNames (with_tap_names f before.names) f names
  pub tree_is : tree ≡ tree_of (with_test_logic before names f) p.prefix
