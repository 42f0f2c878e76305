-- What is known of `strip` from its parts.
use Rattle.std.proofs.Common.{◌≡◌, ℕ, List, [], ◌∷◌, refl, sym, ap, subst}
use Rattle.verilog_texts.specs.TextOutcome.{IsReadAs}
use Rattle.verilog_tree.specs.declared.tree.Module.{Module}
use Rattle.verilog_tree.specs.Canonical.{canonical}
use Rattle.cell_library.specs.declared.listed.ListedCell.{ListedCell}
use Rattle.link_model.specs.Late.{IsLinkable}
use Rattle.netlist_link.specs.Linked.{LinkedView}
use Rattle.netlist_link.specs.Links.{IsLinkOf}
use Rattle.bsdl_device.specs.declared.fault.DeviceTextFault.{DeviceTextFault}
use Rattle.bsdl_device.specs.declared.values.Device.{Device}
use Rattle.bsdl_values.specs.TextOutcome.{IsDeviceReadAs}
use Rattle.bsdl_values.specs.TextFaults.{IsDeviceTextFault}
use Rattle.plan_texts.specs.declared.plan.Plan.{Plan}
use Rattle.plan_texts.specs.Canonical.{canonical_plan}
use Rattle.scan_strip.specs.Stripped.{IsStrippedTree}
use Rattle.command_faults.specs.declared.fault.Fault.{Fault}
use Rattle.command_faults.specs.declared.fault.Fault.TheVariants as fault
use Rattle.command_faults.specs.declared.status.Status.{Status}
use Rattle.command_faults.specs.declared.status.Status.TheVariants.{Done}
use Rattle.strip_command.specs.Strippings.{Tells, IsStripping}
use Rattle.strip_command.specs.Faults.{HasDeviceFault, StandsInBoth, StandsInTree, StandsInInputs}
use Rattle.strip_command.specs.Tasks.{IsStrippedTexts}

pub told : (library : List ListedCell) (net text : List ℕ) (tree : Module) (d : Device) → IsReadAs net tree → IsLinkable library tree → IsDeviceReadAs text d → Tells library net text
told library net text tree d read can device = record {
  tree = tree;
  spells = read.spells;
  only = read.only;
  linkable = can;
  device = d;
  spells_device = device.spells;
  only_device = device.only;
}

-- a fault of linking is one of the bytes
pub tree_stands : (library : List ListedCell) (net text : List ℕ) (tree : Module) (f : Fault) → IsReadAs net tree → StandsInTree library tree f → StandsInInputs library net text f
tree_stands library net text tree (fault.Link f) read bad = record { tree = tree; spells = read.spells; only = read.only; fault = bad }
tree_stands library net text tree fault.OutOfMemory read bad = tt
tree_stands library net text tree f read bad = absurd bad

-- a fault of the device stands behind a netlist that can be linked
pub device_stands : (library : List ListedCell) (net text : List ℕ) (tree : Module) (f : DeviceTextFault) → IsReadAs net tree → IsLinkable library tree → IsDeviceTextFault text f → HasDeviceFault library net text f
device_stands library net text tree f read can bad = record { tree = tree; spells = read.spells; linkable = can; fault = bad }

-- what can be linked
pub can_link : (library : List ListedCell) (tree : Module) (linked : LinkedView) → IsLinkOf tree linked → linked.arena.lists.library ≡ library → IsLinkable library tree
can_link library tree linked links same = subst (λ (l : List ListedCell). IsLinkable l tree) same links.linkable

-- a fault of stripping
pub both_stands : (library : List ListedCell) (net text : List ℕ) (tree : Module) (d : Device) (f : Fault) → IsReadAs net tree → IsLinkable library tree → IsDeviceReadAs text d
    → StandsInBoth library tree d f → StandsInInputs library net text f
unfolding told
both_stands library net text tree d fault.NotInserted read can device none = record { tells = told library net text tree d read can device; none = none }
both_stands library net text tree d fault.OutOfMemory read can device none = tt
both_stands library net text tree d f read can device none = absurd none

-- The texts of an answer.

-- the module is its netlist as it is written
pub texts_made : (library : List ListedCell) (net text : List ℕ) (tree : Module) (d : Device) (core : Module) (p : Plan) (outputs : List (List ℕ)) (put : List ℕ) (end : Status)
    → IsReadAs net tree → IsLinkable library tree → IsDeviceReadAs text d → IsStrippedTree library tree d core p → outputs ≡ canonical core ∷ canonical_plan p ∷ [] → end ≡ Done
    → IsStrippedTexts library net text outputs put end
unfolding told
texts_made library net text tree d core p outputs put end read can device s are done =
    let is : IsStripping library net text (canonical core) (canonical_plan p) = record {
      tells = told library net text tree d read can device;
      linked = s.linked;
      plan = p;
      stripped = record { tree = core; found = s.found; library_is = s.library_is; hides = s.hides; gives = s.gives };
      net_is = ap canonical s.written;
      plan_is = refl;
    } in
    subst (λ (texts : List (List ℕ)). IsStrippedTexts library net text texts put end) (sym are) (is, done)
