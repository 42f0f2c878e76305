-- The recovered module is a tree.
use Rattle.std.proofs.Common.{◌≡◌, ℕ, zero, suc, ◌-◌, Bool, true, false, ◌||◌, ◌&&◌, List, [], ◌∷◌, take, filter, length, refl, ap, subst}
use Rattle.std.specs.Bool.{IsFalse}
use Rattle.std.specs.List.{AllByRecursion}
use Rattle.std.specs.Str.{bytes_eq}
use Rattle.verilog_tree.specs.declared.tree.Item.{Item}
use Rattle.verilog_tree.specs.declared.tree.Module.{Module}
use Rattle.verilog_tree.specs.declared.tree.Port.{Port}
use Rattle.verilog_tree.specs.declared.tree.Wire.{Wire}
use Rattle.verilog_tree.specs.Trees.{is_port_net, range_eq}
use Rattle.verilog_tree.specs.IsTree.{IsTree, IsTreeItem, IsTreePort, IsTreeWire}
use Rattle.plan_texts.specs.declared.plan.Plan.{Plan}
use Rattle.strip_model.specs.declared.Side.{Side}
use Rattle.strip_model.specs.Sides.{sides}
use Rattle.strip_model.specs.Core.{before_added, core_item, core_module, is_added, is_own_wire}
use Rattle.strip_model.specs.Prefix.{prefix_of}
use Rattle.strip_model.specs.Plans.{plan_of}
use Rattle.strip_model.specs.Recovered.{recovered_with}
use Rattle.strip_model.specs.Tree.{CoreIsTree}
use Rattle.strip_model.proofs.Operands.{IsTreeSide, all_filter, all_mapped, all_take, item_tree, map_parts, then_parts}
use Rattle.strip_model.proofs.LawStands.{sides_tree}

before_tree : (prefix : List ℕ) (items : List Item) → AllByRecursion IsTreeItem items → AllByRecursion IsTreeItem (before_added prefix items)
before_tree prefix [] all = tt
before_tree prefix (one ∷ items) all = by (is_added prefix one) refl (before_tree prefix items all.1)
  where
    by : (b : Bool) → is_added prefix one ≡ b → AllByRecursion IsTreeItem (before_added prefix items) → AllByRecursion IsTreeItem (before_added prefix (one ∷ items))
    by true e rest = rw e tt
    by false e rest = rw e (all.0, rest)

-- a wire that has no port's name has none of fewer ports
fewer_ports : (n : ℕ) (ports : List Port) (wire : Wire) → IsFalse (is_port_net ports wire) → IsFalse (is_port_net (take n ports) wire)
fewer_ports zero ports wire h = refl
fewer_ports (suc n) [] wire h = h
fewer_ports (suc n) (p ∷ ports) wire h = by (bytes_eq p.name wire.name && range_eq p.range wire.range) h (λ e. fewer_ports n ports wire e)
  where
    by : (b : Bool) → IsFalse (b || is_port_net ports wire) → (IsFalse (is_port_net ports wire) → IsFalse (is_port_net (take n ports) wire)) → IsFalse (b || is_port_net (take n ports) wire)
    by true h rest = h
    by false h rest = rest h

wires_apart : (n : ℕ) (ports : List Port) (wires : List Wire) → AllByRecursion (λ (wire : Wire). IsFalse (is_port_net ports wire)) wires → AllByRecursion (λ (wire : Wire). IsFalse (is_port_net (take n ports) wire)) wires
wires_apart n ports [] all = tt
wires_apart n ports (wire ∷ wires) all = (fewer_ports n ports wire all.0, wires_apart n ports wires all.1)

module_tree : (prefix : List ℕ) (found : List Side) (tree : Module) → AllByRecursion IsTreeSide found → IsTree tree → IsTree (core_module prefix found tree)
module_tree prefix found tree all is =
    let n : ℕ = length tree.ports - 5 in
    record {
      name = is.name;
      ports = all_take IsTreePort n tree.ports is.ports;
      wires = all_filter IsTreeWire (is_own_wire prefix) tree.wires is.wires;
      items = all_mapped IsTreeItem IsTreeItem (core_item found) (before_added prefix tree.items) (λ x h. item_tree found x all h) (before_tree prefix tree.items is.items);
      own_nets = wires_apart n tree.ports (filter (is_own_wire prefix) tree.wires)
          (all_filter (λ (wire : Wire). IsFalse (is_port_net tree.ports wire)) (is_own_wire prefix) tree.wires is.own_nets);
    }

pub core_is_tree : CoreIsTree
core_is_tree tree core d plan is h =
    let prefix = then_parts _ (prefix_of tree.items) (core, plan) h in
    let found = then_parts (recovered_with tree d prefix.0) (sides d.cells tree.items) (core, plan) prefix.2 in
    let told = map_parts (λ (p : Plan). (core_module prefix.0 found.0 tree, p)) (plan_of prefix.0 d) (core, plan) found.2 in
    let same : core_module prefix.0 found.0 tree ≡ core = ap (λ (pair : Module × Plan). pair.0) told.2 in
    subst IsTree same (module_tree prefix.0 found.0 tree (sides_tree d.cells tree.items found.0 is.items found.1) is)
