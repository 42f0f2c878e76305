-- What opening puts behind an instance are assigns alone: they hide nothing, and closing adds no wire for them.
use Rattle.std.proofs.Common.{◌≡◌, ℕ, Bool, true, false, ◌||◌, List, [], ◌∷◌, ◌++◌, Option, Some, None, refl, ap, ◌∙◌, if◌then◌else◌}
use Rattle.std.specs.List.{flat_map, list_any, AllByRecursion}
use Rattle.std.specs.Option.{option_map_or}
use Rattle.list_laws.proofs.Lists.{all_append}
use Rattle.list_laws.proofs.Tests.{or_false}
use Rattle.std.proofs.lemmas.List.Folds.{list_any-append}
use Rattle.verilog_tree.specs.declared.tree.Bit.{Bit}
use Rattle.verilog_tree.specs.declared.tree.Operand.{Operand}
use Rattle.verilog_tree.specs.declared.tree.Operand.TheVariants as operand
use Rattle.verilog_tree.specs.declared.tree.Instance.{Instance}
use Rattle.verilog_tree.specs.declared.tree.Item.{Item}
use Rattle.verilog_tree.specs.declared.tree.Item.TheVariants as item
use Rattle.verilog_tree.specs.declared.tree.Module.{Module}
use Rattle.box_model.specs.declared.boxes.BoxLibrary.{BoxLibrary}
use Rattle.box_model.specs.declared.boxes.BoxPort.{BoxPort}
use Rattle.box_model.specs.declared.boxes.BoxDir.{BoxDir}
use Rattle.box_model.specs.declared.boxes.BoxDir.TheVariants.{Takes, Gives}
use Rattle.box_model.specs.Ports.{cut_ports, hidden_bits, linked_to}
use Rattle.box_model.specs.Opened.{is_joined, link_bits, assigns, port_items, opened_instance, opened_item}
use Rattle.box_model.specs.Closed.{added_wires, hides}

abbrev pub IsAssign : Item → Type 0
IsAssign (item.Assign output input) = Unit {0}
IsAssign (item.Gate g) = ⊥
IsAssign (item.Instance i) = ⊥

pub assigns_are : (d : BoxDir) (bs : List Bit) (os : List Operand) → AllByRecursion IsAssign (assigns d bs os)
assigns_are d [] os = tt
assigns_are d (b ∷ bs) [] = tt
assigns_are Gives (b ∷ bs) (operand.Bit c ∷ os) = (tt, assigns_are Gives bs os)
assigns_are Gives (b ∷ bs) (operand.Const value ∷ os) = assigns_are Gives bs os
assigns_are Takes (b ∷ bs) (o ∷ os) = (tt, assigns_are Takes bs os)

port_are : (m : Module) (i : Instance) (p : BoxPort) → AllByRecursion IsAssign (port_items m i p)
port_are m i p = by (linked_to i.links p.name)
  where
    chosen : (o : Operand) (b : Bool) → AllByRecursion IsAssign (if b then [] else assigns p.dir (hidden_bits i p) (link_bits m p o))
    chosen o true = tt
    chosen o false = assigns_are p.dir (hidden_bits i p) (link_bits m p o)

    by : (o : Option Operand) → AllByRecursion IsAssign (option_map_or (λ o. if is_joined m i p o then [] else assigns p.dir (hidden_bits i p) (link_bits m p o)) o [])
    by None = tt
    by (Some o) = chosen o (is_joined m i p o)

pub ports_are : (m : Module) (i : Instance) (ports : List BoxPort) → AllByRecursion IsAssign (flat_map (port_items m i) ports)
ports_are m i [] = tt
ports_are m i (p ∷ ports) = all_append IsAssign (port_items m i p) (flat_map (port_items m i) ports) (port_are m i p) (ports_are m i ports)

-- assigns add no wire
pub assigns_add : (B : BoxLibrary) (m : Module) (xs rest : List Item) → AllByRecursion IsAssign xs → added_wires B m (xs ++ rest) ≡ added_wires B m rest
assigns_add B m [] rest all = refl
assigns_add B m (item.Assign output input ∷ xs) rest all = assigns_add B m xs rest all.1
assigns_add B m (item.Gate g ∷ xs) rest all = absurd all.0
assigns_add B m (item.Instance i ∷ xs) rest all = absurd all.0

-- assigns hide nothing
pub assigns_hide : (B : BoxLibrary) (name : List ℕ) (xs : List Item) → AllByRecursion IsAssign xs → list_any (hides B name) xs ≡ false
assigns_hide B name [] all = refl
assigns_hide B name (item.Assign output input ∷ xs) all = assigns_hide B name xs all.1
assigns_hide B name (item.Gate g ∷ xs) all = absurd all.0
assigns_hide B name (item.Instance i ∷ xs) all = absurd all.0

-- an opened module hides the same names
pub hides-opened : (B : BoxLibrary) (m : Module) (name : List ℕ) (items : List Item) → list_any (hides B name) (flat_map (opened_item B m) items) ≡ list_any (hides B name) items
hides-opened B m name [] = refl
hides-opened B m name (i ∷ items) = list_any-append (hides B name) (opened_item B m i) (flat_map (opened_item B m) items) ∙ ap (λ (b : Bool). list_any (hides B name) (opened_item B m i) || b) (hides-opened B m name items) ∙ ap (λ (b : Bool). b || list_any (hides B name) items) (one i)
  where
    cut : (i : Instance) (o : Option (List BoxPort)) → list_any (hides B name) (option_map_or (opened_instance m i) o (item.Instance i ∷ [])) ≡ hides B name (item.Instance i)
    cut i None = or_false (hides B name (item.Instance i))
    cut i (Some ports) = ap (λ (b : Bool). hides B name (item.Instance i) || b) (assigns_hide B name (flat_map (port_items m i) ports) (ports_are m i ports)) ∙ or_false (hides B name (item.Instance i))

    one : (x : Item) → list_any (hides B name) (opened_item B m x) ≡ hides B name x
    one (item.Gate g) = refl
    one (item.Assign output input) = refl
    one (item.Instance i) = cut i (cut_ports B i)
