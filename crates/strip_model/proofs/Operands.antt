-- What stands behind an operand of a tree is an operand of a tree.
use Rattle.std.proofs.Common.{◌≡◌, ℕ, zero, suc, Bool, true, false, List, [], ◌∷◌, map, take, drop, filter, reverse, length, refl, sym, subst, Option, Some, None, option_map, option_and_then}
use Rattle.std.specs.Prelude.{IfSome}
use Rattle.std.specs.List.{AllByRecursion}
use Rattle.std.specs.Str.{bytes_eq}
use Rattle.std.proofs.lemmas.List.{reverse-append, length-map}
use Rattle.list_laws.proofs.Lists.{all_append}
use Rattle.verilog_tree.specs.declared.tree.Bit.{Bit}
use Rattle.verilog_tree.specs.declared.tree.Item.{Item}
use Rattle.verilog_tree.specs.declared.tree.Item.TheVariants as item
use Rattle.verilog_tree.specs.declared.tree.Link.{Link}
use Rattle.verilog_tree.specs.declared.tree.Operand.{Operand}
use Rattle.verilog_tree.specs.declared.tree.Operand.TheVariants as operand
use Rattle.verilog_tree.specs.IsTree.{IsTreeBit, IsTreeItem, IsTreeLink, IsTreeOperand}
use Rattle.strip_model.specs.declared.Side.{Side}
use Rattle.strip_model.specs.Sides.{scalar_with}
use Rattle.strip_model.specs.Core.{behind, bit_or, core_bit, core_item, core_link, core_operand, find_side}

-- Lists.

pub all_mapped : {X Y : Type 0} (P : X → Type 0) (Q : Y → Type 0) (f : X → Y) (xs : List X) → ((x : X) → P x → Q (f x)) → AllByRecursion P xs → AllByRecursion Q (map f xs)
all_mapped P Q f [] keeps all = tt
all_mapped P Q f (x ∷ xs) keeps all = (keeps x all.0, all_mapped P Q f xs keeps all.1)

pub all_take : {X : Type 0} (P : X → Type 0) (n : ℕ) (xs : List X) → AllByRecursion P xs → AllByRecursion P (take n xs)
all_take P zero xs all = tt
all_take P (suc n) [] all = tt
all_take P (suc n) (x ∷ xs) all = (all.0, all_take P n xs all.1)

pub all_drop : {X : Type 0} (P : X → Type 0) (n : ℕ) (xs : List X) → AllByRecursion P xs → AllByRecursion P (drop n xs)
all_drop P zero xs all = all
all_drop P (suc n) [] all = tt
all_drop P (suc n) (x ∷ xs) all = all_drop P n xs all.1

pub all_filter : {X : Type 0} (P : X → Type 0) (test : X → Bool) (xs : List X) → AllByRecursion P xs → AllByRecursion P (filter test xs)
all_filter P test [] all = tt
all_filter {X = X} P test (x ∷ xs) all = by (test x) refl (all_filter P test xs all.1)
  where
    by : (b : Bool) → test x ≡ b → AllByRecursion P (filter test xs) → AllByRecursion P (filter test (x ∷ xs))
    by true e rest = rw e (all.0, rest)
    by false e rest = rw e rest

pub all_reverse : {X : Type 0} (P : X → Type 0) (xs : List X) → AllByRecursion P xs → AllByRecursion P (reverse xs)
all_reverse P [] all = tt
all_reverse {X = X} P (x ∷ xs) all =
    let All : List X → Type 0 = AllByRecursion P in
    subst All (sym (reverse-append (x ∷ []) xs)) (all_append P (reverse xs) (x ∷ []) (all_reverse P xs all.1) (all.0, tt))

-- Options.

pub then_parts : {X Y : Type 0} (f : X → Option Y) (o : Option X) (y : Y) → option_and_then f o ≡ Some y → (x : X) × (o ≡ Some x) × (f x ≡ Some y)
then_parts f None y h = absurd (cc)
then_parts f (Some x) y h = (x, refl, h)

pub map_parts : {X Y : Type 0} (f : X → Y) (o : Option X) (y : Y) → option_map f o ≡ Some y → (x : X) × (o ≡ Some x) × (f x ≡ y)
map_parts f None y h = absurd (cc)
map_parts f (Some x) y h = (x, refl, cc)

-- Operands.

abbrev pub IsTreeSide : Side → Type 0
IsTreeSide side = IsTreeOperand side.core

found_tree : (sides : List Side) (name : List ℕ) (one : Operand) → AllByRecursion IsTreeSide sides → find_side sides name ≡ Some one → IsTreeOperand one
found_tree [] name one all h = absurd (cc)
found_tree (side ∷ sides) name one all h = by (bytes_eq name side.net) refl (λ e. found_tree sides name one all.1 e)
  where
    by : (b : Bool) → bytes_eq name side.net ≡ b → (find_side sides name ≡ Some one → IsTreeOperand one) → IsTreeOperand one
    by true e rest = let here : Some side.core ≡ Some one = (rw e at h) in let same : side.core ≡ one = cc in subst IsTreeOperand same all.0
    by false e rest = rest (rw e at h)

behind_tree : (sides : List Side) (one : Operand) → AllByRecursion IsTreeSide sides → IsTreeOperand one → IsTreeOperand (behind sides one)
behind_tree sides (operand.Const value) all is = tt
behind_tree sides (operand.Bit bit) all is = by (option_and_then (find_side sides) (scalar_with bit.index bit.net)) refl
  where
    by : (o : Option Operand) → option_and_then (find_side sides) (scalar_with bit.index bit.net) ≡ o → IsTreeOperand (behind sides (operand.Bit bit))
    by None e = rw e is
    by (Some found) e = let parts = then_parts (find_side sides) (scalar_with bit.index bit.net) found e in rw e (found_tree sides parts.0 found all parts.2)

pub operand_tree : (sides : List Side) (one : Operand) → AllByRecursion IsTreeSide sides → IsTreeOperand one → IsTreeOperand (core_operand sides one)
operand_tree sides one all is = behind_tree sides (behind sides one) all (behind_tree sides one all is)

bit_or_tree : (bit : Bit) (one : Operand) → IsTreeBit bit → IsTreeOperand one → IsTreeBit (bit_or bit one)
bit_or_tree bit (operand.Bit found) is one = one
bit_or_tree bit (operand.Const value) is one = is

bit_tree : (sides : List Side) (bit : Bit) → AllByRecursion IsTreeSide sides → IsTreeBit bit → IsTreeBit (core_bit sides bit)
bit_tree sides bit all is = bit_or_tree bit (core_operand sides (operand.Bit bit)) is (operand_tree sides (operand.Bit bit) all is)

-- Items.

some_tree : (sides : List Side) (o : Option Operand) → AllByRecursion IsTreeSide sides → IfSome o IsTreeOperand → IfSome (option_map (core_operand sides) o) IsTreeOperand
some_tree sides None all is = tt
some_tree sides (Some one) all is = operand_tree sides one all is

link_tree : (sides : List Side) (link : Link) → AllByRecursion IsTreeSide sides → IsTreeLink link → IsTreeLink (core_link sides link)
link_tree sides link all is = record { port = is.port; operand = some_tree sides link.operand all is.operand }

pub item_tree : (sides : List Side) (one : Item) → AllByRecursion IsTreeSide sides → IsTreeItem one → IsTreeItem (core_item sides one)
item_tree sides (item.Gate gate) all is =
    let count : length (map (core_operand sides) gate.inputs) ≡ length gate.inputs = length-map gate.inputs (core_operand sides) in
    record {
      name = is.name;
      output = bit_tree sides gate.output all is.output;
      inputs = all_mapped IsTreeOperand IsTreeOperand (core_operand sides) gate.inputs (λ x h. operand_tree sides x all h) is.inputs;
      reads = rw count is.reads;
      takes = rw count is.takes;
    }
item_tree sides (item.Instance instance) all is = record {
  cell = is.cell;
  name = is.name;
  links = all_mapped IsTreeLink IsTreeLink (core_link sides) instance.links (λ x h. link_tree sides x all h) is.links;
}
item_tree sides (item.Assign output input) all is = record { written = bit_tree sides output all is.written; read = operand_tree sides input all is.read }
