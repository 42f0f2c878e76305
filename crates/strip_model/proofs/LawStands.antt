-- What the register tells of a tree are operands of a tree.
use Rattle.std.proofs.Common.{◌≡◌, ℕ, List, [], ◌∷◌, drop, reverse, refl, subst, Option, Some, None, option_map, option_and_then, slice_get}
use Rattle.std.specs.Prelude.{IfSome}
use Rattle.std.specs.List.{AllByRecursion}
use Rattle.list_laws.proofs.Lists.{all_at}
use Rattle.cell_library.specs.declared.codes.BoundaryKind.{BoundaryKind}
use Rattle.cell_library.specs.declared.codes.BoundaryKind.TheVariants as kind
use Rattle.cell_library.specs.declared.codes.Function.{Function}
use Rattle.cell_library.specs.declared.codes.Function.TheVariants as function
use Rattle.verilog_tree.specs.declared.tree.Item.{Item}
use Rattle.verilog_tree.specs.declared.tree.Item.TheVariants as item
use Rattle.verilog_tree.specs.declared.tree.Link.{Link}
use Rattle.verilog_tree.specs.declared.tree.Operand.{Operand}
use Rattle.verilog_tree.specs.declared.tree.Operand.TheVariants as operand
use Rattle.verilog_tree.specs.IsTree.{IsTreeItem, IsTreeLink, IsTreeOperand}
use Rattle.bsdl_device.specs.declared.values.CellRow.{CellRow}
use Rattle.strip_model.specs.declared.Side.{Side}
use Rattle.strip_model.specs.declared.Stand.{Stand}
use Rattle.strip_model.specs.Sides.{driven_by, input_stand, linked_at, output_at, output_stand, scalar_of, side_named, side_of, sides, sides_in, stand_at, stand_with, usual_at, with_side}
use Rattle.strip_model.proofs.Operands.{IsTreeSide, all_drop, all_reverse, map_parts, then_parts}

-- every value of an option is an operand of a tree
abbrev AreTree : Option Operand → Type 0
AreTree o = (one : Operand) → o ≡ Some one → IsTreeOperand one

linked_tree : (place : ℕ) (here : Item) (one : Operand) → IsTreeItem here → linked_at place here ≡ Some one → IsTreeOperand one
linked_tree place (item.Gate gate) one is h = absurd (let bad : None ≡ Some one = h in cc)
linked_tree place (item.Assign output input) one is h = absurd (let bad : None ≡ Some one = h in cc)
linked_tree place (item.Instance instance) one is h =
    let parts = then_parts (λ (l : Link). l.operand) (slice_get instance.links place) one h in
    let link = all_at IsTreeLink instance.links place parts.0 is.links parts.1 in
    subst (λ (o : Option Operand). IfSome o IsTreeOperand) parts.2 link.operand

at_tree : (link place : ℕ) (items : List Item) → AllByRecursion IsTreeItem items → AreTree (option_and_then (linked_at link) (slice_get items place))
at_tree link place items all one h =
    let parts = then_parts (linked_at link) (slice_get items place) one h in
    linked_tree link parts.0 one (all_at IsTreeItem items place parts.0 all parts.1) parts.2

driven_tree : (place : ℕ) (items : List Item) → AllByRecursion IsTreeItem items → AreTree (driven_by (slice_get items place))
driven_tree place items all one h = by (slice_get items place) refl h
  where
    by : (o : Option Item) → slice_get items place ≡ o → driven_by o ≡ Some one → IsTreeOperand one
    by None e h = absurd (let bad : None ≡ Some one = h in cc)
    by (Some (item.Instance instance)) e h = absurd (let bad : None ≡ Some one = h in cc)
    by (Some (item.Assign output input)) e h = absurd (let bad : None ≡ Some one = h in cc)
    by (Some (item.Gate gate)) e h =
        let is = all_at IsTreeItem items place (item.Gate gate) all e in
        let there : Some (operand.Bit gate.output) ≡ Some one = h in
        let same : operand.Bit gate.output ≡ one = cc in
        subst IsTreeOperand same is.output

side_tree : (net core : Option Operand) (side : Side) → AreTree core → side_of net core ≡ Some side → IsTreeSide side
side_tree None core side are h = absurd (let bad : None ≡ Some side = h in cc)
side_tree (Some net) None side are h = absurd (let bad : None ≡ Some side = h in cc)
side_tree (Some net) (Some core) side are h = by (scalar_of net) h
  where
    by : (o : Option (List ℕ)) → side_named core o ≡ Some side → IsTreeSide side
    by None h = absurd (let bad : None ≡ Some side = h in cc)
    by (Some name) h =
        let there : ◌≡◌ {A = Option Side} (Some (record { net = name; core = core })) (Some side) = h in
        let same : ◌≡◌ {A = Side} (record { net = name; core = core }) side = cc in
        subst IsTreeSide same (are core refl)

abbrev IsTreeStand : Stand → Type 0
IsTreeStand stand = IfSome stand.side IsTreeSide

stand_tree : (count : ℕ) (net core : Option Operand) (stand : Stand) → AreTree core → stand_with count (side_of net core) ≡ Some stand → IsTreeStand stand
stand_tree count net core stand are h = by (side_of net core) (λ side e. side_tree net core side are e) h
  where
    by : (o : Option Side) → ((side : Side) → o ≡ Some side → IsTreeSide side) → stand_with count o ≡ Some stand → IsTreeStand stand
    by None is h = absurd (let bad : None ≡ Some stand = h in cc)
    by (Some side) is h =
        let there : ◌≡◌ {A = Option Stand} (Some (record { side = Some side; count = count })) (Some stand) = h in
        let same : ◌≡◌ {A = Stand} (record { side = Some side; count = count }) stand = cc in
        subst IsTreeStand same (is side refl)

-- a cell that stands beside tells nothing
beside_tree : (stand : Stand) → ◌≡◌ {A = Option Stand} (Some (record { side = None; count = 3 })) (Some stand) → IsTreeStand stand
beside_tree stand h = let same : ◌≡◌ {A = Stand} (record { side = None; count = 3 }) stand = cc in subst IsTreeStand same tt

input_tree : (cell : BoundaryKind) (items : List Item) (stand : Stand) → AllByRecursion IsTreeItem items → input_stand cell items ≡ Some stand → IsTreeStand stand
input_tree kind.Bc1 items stand all h = stand_tree 6 (output_at 0 items) (usual_at 0 items) stand (at_tree 0 0 items all) h
input_tree kind.Bc2 items stand all h = beside_tree stand h
input_tree kind.Bc4 items stand all h = beside_tree stand h
input_tree kind.Bc7 items stand all h = beside_tree stand h

output_tree : (cell : BoundaryKind) (items : List Item) (pin : Option Operand) (stand : Stand) → AllByRecursion IsTreeItem items → AreTree pin → output_stand cell items pin ≡ Some stand → IsTreeStand stand
output_tree cell items None stand all are h = stand_tree _ (output_at 0 items) (usual_at 0 items) stand (at_tree 0 0 items all) h
output_tree cell items (Some pin) stand all are h = stand_tree _ (usual_at 1 items) (Some pin) stand are h

stands_tree : (role : Function) (cell : BoundaryKind) (items : List Item) (stand : Stand) → AllByRecursion IsTreeItem items → stand_at role cell items ≡ Some stand → IsTreeStand stand
stands_tree function.Input cell items stand all h = input_tree cell items stand all h
stands_tree function.Clock cell items stand all h = input_tree cell items stand all h
stands_tree function.Output2 cell items stand all h = stand_tree _ (usual_at 0 items) (output_at 0 items) stand (at_tree 3 0 items all) h
stands_tree function.Output3 cell items stand all h = output_tree cell items (driven_by (slice_get items 0)) stand all (driven_tree 0 items all) h
stands_tree function.Bidir cell items stand all h = stand_tree 8 (output_at 0 items) (usual_at 0 items) stand (at_tree 0 0 items all) h
stands_tree function.Control cell items stand all h = stand_tree _ (output_at 0 items) (usual_at 1 items) stand (at_tree 0 1 items all) h

with_tree : (side : Option Side) (found : List Side) → IfSome side IsTreeSide → AllByRecursion IsTreeSide found → AllByRecursion IsTreeSide (with_side side found)
with_tree None found is all = all
with_tree (Some side) found is all = (is, all)

in_tree : (rows : List CellRow) (items : List Item) (found : List Side) → AllByRecursion IsTreeItem items → sides_in rows items ≡ Some found → AllByRecursion IsTreeSide found
in_tree [] items found all h = let there : ◌≡◌ {A = Option (List Side)} (Some []) (Some found) = h in let same : [] ≡ found = cc in subst (λ (s : List Side). AllByRecursion IsTreeSide s) same tt
in_tree (row ∷ rows) items found all h =
    let stand = then_parts (λ (s : Stand). option_map (with_side s.side) (sides_in rows (drop s.count items))) (stand_at row.function row.cell items) found h in
    let rest = map_parts (with_side stand.0.side) (sides_in rows (drop stand.0.count items)) found stand.2 in
    let later = in_tree rows (drop stand.0.count items) rest.0 (all_drop IsTreeItem stand.0.count items all) rest.1 in
    subst (λ (s : List Side). AllByRecursion IsTreeSide s) rest.2 (with_tree stand.0.side rest.0 (stands_tree row.function row.cell items stand.0 all stand.1) later)

pub sides_tree : (rows : List CellRow) (items : List Item) (found : List Side) → AllByRecursion IsTreeItem items → sides rows items ≡ Some found → AllByRecursion IsTreeSide found
sides_tree rows items found all h = in_tree rows (drop 7 (reverse items)) found (all_drop IsTreeItem 7 (reverse items) (all_reverse IsTreeItem items all)) h
