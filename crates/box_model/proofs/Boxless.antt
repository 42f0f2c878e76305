-- Where a library has no boxes and cuts nothing, opening and closing change nothing.
use Rattle.std.proofs.Common.{◌≡◌, ℕ, Bool, true, false, not, List, [], ◌∷◌, ◌++◌, map, take, drop, None, refl, ap, ◌∙◌, append-nil}
use Rattle.std.specs.Prelude.{filter}
use Rattle.std.specs.List.{flat_map, list_any}
use Rattle.std.proofs.lemmas.List.{take-append-drop}
use Rattle.cell_library.specs.declared.listed.ListedCell.{ListedCell}
use Rattle.verilog_tree.specs.declared.tree.Port.{Port}
use Rattle.verilog_tree.specs.declared.tree.Wire.{Wire}
use Rattle.verilog_tree.specs.declared.tree.Item.{Item}
use Rattle.verilog_tree.specs.declared.tree.Item.TheVariants as item
use Rattle.verilog_tree.specs.declared.tree.Module.{Module}
use Rattle.link_model.specs.Lists.{first_in}
use Rattle.box_model.specs.Ports.{of_cells}
use Rattle.box_model.specs.Opened.{opened_item, item_ports, hidden_ports, joins_item, is_kept_wire}
use Rattle.box_model.specs.Closed.{closed_items, added_wires, hides, is_own, ordered_item}
use Rattle.box_model.specs.Faults.{Hidden, item_hidden, link_fault, name_fault, used_names}
use Rattle.box_model.specs.Laws.{BoxlessOpens, BoxlessCloses, BoxlessStaysOrdered, BoxlessIsClear}

opens_none : (cells : List ListedCell) (m : Module) (items : List Item) → flat_map (opened_item (of_cells cells) m) items ≡ items
opens_none cells m [] = refl
opens_none cells m (item.Instance i ∷ items) = ap (λ (more : List Item). item.Instance i ∷ more) (opens_none cells m items)
opens_none cells m (item.Gate g ∷ items) = ap (λ (more : List Item). item.Gate g ∷ more) (opens_none cells m items)
opens_none cells m (item.Assign output input ∷ items) = ap (λ (more : List Item). item.Assign output input ∷ more) (opens_none cells m items)

hides_none : (cells : List ListedCell) (items : List Item) → flat_map (item_ports (of_cells cells)) items ≡ []
hides_none cells [] = refl
hides_none cells (item.Instance i ∷ items) = hides_none cells items
hides_none cells (item.Gate g ∷ items) = hides_none cells items
hides_none cells (item.Assign output input ∷ items) = hides_none cells items

joins_none : (cells : List ListedCell) (m : Module) (w : Wire) (items : List Item) → list_any (joins_item (of_cells cells) m w) items ≡ false
joins_none cells m w [] = refl
joins_none cells m w (item.Instance i ∷ items) = joins_none cells m w items
joins_none cells m w (item.Gate g ∷ items) = joins_none cells m w items
joins_none cells m w (item.Assign output input ∷ items) = joins_none cells m w items

all_kept : {X : Type 0} (test : X → Bool) (xs : List X) → ((x : X) → test x ≡ true) → filter test xs ≡ xs
all_kept test [] all = refl
all_kept test (x ∷ xs) all = rw (all x) (ap (λ more. x ∷ more) (all_kept test xs all))

pub boxless_opens : BoxlessOpens
boxless_opens cells k m =
    let W = filter (is_kept_wire (of_cells cells) m) m.wires in
    let I = flat_map (opened_item (of_cells cells) m) m.items in
    let front : take k m.ports ++ (hidden_ports (of_cells cells) m ++ drop k m.ports) ≡ m.ports =
    ap (λ (more : List Port). take k m.ports ++ (more ++ drop k m.ports)) (hides_none cells m.items) ∙ take-append-drop k m.ports in
    let by_ports : List Port → Module = λ ps. record { name = m.name; ports = ps; wires = W; items = I } in
    let by_wires : List Wire → Module = λ ws. record { name = m.name; ports = m.ports; wires = ws; items = I } in
    let by_items : List Item → Module = λ is. record { name = m.name; ports = m.ports; wires = m.wires; items = is } in
    ap by_ports front
    ∙ ap by_wires (all_kept (is_kept_wire (of_cells cells) m) m.wires (λ w. ap not (joins_none cells m w m.items)))
    ∙ ap by_items (opens_none cells m m.items)

closes_none : (cells : List ListedCell) (m : Module) (items : List Item) → closed_items (of_cells cells) m 0 items ≡ items
closes_none cells m [] = refl
closes_none cells m (item.Instance i ∷ items) = ap (λ (more : List Item). item.Instance i ∷ more) (closes_none cells m items)
closes_none cells m (item.Gate g ∷ items) = ap (λ (more : List Item). item.Gate g ∷ more) (closes_none cells m items)
closes_none cells m (item.Assign output input ∷ items) = ap (λ (more : List Item). item.Assign output input ∷ more) (closes_none cells m items)

adds_none : (cells : List ListedCell) (m : Module) (items : List Item) → added_wires (of_cells cells) m items ≡ []
adds_none cells m [] = refl
adds_none cells m (item.Instance i ∷ items) = adds_none cells m items
adds_none cells m (item.Gate g ∷ items) = adds_none cells m items
adds_none cells m (item.Assign output input ∷ items) = adds_none cells m items

owns_all : (cells : List ListedCell) (name : List ℕ) (items : List Item) → list_any (hides (of_cells cells) name) items ≡ false
owns_all cells name [] = refl
owns_all cells name (item.Instance i ∷ items) = owns_all cells name items
owns_all cells name (item.Gate g ∷ items) = owns_all cells name items
owns_all cells name (item.Assign output input ∷ items) = owns_all cells name items

pub boxless_closes : BoxlessCloses
boxless_closes cells m =
    let W = m.wires ++ added_wires (of_cells cells) m m.items in
    let I = closed_items (of_cells cells) m 0 m.items in
    let by_ports : List Port → Module = λ ps. record { name = m.name; ports = ps; wires = W; items = I } in
    let by_wires : List Wire → Module = λ ws. record { name = m.name; ports = m.ports; wires = ws; items = I } in
    let by_items : List Item → Module = λ is. record { name = m.name; ports = m.ports; wires = m.wires; items = is } in
    ap by_ports (all_kept (is_own (of_cells cells) m) m.ports (λ p. ap not (owns_all cells p.name m.items)))
    ∙ ap by_wires (ap (λ (more : List Wire). m.wires ++ more) (adds_none cells m m.items) ∙ append-nil m.wires)
    ∙ ap by_items (closes_none cells m m.items)

orders_none : (cells : List ListedCell) (items : List Item) → map (ordered_item (of_cells cells)) items ≡ items
orders_none cells [] = refl
orders_none cells (item.Instance i ∷ items) = ap (λ (more : List Item). item.Instance i ∷ more) (orders_none cells items)
orders_none cells (item.Gate g ∷ items) = ap (λ (more : List Item). item.Gate g ∷ more) (orders_none cells items)
orders_none cells (item.Assign output input ∷ items) = ap (λ (more : List Item). item.Assign output input ∷ more) (orders_none cells items)

pub boxless_stays_ordered : BoxlessStaysOrdered
boxless_stays_ordered cells m = ap (λ (items : List Item). record m { items = items }) (orders_none cells m.items)

links_none : (cells : List ListedCell) (m : Module) (items : List Item) → first_in (link_fault (of_cells cells) m) items ≡ None
links_none cells m [] = refl
links_none cells m (item.Instance i ∷ items) = links_none cells m items
links_none cells m (item.Gate g ∷ items) = links_none cells m items
links_none cells m (item.Assign output input ∷ items) = links_none cells m items

names_none : (cells : List ListedCell) (m : Module) (items : List Item) → flat_map (item_hidden (of_cells cells) m) items ≡ []
names_none cells m [] = refl
names_none cells m (item.Instance i ∷ items) = names_none cells m items
names_none cells m (item.Gate g ∷ items) = names_none cells m items
names_none cells m (item.Assign output input ∷ items) = names_none cells m items

pub boxless_is_clear : BoxlessIsClear
boxless_is_clear cells m = rw (links_none cells m m.items) (ap (λ (hs : List Hidden). name_fault (used_names m) [] hs) (names_none cells m m.items))
