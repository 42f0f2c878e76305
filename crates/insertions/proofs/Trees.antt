-- The tree of a netlist is that of each netlist with the same library, ports, nets and live cells.
use Rattle.std.proofs.Common.{◌≡◌, ℕ, suc, ◌+◌, List, [], ◌∷◌, ◌++◌, map, refl, ap, ◌∙◌, Option, Some, None, slice_get}
use Rattle.verilog_tree.specs.declared.tree.Item.{Item}
use Rattle.verilog_tree.specs.declared.tree.Module.{Module}
use Rattle.cell_library.specs.declared.listed.ListedCell.{ListedCell}
use Rattle.netlist_model.specs.Lists.{PortView, NetView, CellView, NetlistView, live_cell}
use Rattle.netlist_link.specs.Linked.{LinkedView}
use Rattle.netlist_unlink.specs.Rows.{rows}
use Rattle.netlist_unlink.specs.Trees.{Naming, item_of, items_from, port_of, wire_of, added_from, tree_of}
use Rattle.plan_fitting.specs.declared.fitted.Fitted.{Fitted}
use Rattle.stitched_netlist.specs.declared.model.TapNames.{TapNames}
use Rattle.stitched_netlist.specs.Stitched.{stitched}
use Rattle.written_netlists.specs.Prepared.{with_tap_names}
use Rattle.written_netlists.specs.Same.{IsSameNetlist}
use Rattle.written_netlists.specs.InsertedLaws.{with_test_logic}

same_cell : (a b : CellView) → Some a ≡ Some b → a ≡ b
same_cell a b e = cc

no_cell : (a : CellView) → None ≡ Some a → ⊥
no_cell a e = cc

some_cell : (a : CellView) → Some a ≡ None → ⊥
some_cell a e = cc

same_items : (naming : Naming) (number : ℕ) (one other : List (Option CellView)) → ((i : ℕ) → live_cell (slice_get one i) ≡ live_cell (slice_get other i))
    → items_from naming number one ≡ items_from naming number other
same_items naming number [] [] same = refl
same_items naming number [] (None ∷ other) same = same_items naming (number + 1) [] other (λ i. same (suc i))
same_items naming number [] (Some b ∷ other) same = absurd (no_cell b (same 0))
same_items naming number (None ∷ one) [] same = same_items naming (number + 1) one [] (λ i. same (suc i))
same_items naming number (Some a ∷ one) [] same = absurd (some_cell a (same 0))
same_items naming number (None ∷ one) (None ∷ other) same = same_items naming (number + 1) one other (λ i. same (suc i))
same_items naming number (None ∷ one) (Some b ∷ other) same = absurd (no_cell b (same 0))
same_items naming number (Some a ∷ one) (None ∷ other) same = absurd (some_cell a (same 0))
same_items naming number (Some a ∷ one) (Some b ∷ other) same =
    ap (λ (c : CellView). item_of naming number c ∷ items_from naming (number + 1) one) (same_cell a b (same 0))
    ∙ ap (λ (rest : List Item). item_of naming number b ∷ rest) (same_items naming (number + 1) one other (λ i. same (suc i)))

-- what a tree is made of
abbrev tree_from : List ℕ → List (List ℕ) → List ℕ → List PortView → List NetView → List Item → Module
tree_from title table prefix ports nets items = record {
  name = title;
  ports = map (port_of table) ports;
  wires = map (wire_of table) (rows ports nets) ++ added_from prefix 0 nets;
  items = items;
}

abbrev items_of : List ListedCell → List (List ℕ) → List ℕ → List NetView → List (Option CellView) → List Item
items_of library table prefix nets cells = items_from (record { library = library; table = table; prefix = prefix; nets = nets }) 0 cells

pub tree_is : (L after : LinkedView) (names : TapNames) (f : Fitted) (prefix : List ℕ) → after.module_name ≡ L.module_name → after.names ≡ with_tap_names f L.names
    → IsSameNetlist after.arena.lists (stitched L.arena.lists names f) → tree_of after prefix ≡ tree_of (with_test_logic L names f) prefix
tree_is L after names f prefix title table same =
    let A : NetlistView = after.arena.lists in
    let S : NetlistView = stitched L.arena.lists names f in
    let table' : List (List ℕ) = with_tap_names f L.names in
    ap (λ (l : List ListedCell). tree_from after.module_name after.names prefix A.ports A.nets (items_of l after.names prefix A.nets A.cells)) same.library
    ∙ ap (λ (t : List ℕ). tree_from t after.names prefix A.ports A.nets (items_of S.library after.names prefix A.nets A.cells)) title
    ∙ ap (λ (t : List (List ℕ)). tree_from L.module_name t prefix A.ports A.nets (items_of S.library t prefix A.nets A.cells)) table
    ∙ ap (λ (ports : List PortView). tree_from L.module_name table' prefix ports A.nets (items_of S.library table' prefix A.nets A.cells)) same.ports
    ∙ ap (λ (nets : List NetView). tree_from L.module_name table' prefix S.ports nets (items_of S.library table' prefix nets A.cells)) same.nets
    ∙ ap (tree_from L.module_name table' prefix S.ports S.nets) (same_items (record { library = S.library; table = table'; prefix = prefix; nets = S.nets }) 0 A.cells S.cells same.cells)
