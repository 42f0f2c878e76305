-- Closing an opened module gives it back, with the links of boxes in the order of their ports.
use Rattle.std.proofs.Common.{◌≡◌, ℕ, false, List, [], ◌∷◌, ◌++◌, Option, Some, None, refl, ap, ◌∙◌, append-nil}
use Rattle.std.specs.Prelude.{filter}
use Rattle.std.specs.List.{flat_map}
use Rattle.verilog_tree.specs.declared.tree.Port.{Port}
use Rattle.verilog_tree.specs.declared.tree.Wire.{Wire}
use Rattle.verilog_tree.specs.declared.tree.Instance.{Instance}
use Rattle.verilog_tree.specs.declared.tree.Item.{Item}
use Rattle.verilog_tree.specs.declared.tree.Item.TheVariants as item
use Rattle.verilog_tree.specs.declared.tree.Module.{Module}
use Rattle.box_model.specs.declared.boxes.BoxLibrary.{BoxLibrary}
use Rattle.box_model.specs.declared.boxes.BoxPort.{BoxPort}
use Rattle.box_model.specs.Ports.{cut_ports, other_links}
use Rattle.box_model.specs.Opened.{port_items, opened_item, opened}
use Rattle.box_model.specs.Closed.{Closing, closing, closed_items, added_wires, is_own, closed, ordered}
use Rattle.box_model.specs.Laws.{IsUnjoined}
use Rattle.box_model.proofs.Assigns.{ports_are, assigns_add}
use Rattle.box_model.proofs.Back.{back, bare, closing_back}
use Rattle.box_model.proofs.Items.{ItemsGoBack, opened_none, opened_some, closed_items_back}

pub added_none : (B : BoxLibrary) (m : Module) (i : Instance) (items : List Item) → cut_ports B i ≡ None → added_wires B m (item.Instance i ∷ items) ≡ added_wires B m items
added_none B m i items e = rw e refl

pub added_some : (B : BoxLibrary) (m : Module) (i : Instance) (ports : List BoxPort) (c : Closing) (items : List Item) → cut_ports B i ≡ Some ports → closing m i false ports items ≡ c
    → added_wires B m (item.Instance i ∷ items) ≡ c.wires ++ added_wires B m items
added_some B m i ports c items e f = rw (e, f) refl

added_back : (B : BoxLibrary) (m m' : Module) (items : List Item) → ItemsGoBack B m m' items → added_wires B m' (flat_map (opened_item B m) items) ≡ []
added_back B m m' [] all = refl
added_back B m m' (item.Gate g ∷ items) all = added_back B m m' items all.1
added_back B m m' (item.Assign output input ∷ items) all = added_back B m m' items all.1
added_back B m m' (item.Instance i ∷ items) all = by (cut_ports B i) refl (added_back B m m' items all.1)
  where
    by : (o : Option (List BoxPort)) → cut_ports B i ≡ o → added_wires B m' (flat_map (opened_item B m) items) ≡ []
        → added_wires B m' (flat_map (opened_item B m) (item.Instance i ∷ items)) ≡ []
    by None e next =
        let rest = flat_map (opened_item B m) items in
        ap (λ (xs : List Item). added_wires B m' (xs ++ rest)) (opened_none B m i e) ∙ added_none B m' i rest e ∙ next
    by (Some ports) e next =
        let rest = flat_map (opened_item B m) items in
        let mine = flat_map (port_items m i) ports in
        let links = other_links ports i.links in
        ap (λ (xs : List Item). added_wires B m' (xs ++ rest)) (opened_some B m i ports e)
        ∙ added_some B m' (bare i links) ports (back m i ports) (mine ++ rest) e (closing_back m m' i links ports rest (all.0 ports e))
        ∙ assigns_add B m' mine rest (ports_are m i ports) ∙ next

-- its own ports are told from the hidden ones, nothing is joined, and each link fits
pub closed_back : (B : BoxLibrary) (k : ℕ) (m : Module) → filter (is_own B (opened B k m)) (opened B k m).ports ≡ m.ports → IsUnjoined B m
    → ItemsGoBack B m (opened B k m) m.items → closed B (opened B k m) ≡ ordered B m
closed_back B k m own unjoined all =
    let m' = opened B k m in
    let W = m'.wires ++ added_wires B m' m'.items in
    let I = closed_items B m' 0 m'.items in
    let by_ports : List Port → Module = λ ps. record { name = m.name; ports = ps; wires = W; items = I } in
    let by_wires : List Wire → Module = λ ws. record { name = m.name; ports = m.ports; wires = ws; items = I } in
    let by_items : List Item → Module = λ is. record { name = m.name; ports = m.ports; wires = m.wires; items = is } in
    ap by_ports own
    ∙ ap by_wires (ap (λ (more : List Wire). m'.wires ++ more) (added_back B m m' m.items all) ∙ append-nil m'.wires ∙ unjoined)
    ∙ ap by_items (closed_items_back B m m' m.items all)
