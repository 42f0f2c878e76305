-- Closing the items of an opened module gives back its items, with the links of boxes in the order of their ports.
use Rattle.std.proofs.Common.{◌≡◌, false, List, [], ◌∷◌, ◌++◌, map, length, Option, Some, None, refl, ap, sym, ◌∙◌}
use Rattle.std.specs.List.{flat_map, AllByRecursion}
use Rattle.verilog_tree.specs.declared.tree.Instance.{Instance}
use Rattle.verilog_tree.specs.declared.tree.Item.{Item}
use Rattle.verilog_tree.specs.declared.tree.Item.TheVariants as item
use Rattle.verilog_tree.specs.declared.tree.Module.{Module}
use Rattle.box_model.specs.declared.boxes.BoxLibrary.{BoxLibrary}
use Rattle.box_model.specs.declared.boxes.BoxPort.{BoxPort}
use Rattle.box_model.specs.Ports.{cut_ports, other_links}
use Rattle.box_model.specs.Opened.{port_items, opened_item}
use Rattle.box_model.specs.Closed.{Closing, closing, closed_items, ordered_item}
use Rattle.box_model.proofs.Back.{AllGoBack, back, back_links, bare, closing_back}

-- items that go are skipped
skipped : (B : BoxLibrary) (m : Module) (gone rest : List Item) → closed_items B m (length gone) (gone ++ rest) ≡ closed_items B m 0 rest
skipped B m [] rest = refl
skipped B m (i ∷ gone) rest = skipped B m gone rest

-- each box instance is given back
abbrev pub ItemGoesBack : BoxLibrary → Module → Module → Item → Type 0
ItemGoesBack B m m' (item.Instance i) = (ports : List BoxPort) → cut_ports B i ≡ Some ports → AllGoBack m m' i ports
ItemGoesBack B m m' (item.Gate g) = Unit {0}
ItemGoesBack B m m' (item.Assign output input) = Unit {0}

abbrev pub ItemsGoBack : BoxLibrary → Module → Module → List Item → Type 0
ItemsGoBack B m m' items = AllByRecursion (ItemGoesBack B m m') items

pub opened_none : (B : BoxLibrary) (m : Module) (i : Instance) → cut_ports B i ≡ None → opened_item B m (item.Instance i) ≡ item.Instance i ∷ []
opened_none B m i e = rw e refl

pub opened_some : (B : BoxLibrary) (m : Module) (i : Instance) (ports : List BoxPort) → cut_ports B i ≡ Some ports
    → opened_item B m (item.Instance i) ≡ item.Instance (bare i (other_links ports i.links)) ∷ flat_map (port_items m i) ports
opened_some B m i ports e = rw e refl

pub closed_none : (B : BoxLibrary) (m : Module) (i : Instance) (rest : List Item) → cut_ports B i ≡ None
    → closed_items B m 0 (item.Instance i ∷ rest) ≡ item.Instance i ∷ closed_items B m 0 rest
closed_none B m i rest e = rw e refl

pub closed_some : (B : BoxLibrary) (m : Module) (i : Instance) (ports : List BoxPort) (c : Closing) (items : List Item) → cut_ports B i ≡ Some ports → closing m i false ports items ≡ c
    → closed_items B m 0 (item.Instance i ∷ items) ≡ item.Instance (record i { links = i.links ++ c.links }) ∷ closed_items B m c.gone items
closed_some B m i ports c items e f = rw (e, f) refl

ordered_none : (B : BoxLibrary) (i : Instance) → cut_ports B i ≡ None → ordered_item B (item.Instance i) ≡ item.Instance i
ordered_none B i e = rw e refl

ordered_some : (B : BoxLibrary) (i : Instance) (ports : List BoxPort) → cut_ports B i ≡ Some ports
    → ordered_item B (item.Instance i) ≡ item.Instance (record i { links = other_links ports i.links ++ back_links i ports })
ordered_some B i ports e = rw e refl

pub closed_items_back : (B : BoxLibrary) (m m' : Module) (items : List Item) → ItemsGoBack B m m' items
    → closed_items B m' 0 (flat_map (opened_item B m) items) ≡ map (ordered_item B) items
closed_items_back B m m' [] all = refl
closed_items_back B m m' (item.Gate g ∷ items) all = ap (λ (more : List Item). item.Gate g ∷ more) (closed_items_back B m m' items all.1)
closed_items_back B m m' (item.Assign output input ∷ items) all = ap (λ (more : List Item). item.Assign output input ∷ more) (closed_items_back B m m' items all.1)
closed_items_back B m m' (item.Instance i ∷ items) all = by (cut_ports B i) refl (closed_items_back B m m' items all.1)
  where
    by : (o : Option (List BoxPort)) → cut_ports B i ≡ o → closed_items B m' 0 (flat_map (opened_item B m) items) ≡ map (ordered_item B) items
        → closed_items B m' 0 (flat_map (opened_item B m) (item.Instance i ∷ items)) ≡ map (ordered_item B) (item.Instance i ∷ items)
    by None e next =
        let rest = flat_map (opened_item B m) items in
        ap (λ (xs : List Item). closed_items B m' 0 (xs ++ rest)) (opened_none B m i e)
        ∙ closed_none B m' i rest e
        ∙ ap (λ (more : List Item). item.Instance i ∷ more) next
        ∙ ap (λ (x : Item). x ∷ map (ordered_item B) items) (sym (ordered_none B i e))
    by (Some ports) e next =
        let rest = flat_map (opened_item B m) items in
        let mine = flat_map (port_items m i) ports in
        let links = other_links ports i.links in
        ap (λ (xs : List Item). closed_items B m' 0 (xs ++ rest)) (opened_some B m i ports e)
        ∙ closed_some B m' (bare i links) ports (back m i ports) (mine ++ rest) e (closing_back m m' i links ports rest (all.0 ports e))
        ∙ ap (λ (more : List Item). item.Instance (record i { links = links ++ back_links i ports }) ∷ more) (skipped B m' mine rest ∙ next)
        ∙ ap (λ (x : Item). x ∷ map (ordered_item B) items) (sym (ordered_some B i ports e))
