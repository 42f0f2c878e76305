-- The items of a module, of which an instance and the assigns that it takes are one piece.
use Rattle.std.proofs.Common.{◌≡◌, ℕ, zero, suc, ◌≤◌, false, List, [], ◌∷◌, ◌++◌, drop, Option, Some, None, refl, sym, ap, ◌∙◌, arith}
use Rattle.std.specs.List.{AllByRecursion, flat_map}
use Rattle.std.specs.Option.{option_map_or}
use Rattle.verilog_tree.specs.declared.tree.Bit.{Bit}
use Rattle.verilog_tree.specs.declared.tree.Operand.{Operand}
use Rattle.verilog_tree.specs.declared.tree.Gate.{Gate}
use Rattle.verilog_tree.specs.declared.tree.Link.{Link}
use Rattle.verilog_tree.specs.declared.tree.Instance.{Instance}
use Rattle.verilog_tree.specs.declared.tree.Item.{Item}
use Rattle.verilog_tree.specs.declared.tree.Item.TheVariants as item
use Rattle.verilog_tree.specs.declared.tree.Module.{Module}
use Rattle.box_model.specs.declared.boxes.BoxLibrary.{BoxLibrary}
use Rattle.box_model.specs.declared.boxes.BoxPort.{BoxPort}
use Rattle.box_model.specs.Ports.{cut_ports}
use Rattle.box_model.specs.Closed.{closed_items}
use Rattle.box_model.proofs.Counting.{times, times-append}
use Rattle.box_model.proofs.Assigns.{IsAssign}
use Rattle.box_model.proofs.Items.{closed_some}
use Rattle.box_model.proofs.Ways.{Way, collect, ways, closing_ways}
use Rattle.box_model.proofs.WaysItems.{way_items, cut_narrow_first, ways_split, ways_are_assigns}
use Rattle.box_model.proofs.WaysLinks.{collected_links, closed_as}

-- how many items an instance takes
abbrev pub taken : Module → Instance → List BoxPort → List Item → ℕ
taken m i ports items = (collect i (ways m i false ports items)).gone

-- Closed items.

skipped_to : (B : BoxLibrary) (m : Module) (gone : ℕ) (items : List Item) → closed_items B m gone items ≡ closed_items B m 0 (drop gone items)
skipped_to B m zero items = refl
skipped_to B m (suc gone) [] = refl
skipped_to B m (suc gone) (x ∷ items) = skipped_to B m gone items

pub closed_cut : (B : BoxLibrary) (m : Module) (i : Instance) (ports : List BoxPort) (items : List Item) → cut_ports B i ≡ Some ports
    → closed_items B m 0 (item.Instance i ∷ items) ≡ item.Instance (closed_as i (ways m i false ports items)) ∷ closed_items B m 0 (drop (taken m i ports items) items)
closed_cut B m i ports items e =
    let ws = ways m i false ports items in
    closed_some B m i ports (collect i ws) items e (closing_ways m i false ports items)
    ∙ ap (λ (ls : List Link). item.Instance (record i { links = i.links ++ ls }) ∷ closed_items B m (collect i ws).gone items) (collected_links i ws)
    ∙ ap (λ (xs : List Item). item.Instance (closed_as i ws) ∷ xs) (skipped_to B m (collect i ws).gone items)

-- the items behind an instance are the assigns that it takes, and the rest
pub piece : (B : BoxLibrary) (m : Module) (i : Instance) (ports : List BoxPort) (items : List Item) → cut_ports B i ≡ Some ports
    → flat_map (way_items i) (ways m i false ports items) ++ drop (taken m i ports items) items ≡ items
piece B m i ports items e = ways_split m i ports items (cut_narrow_first B i ports e)

-- What holds at each place, of an item and those behind it.

abbrev pub AllTails : (Item → List Item → Type 0) → List Item → Type 0
AllTails P [] = Unit {0}
AllTails P (x ∷ xs) = P x xs × AllTails P xs

pub tails_of : (P : Item → Type 0) (xs : List Item) → AllByRecursion P xs → AllTails (λ x rest. P x) xs
tails_of P [] all = tt
tails_of P (x ∷ xs) all = (all.0, tails_of P xs all.1)

pub tails_to : (P Q : Item → List Item → Type 0) (xs : List Item) → ((x : Item) (rest : List Item) → P x rest → Q x rest) → AllTails P xs → AllTails Q xs
tails_to P Q [] to all = tt
tails_to P Q (x ∷ xs) to all = (to x xs all.0, tails_to P Q xs to all.1)

pub tails_both : (P Q : Item → List Item → Type 0) (xs : List Item) → AllTails P xs → AllTails Q xs → AllTails (λ x rest. P x rest × Q x rest) xs
tails_both P Q [] one other = tt
tails_both P Q (x ∷ xs) one other = ((one.0, other.0), tails_both P Q xs one.1 other.1)

-- Along the pieces.

pub record Goes (B : BoxLibrary) (m : Module) (F : Item → List Item → Type 0) (P : List Item → Type 0) : Type 0 where
  pub none : P []
  pub gate : (g : Gate) (items : List Item) → P items → P (item.Gate g ∷ items)
  pub assign : (output : Bit) (input : Operand) (items : List Item) → P items → P (item.Assign output input ∷ items)
  pub plain : (i : Instance) (items : List Item) → cut_ports B i ≡ None → P items → P (item.Instance i ∷ items)
  pub cut : (i : Instance) (ports : List BoxPort) (items : List Item) → cut_ports B i ≡ Some ports → F (item.Instance i) items → P (drop (taken m i ports items) items) → P (item.Instance i ∷ items)

along : (B : BoxLibrary) (m : Module) (F : Item → List Item → Type 0) (P : List Item → Type 0) → Goes B m F P → (gone : ℕ) (items : List Item) → AllTails F items → P (drop gone items)
along B m F P s zero [] all = s.none
along B m F P s (suc gone) [] all = s.none
along B m F P s (suc gone) (x ∷ items) all = along B m F P s gone items all.1
along B m F P s zero (item.Gate g ∷ items) all = s.gate g items (along B m F P s zero items all.1)
along B m F P s zero (item.Assign output input ∷ items) all = s.assign output input items (along B m F P s zero items all.1)
along B m F P s zero (item.Instance i ∷ items) all = by (cut_ports B i) refl (λ gone. along B m F P s gone items all.1)
  where
    by : (o : Option (List BoxPort)) → cut_ports B i ≡ o → ((gone : ℕ) → P (drop gone items)) → P (item.Instance i ∷ items)
    by None e more = s.plain i items e (more zero)
    by (Some ports) e more = s.cut i ports items e all.0 (more (taken m i ports items))

pub by_pieces : (B : BoxLibrary) (m : Module) (F : Item → List Item → Type 0) (P : List Item → Type 0) → Goes B m F P → (items : List Item) → AllTails F items → P items
by_pieces B m F P s items all = along B m F P s zero items all

-- Names that are gathered along the items.

abbrev pub gather : (Item → List Item → List (List ℕ)) → List Item → List (List ℕ)
gather f [] = []
gather f (x ∷ xs) = f x xs ++ gather f xs

pub gather_within : (f : Item → List Item → List (List ℕ)) (xs : List Item) → AllTails (λ x rest. (name : List ℕ) → times name (f x rest) ≤ times name (gather f xs)) xs
gather_within f [] = tt
gather_within f (x ∷ xs) = (
  λ name. omega (arith, times-append name (f x xs) (gather f xs)),
  tails_to (λ y rest. (name : List ℕ) → times name (f y rest) ≤ times name (gather f xs)) (λ y rest. (name : List ℕ) → times name (f y rest) ≤ times name (gather f (x ∷ xs))) xs
      (λ y rest below name. let more = below name in omega (arith, times-append name (f x xs) (gather f xs))) (gather_within f xs),
)

-- names of the ways at an instance
abbrev pub at_ways : BoxLibrary → Module → (Instance → List Way → List (List ℕ)) → Item → List Item → List (List ℕ)
at_ways B m f (item.Instance i) items = option_map_or (λ ports. f i (ways m i false ports items)) (cut_ports B i) []
at_ways B m f (item.Gate g) items = []
at_ways B m f (item.Assign output input) items = []

abbrev pub of_ways : BoxLibrary → Module → (Instance → List Way → List (List ℕ)) → List Item → List (List ℕ)
of_ways B m f items = gather (at_ways B m f) items

-- an instance's ways are those behind which its assigns stand
pub at_cut : (B : BoxLibrary) (m : Module) (f : Instance → List Way → List (List ℕ)) (i : Instance) (ports : List BoxPort) (items : List Item) → cut_ports B i ≡ Some ports
    → at_ways B m f (item.Instance i) items ≡ f i (ways m i false ports items)
at_cut B m f i ports items e = ap (λ (o : Option (List BoxPort)). option_map_or (λ ps. f i (ways m i false ps items)) o []) e

at_plain : (B : BoxLibrary) (m : Module) (f : Instance → List Way → List (List ℕ)) (i : Instance) (items : List Item) → cut_ports B i ≡ None → at_ways B m f (item.Instance i) items ≡ []
at_plain B m f i items e = ap (λ (o : Option (List BoxPort)). option_map_or (λ ps. f i (ways m i false ps items)) o []) e

skipped_ways : (B : BoxLibrary) (m : Module) (f : Instance → List Way → List (List ℕ)) (xs rest : List Item) → AllByRecursion IsAssign xs → of_ways B m f (xs ++ rest) ≡ of_ways B m f rest
skipped_ways B m f [] rest all = refl
skipped_ways B m f (item.Assign output input ∷ xs) rest all = skipped_ways B m f xs rest all.1
skipped_ways B m f (item.Gate g ∷ xs) rest all = absurd all.0
skipped_ways B m f (item.Instance i ∷ xs) rest all = absurd all.0

pub ways_cut : (B : BoxLibrary) (m : Module) (f : Instance → List Way → List (List ℕ)) (i : Instance) (ports : List BoxPort) (items : List Item) → cut_ports B i ≡ Some ports
    → of_ways B m f (item.Instance i ∷ items) ≡ f i (ways m i false ports items) ++ of_ways B m f (drop (taken m i ports items) items)
ways_cut B m f i ports items e =
    let rest = drop (taken m i ports items) items in
    let mine = flat_map (way_items i) (ways m i false ports items) in
    ap (λ (ns : List (List ℕ)). ns ++ of_ways B m f items) (at_cut B m f i ports items e)
    ∙ ap (λ (ns : List (List ℕ)). f i (ways m i false ports items) ++ ns)
    (ap (of_ways B m f) (sym (piece B m i ports items e)) ∙ skipped_ways B m f mine rest (ways_are_assigns i (ways m i false ports items)))

pub ways_plain : (B : BoxLibrary) (m : Module) (f : Instance → List Way → List (List ℕ)) (i : Instance) (items : List Item) → cut_ports B i ≡ None
    → of_ways B m f (item.Instance i ∷ items) ≡ of_ways B m f items
ways_plain B m f i items e = ap (λ (ns : List (List ℕ)). ns ++ of_ways B m f items) (at_plain B m f i items e)
