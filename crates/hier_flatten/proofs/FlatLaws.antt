-- What a step of a walk adds to the flat module.
use Rattle.std.proofs.Common.{◌≡◌, ℕ, List, [], ◌∷◌, ◌++◌, map, take, Bor, IsTrue, Some, refl, sym, ap, subst, ◌∙◌, append-nil}
use Rattle.std.specs.List.{flat_map}
use Rattle.std.proofs.lemmas.List.{map-append}
use Rattle.std.proofs.lemmas.List.Concat.{flat_map-append}
use Rattle.verilog_tree.specs.declared.tree.Wire.{Wire}
use Rattle.verilog_tree.specs.declared.tree.Instance.{Instance}
use Rattle.verilog_tree.specs.declared.tree.Item.{Item}
use Rattle.verilog_tree.specs.declared.tree.Module.{Module}
use Rattle.hier_model.specs.declared.walk.walk.Step.{Step}
use Rattle.hier_model.specs.declared.walk.walk.Walk.{Walk}
use Rattle.hier_model.specs.Visits.{Turn, opens, Visit, visits, has_levels}
use Rattle.hier_model.specs.Walks.{texts, turn_of, path_after, Goes, went, Begins}
use Rattle.hier_model.specs.Names.{flat_name}
use Rattle.hier_model.specs.Entries.{Place, place, visit_entries, entry_item, turn_entries, turn_places}
use Rattle.hier_model.specs.Flat.{place_wires}
use Rattle.hier_flatten.specs.Joins.{input_items}
use Rattle.hier_flatten.specs.Visited.{IsListed, AreListed}
use Rattle.hier_flatten.proofs.Listed.{visits_listed}
use Rattle.hier_flatten.proofs.Walks.{Makes, visit_in}

-- Parts of a walk.

-- what a loop knows at the start
pub makes_first : {X : Type 0} (levels : ℕ) (modules own : List Module) (top : Module) (make : Visit → List X) (all front : List X) (w : Walk) → own ≡ modules → Begins own top w → IsTrue (has_levels levels modules top) → IsListed modules top
    → front ++ flat_map make (visits levels modules [] top) ≡ all → Makes levels modules make all w front
makes_first {X} levels modules own top make all front w same begins deep here is =
    let b : Begins modules top w = subst (λ (ms : List Module). Begins ms top w) same begins in record {
      walks = b.walks levels deep;
      listed = subst (AreListed modules) (sym (b.all levels deep)) (visits_listed levels modules [] top here);
      rest = ap (λ (vs : List Visit). front ++ flat_map make vs) (b.all levels deep) ∙ is;
    }

-- where the path stands behind a step
pub path_of_step : (levels : ℕ) (old new : Walk) (s : Step) → Goes levels old new (Some s) → texts new.path.items ≡ path_after (take s.depth (texts new.path.items)) (turn_of s.turn)
path_of_step levels old new s (went left walks after) = after

-- what is made of the place that a step opens
pub opened_are : {X : Type 0} (f : Place → List X) (path : List (List ℕ)) (depth : ℕ) (turn : Turn) (i : Instance) (child : Module) → path ≡ path_after (take depth path) turn → turn ≡ opens i child
    → f (place path child) ≡ flat_map f (turn_places (take depth path) turn)
opened_are {X} f path depth turn i child after is =
    let here : path ≡ take depth path ++ i.name ∷ [] = after ∙ ap (path_after (take depth path)) is in
    ap (λ (at : List (List ℕ)). f (place at child)) here
    ∙ sym (append-nil (f (place (take depth path ++ i.name ∷ []) child)))
    ∙ ap (λ (t : Turn). flat_map f (turn_places (take depth path) t)) (sym is)

-- The wires of the flat module.

-- what a visit adds
abbrev pub visit_wires : Visit → List Wire
visit_wires v = flat_map place_wires (turn_places v.at v.turn)

pub nested : {X Y Z : Type 0} (g : Y → List Z) (f : X → List Y) (xs : List X) → flat_map (λ x. flat_map g (f x)) xs ≡ flat_map g (flat_map f xs)
nested g f [] = refl
nested {X} {Y} {Z} g f (x ∷ xs) = ap (λ (l : List Z). flat_map g (f x) ++ l) (nested g f xs) ∙ sym (flat_map-append g (f x) (flat_map f xs))

-- a name at the top is flat as it is
pub top_wires : (wires : List Wire) → map (λ (wire : Wire). record { name = flat_name [] wire.name; range = wire.range }) wires ≡ wires
top_wires [] = refl
top_wires (w ∷ ws) = ap (λ (l : List Wire). w ∷ l) (top_wires ws)

-- The items of the flat module.

abbrev pub visit_items : Visit → List Item
visit_items v = map entry_item (visit_entries v)

pub mapped_flat : {X Y Z : Type 0} (g : Y → Z) (f : X → List Y) (xs : List X) → flat_map (λ x. map g (f x)) xs ≡ map g (flat_map f xs)
mapped_flat g f [] = refl
mapped_flat {X} {Y} {Z} g f (x ∷ xs) = ap (λ (l : List Z). map g (f x) ++ l) (mapped_flat g f xs) ∙ sym (map-append g (f x) (flat_map f xs))

-- the inputs of an instance that opens
pub opens_added : (path outer : List (List ℕ)) (depth : ℕ) (m n : Module) (turn : Turn) (i : Instance) (child : Module) (old new : List Item) → path ≡ path_after (take depth path) turn → turn ≡ opens i child → outer ≡ take depth path → n ≡ m
    → new ≡ old ++ input_items (place outer n) (place path child) i → new ≡ old ++ map entry_item (turn_entries (take depth path) m turn)
opens_added path outer depth m n turn i child old new after is outer_is same new_is =
    let here : path ≡ take depth path ++ i.name ∷ [] = after ∙ ap (path_after (take depth path)) is in
    new_is
    ∙ ap (λ (at : List (List ℕ)). old ++ input_items (place at n) (place path child) i) outer_is
    ∙ ap (λ (k : Module). old ++ input_items (place (take depth path) k) (place path child) i) same
    ∙ ap (λ (at : List (List ℕ)). old ++ input_items (place (take depth path) m) (place at child) i) here
    ∙ ap (λ (t : Turn). old ++ map entry_item (turn_entries (take depth path) m t)) (sym is)

-- a step as its path's slice tells it
pub path_in_slice : (levels : ℕ) (old new : Walk) (s : Step) (path : List (Bor (List ℕ))) → Goes levels old new (Some s) → path ≡ new.path.items → texts path ≡ path_after (take s.depth (texts path)) (turn_of s.turn)
path_in_slice levels old new s path goes same =
    subst (λ (p : List (Bor (List ℕ))). texts p ≡ path_after (take s.depth (texts p)) (turn_of s.turn)) (sym same) (path_of_step levels old new s goes)

-- the top's wires, as a slice told them
pub wires_made : (wires slice front made : List Wire) → front ≡ [] → slice ≡ wires → made ≡ front ++ map (λ (wire : Wire). record { name = flat_name [] wire.name; range = wire.range }) slice → made ≡ wires
wires_made wires slice front made none same is =
    is ∙ ap (λ (l : List Wire). l ++ map (λ (wire : Wire). record { name = flat_name [] wire.name; range = wire.range }) slice) none ∙ top_wires slice ∙ same

-- what a step adds, by the path's slice
pub wires_step : (path : List (Bor (List ℕ))) (v : Walk) (s : Step) (made next : List Wire) → path ≡ v.path.items → next ≡ made ++ flat_map place_wires (turn_places (take s.depth (texts path)) (turn_of s.turn)) → next ≡ made ++ visit_wires (visit_in v s)
wires_step path v s made next same is =
    subst (λ (p : List (Bor (List ℕ))). next ≡ made ++ flat_map place_wires (turn_places (take s.depth (texts p)) (turn_of s.turn))) same is

pub items_step : (path : List (Bor (List ℕ))) (v : Walk) (s : Step) (made next : List Item) → path ≡ v.path.items → next ≡ made ++ map entry_item (turn_entries (take s.depth (texts path)) s.within.now (turn_of s.turn)) → next ≡ made ++ visit_items (visit_in v s)
items_step path v s made next same is =
    subst (λ (p : List (Bor (List ℕ))). next ≡ made ++ map entry_item (turn_entries (take s.depth (texts p)) s.within.now (turn_of s.turn))) same is
