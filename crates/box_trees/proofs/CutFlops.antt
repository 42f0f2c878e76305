-- The names of flip-flops among the items.
use Rattle.std.proofs.Common.{◌≡◌, ℕ, Bool, true, false, ◌||◌, ◌&&◌, if◌then◌else◌, List, [], ◌∷◌, Option, Some, None, is_some, refl, sym, ap, ◌∙◌}
use Rattle.std.specs.List.{filter_map, list_any}
use Rattle.std.specs.Str.{bytes_eq}
use Rattle.std.proofs.lemmas.List.Elements.{filter_map-append}
use Rattle.std.proofs.lemmas.List.Folds.{list_any-append}
use Rattle.list_laws.specs.Options.{or_else, first_in}
use Rattle.list_laws.proofs.Bytes.{bytes_eq-sym}
use Rattle.list_laws.proofs.Tests.{or_false}
use Rattle.texts.specs.Repeated.{has_name}
use Rattle.verilog_tree.specs.declared.tree.Item.{Item}
use Rattle.verilog_tree.specs.declared.tree.Item.TheVariants as item
use Rattle.verilog_tree.specs.declared.tree.Module.{Module}
use Rattle.box_model.specs.declared.fault.BoxFault.TheVariants.{BoxUnknown}
use Rattle.box_model.specs.declared.boxes.BoxLibrary.{BoxLibrary}
use Rattle.box_model.specs.Ports.{flop_output}
use Rattle.box_model.specs.Faults.{is_flop_of, unknown_cut}
use Rattle.box_trees.specs.Cuts.{flop_name, unknown_in}

yes : (b : Bool) → b ≡ (b && true)
yes true = refl
yes false = refl

no : (b : Bool) → false ≡ (b && false)
no true = refl
no false = refl

one_flop : (B : BoxLibrary) (name : List ℕ) (i : Item) → has_name (filter_map (flop_name B) (i ∷ [])) name ≡ is_flop_of B name i
one_flop B name (item.Gate g) = refl
one_flop B name (item.Assign output input) = refl
one_flop B name (item.Instance i) = by (is_some (flop_output B i.cell)) refl
  where
    by : (b : Bool) → is_some (flop_output B i.cell) ≡ b → has_name (filter_map (flop_name B) (item.Instance i ∷ [])) name ≡ (bytes_eq i.name name && is_some (flop_output B i.cell))
    by true e =
        ap (λ (b : Bool). has_name (filter_map (λ (x : Unit {0}). if b then Some i.name else None) (tt ∷ [])) name) e
        ∙ or_false (bytes_eq name i.name) ∙ bytes_eq-sym name i.name
        ∙ yes (bytes_eq i.name name) ∙ ap (λ (b : Bool). bytes_eq i.name name && b) (sym e)
    by false e =
        ap (λ (b : Bool). has_name (filter_map (λ (x : Unit {0}). if b then Some i.name else None) (tt ∷ [])) name) e
        ∙ no (bytes_eq i.name name) ∙ ap (λ (b : Bool). bytes_eq i.name name && b) (sym e)

flops_named : (B : BoxLibrary) (name : List ℕ) (items : List Item) → has_name (filter_map (flop_name B) items) name ≡ list_any (is_flop_of B name) items
flops_named B name [] = refl
flops_named B name (i ∷ items) =
    ap (λ (l : List (List ℕ)). has_name l name) (filter_map-append (flop_name B) (i ∷ []) items)
    ∙ list_any-append (bytes_eq name) (filter_map (flop_name B) (i ∷ [])) (filter_map (flop_name B) items)
    ∙ ap (λ (b : Bool). b || has_name (filter_map (flop_name B) items) name) (one_flop B name i)
    ∙ ap (λ (b : Bool). is_flop_of B name i || b) (flops_named B name items)

first_same : {X Y : Type 0} (f g : X → Option Y) → ((x : X) → f x ≡ g x) → (xs : List X) → first_in f xs ≡ first_in g xs
first_same f g same [] = refl
first_same {X} {Y} f g same (x ∷ xs) = ap (λ (o : Option Y). or_else o (first_in f xs)) (same x) ∙ ap (λ (o : Option Y). or_else (g x) o) (first_same f g same xs)

-- the first cut that is of no flip-flop
pub cuts_told : (B : BoxLibrary) (m : Module) (flops : List (List ℕ)) (items : List Item) (cuts : List (List ℕ)) → flops ≡ filter_map (flop_name B) items → items ≡ m.items → cuts ≡ B.cuts
    → first_in (unknown_in flops) cuts ≡ first_in (unknown_cut B m) B.cuts
cuts_told B m flops items cuts is same all =
    ap (λ (l : List (List ℕ)). first_in (unknown_in l) cuts) (is ∙ ap (filter_map (flop_name B)) same)
    ∙ ap (first_in (unknown_in (filter_map (flop_name B) m.items))) all
    ∙ first_same (unknown_in (filter_map (flop_name B) m.items)) (unknown_cut B m) (λ name. ap (λ (b : Bool). if b then None else Some (BoxUnknown name)) (flops_named B name m.items)) B.cuts
