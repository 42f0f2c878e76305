-- Each module that a walk comes to is the first of its name.
use Rattle.std.proofs.Common.{◌≡◌, ℕ, zero, suc, List, [], ◌∷◌, ◌++◌, Option, Some, None, refl, sym, ap, ◌∙◌}
use Rattle.std.specs.List.{flat_map}
use Rattle.std.specs.Option.{option_map, option_map_or}
use Rattle.std.specs.Str.{bytes_eq}
use Rattle.std.specs.Cmp.Lexicographic.{bytes_decides}
use Rattle.list_laws.proofs.Lists.{all_append}
use Rattle.list_laws.proofs.Options.{found}
use Rattle.verilog_tree.specs.declared.tree.Instance.{Instance}
use Rattle.verilog_tree.specs.declared.tree.Item.{Item}
use Rattle.verilog_tree.specs.declared.tree.Item.TheVariants as item
use Rattle.verilog_tree.specs.declared.tree.Module.{Module}
use Rattle.hier_model.specs.Visits.{Visit, visit, opens, closes, keeps, module_named, opened_by, item_visits, visits}
use Rattle.hier_flatten.specs.Visited.{IsListed, IsListedVisit, AreListed}

-- what is found under a name is found under its own
pub named_listed : (modules : List Module) (name : List ℕ) (m : Module) → module_named modules name ≡ Some m → IsListed modules m
named_listed modules name m is =
    let same : name ≡ m.name = (bytes_decides name m.name).0 (found (λ (k : Module). bytes_eq name k.name) modules m is) in
    ap (module_named modules) (sym same) ∙ is

opened_listed : (modules : List Module) (i : Item) (o : Instance × Module) → opened_by modules i ≡ Some o → IsListed modules o.1
opened_listed modules (item.Gate g) o is = absurd (let no : None ≡ Some o = is in cc)
opened_listed modules (item.Instance i) o is = by (module_named modules i.cell) refl is
  where
    by : (p : Option Module) → module_named modules i.cell ≡ p → option_map (λ (child : Module). let q : Instance × Module = (i, child) in q) p ≡ Some o → IsListed modules o.1
    by None e f = absurd (let no : None ≡ Some o = f in cc)
    by (Some c) e f = let same : c ≡ o.1 = ap (λ (q : Option (Instance × Module)). option_map_or (λ (r : Instance × Module). r.1) q c) f in named_listed modules i.cell o.1 (e ∙ ap (λ (x : Module). Some x) same)
opened_listed modules (item.Assign output input) o is = absurd (let no : None ≡ Some o = is in cc)

item_listed : (modules : List Module) (below : List (List ℕ) → Module → List Visit) (at : List (List ℕ)) (m : Module) (i : Item) → IsListed modules m → ((a : List (List ℕ)) (c : Module) → IsListed modules c → AreListed modules (below a c)) → AreListed modules (item_visits below modules at m i)
item_listed modules below at m i here rest = by (opened_by modules i) refl
  where
    by : (o : Option (Instance × Module)) → opened_by modules i ≡ o
        → AreListed modules (option_map_or (λ (p : Instance × Module). visit at m (opens p.0 p.1) ∷ (below (at ++ p.0.name ∷ []) p.1 ++ visit at m (closes p.0 p.1) ∷ [])) o (visit at m (keeps i) ∷ []))
    by None e = ((here, tt), tt)
    by (Some p) e =
        let child = opened_listed modules i p e in
        ((here, child), all_append (IsListedVisit modules) (below (at ++ p.0.name ∷ []) p.1) (visit at m (closes p.0 p.1) ∷ []) (rest (at ++ p.0.name ∷ []) p.1 child) ((here, child), tt))

items_listed : (modules : List Module) (below : List (List ℕ) → Module → List Visit) (at : List (List ℕ)) (m : Module) (items : List Item) → IsListed modules m → ((a : List (List ℕ)) (c : Module) → IsListed modules c → AreListed modules (below a c)) → AreListed modules (flat_map (item_visits below modules at m) items)
items_listed modules below at m [] here rest = tt
items_listed modules below at m (i ∷ items) here rest =
    all_append (IsListedVisit modules) (item_visits below modules at m i) (flat_map (item_visits below modules at m) items) (item_listed modules below at m i here rest) (items_listed modules below at m items here rest)

pub visits_listed : (levels : ℕ) (modules : List Module) (at : List (List ℕ)) (m : Module) → IsListed modules m → AreListed modules (visits levels modules at m)
visits_listed zero modules at m here = tt
visits_listed (suc levels) modules at m here = items_listed modules (λ a c. visits levels modules a c) at m m.items here (λ a c listed. visits_listed levels modules a c listed)
