-- What is counted of a module by itself, one part at a time.
use Rattle.std.proofs.Common.{◌≡◌, ℕ, ◌+◌, ◌<◌, min, List, [], ◌∷◌, ◌++◌, length, map, take, get_or, sum_by, Option, Some, None, refl, sym, ap, subst, ◌∙◌, arith}
use Rattle.std.specs.Prelude.{slice_get}
use Rattle.std.specs.Option.{option_map, option_map_or}
use Rattle.std.specs.Str.{bytes_eq}
use Rattle.std.proofs.lemmas.List.Sums.{sum_by_push, sum_by-append}
use Rattle.std.proofs.lemmas.Option.{slice_get-map, slice_get_within, get_or_from_slice_get}
use Rattle.list_laws.proofs.Options.{none_some}
use Rattle.list_laws.proofs.Lists.{taken_more, map_push}
use Rattle.verilog_tree.specs.declared.tree.Port.{Port}
use Rattle.verilog_tree.specs.declared.tree.Instance.{Instance}
use Rattle.verilog_tree.specs.declared.tree.Item.TheVariants as item
use Rattle.verilog_tree.specs.declared.tree.Module.{Module}
use Rattle.link_model.specs.Nets.{NetDeclaration, width, bits_in}
use Rattle.hier_model.specs.WalkNames.{module_place}
use Rattle.hier_model.specs.Visits.{module_named}
use Rattle.hier_model.specs.Faults.{linked_bits, cell_limit}
use Rattle.hier_counts.specs.declared.sizes.Held.{Held}
use Rattle.hier_counts.specs.Widths.{capped, joined_bits}
use Rattle.hier_counts.specs.Levels.{linked_in, held_by}
use Rattle.hier_counts.proofs.Joins.{joined_is}
use Rattle.hier_counts.proofs.Leads.{StandsAt, first_stands}

-- Bits of declarations.

cap_both : (l a b : ℕ) → min (min a (l + 1) + b) (l + 1) ≡ min (a + b) (l + 1)
cap_both l a b = omega arith

pub bits_next : {X : Type 0} (limit : ℕ) (net : X → NetDeclaration) (xs : List X) (k : ℕ) (x : X) (sum new : ℕ) → slice_get xs k ≡ Some x → sum ≡ capped limit (bits_in (map net (take k xs))) → new ≡ capped limit (sum + width (net x).range)
    → new ≡ capped limit (bits_in (map net (take (k + 1) xs)))
bits_next {X} limit net xs k x sum new at was is =
    is
    ∙ ap (λ (n : ℕ). capped limit (n + width (net x).range)) was
    ∙ cap_both limit (bits_in (map net (take k xs))) (width (net x).range)
    ∙ ap (capped limit) (sym (sum_by_push (λ (n : NetDeclaration). width n.range) (map net (take k xs)) (net x)))
    ∙ ap (λ (l : List NetDeclaration). capped limit (bits_in l)) (sym (map_push net (take k xs) x))
    ∙ ap (λ (l : List X). capped limit (bits_in (map net l))) (taken_more xs k x (take k xs) (take k xs ++ x ∷ []) at refl refl)

pub bits_joined : (limit : ℕ) (one other : List NetDeclaration) (a b new : ℕ) → a ≡ capped limit (bits_in one) → b ≡ capped limit (bits_in other) → new ≡ capped limit (a + b) → new ≡ capped limit (bits_in (one ++ other))
bits_joined limit one other a b new first second is =
    let both : bits_in (one ++ other) ≡ bits_in one + bits_in other = sum_by-append (λ (n : NetDeclaration). width n.range) one other in
    by (bits_in one) (bits_in other) (bits_in (one ++ other)) both first second is
  where
    by : (x y z : ℕ) → z ≡ x + y → a ≡ min x (limit + 1) → b ≡ min y (limit + 1) → new ≡ min (a + b) (limit + 1) → new ≡ min z (limit + 1)
    by x y z both first second is = omega (arith, both, first, second, is)

-- An instance of a module.

abbrev held : ℕ → ℕ → Held
held place joined = record { place = place; joined = joined }

pub held_some : (modules : List Module) (widths : List (List Port)) (i : Instance) (place : ℕ) (ports : List Port) (joined : ℕ) → widths ≡ map (λ (m : Module). m.ports) modules → Some place ≡ module_place modules i.cell → ports ≡ get_or widths place ports
    → joined ≡ capped cell_limit (joined_bits [] i.links ports) → Some (record { place = place; joined = joined }) ≡ held_by modules (item.Instance i)
held_some modules widths i place ports joined widths_are there read is =
    by (module_named modules i.cell) (module_place modules i.cell) (first_stands (λ (m : Module). bytes_eq i.cell m.name) modules) refl there
  where
    by : (o : Option Module) (p : Option ℕ) → StandsAt modules p o → module_named modules i.cell ≡ o → Some place ≡ p
        → Some (held place joined) ≡ option_map (λ (k : ℕ). held k (capped cell_limit (linked_in modules i))) p
    by None None stands found e = none_some (sym e)
    by (Some m) None stands found e = absurd stands
    by None (Some k) stands found e = absurd stands
    by (Some m) (Some k) stands found e =
        let here : place ≡ k = cc in
        let at : slice_get modules place ≡ Some m = subst (λ (n : ℕ). slice_get modules n ≡ Some m) (sym here) stands in
        let wide : slice_get widths place ≡ Some m.ports = ap (λ (l : List (List Port)). slice_get l place) widths_are ∙ slice_get-map (λ (x : Module). x.ports) modules place ∙ ap (option_map (λ (x : Module). x.ports)) at in
        let ports_are : ports ≡ m.ports = read ∙ get_or_from_slice_get widths place m.ports ports wide in
        let sum : joined ≡ capped cell_limit (linked_in modules i) =
        is
        ∙ ap (λ (l : List Port). capped cell_limit (joined_bits [] i.links l)) ports_are
        ∙ ap (capped cell_limit) (joined_is i.links m.ports)
        ∙ ap (λ (o : Option Module). capped cell_limit (option_map_or (λ (c : Module). sum_by (linked_bits i.links) c.ports) o 0)) (sym found) in
        ap (λ (n : ℕ). Some (held place n)) sum ∙ ap (λ (n : ℕ). Some (held n (capped cell_limit (linked_in modules i)))) here

-- its place lies among the widths
pub held_inside : (modules : List Module) (widths : List (List Port)) (name : List ℕ) (place : ℕ) → widths ≡ map (λ (m : Module). m.ports) modules → Some place ≡ module_place modules name → place < length widths
held_inside modules widths name place widths_are there = by (module_named modules name) (module_place modules name) (first_stands (λ (m : Module). bytes_eq name m.name) modules) there
  where
    by : (o : Option Module) (p : Option ℕ) → StandsAt modules p o → Some place ≡ p → place < length widths
    by None None stands e = none_some (sym e)
    by (Some m) None stands e = absurd stands
    by None (Some k) stands e = absurd stands
    by (Some m) (Some k) stands e =
        let here : k ≡ place = cc in
        let wide : slice_get widths place ≡ Some m.ports =
        ap (λ (l : List (List Port)). slice_get l place) widths_are ∙ slice_get-map (λ (x : Module). x.ports) modules place ∙ ap (option_map (λ (x : Module). x.ports)) (subst (λ (n : ℕ). slice_get modules n ≡ Some m) here stands) in
        slice_get_within widths place m.ports wide
