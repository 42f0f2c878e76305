-- What modules come to through one level more.
use Rattle.std.proofs.Common.{◌≡◌, ℕ, zero, suc, ◌+◌, ◌<◌, min, Bool, true, ◌&&◌, List, [], ◌∷◌, length, map, sum_by, replicate, Option, Some, None, refl, sym, ap, ◌∙◌, arith}
use Rattle.std.specs.Prelude.{slice_index_or, slice_get}
use Rattle.std.specs.List.{filter_map, list_all, cons_option}
use Rattle.std.specs.Option.{option_map, option_map_or}
use Rattle.std.specs.Str.{bytes_eq}
use Rattle.std.proofs.lemmas.List.Sums.{sum_by-cons}
use Rattle.list_laws.proofs.Options.{none_some}
use Rattle.verilog_tree.specs.declared.tree.Instance.{Instance}
use Rattle.verilog_tree.specs.declared.tree.Item.{Item}
use Rattle.verilog_tree.specs.declared.tree.Item.TheVariants as item
use Rattle.verilog_tree.specs.declared.tree.Module.{Module}
use Rattle.link_model.specs.Nets.{bits_in, declared_nets}
use Rattle.hier_model.specs.WalkNames.{module_place}
use Rattle.hier_model.specs.Visits.{module_named, opened_by, item_passes, has_levels}
use Rattle.hier_model.specs.Faults.{linked_bits, item_cells, cell_count, net_count, cell_limit, net_limit}
use Rattle.hier_counts.specs.declared.sizes.Held.{Held}
use Rattle.hier_counts.specs.declared.sizes.Size.{Size}
use Rattle.hier_counts.specs.declared.levels.Counts.{Counts}
use Rattle.hier_counts.specs.Widths.{capped}
use Rattle.hier_counts.specs.Levels.{held_by, size_of, counts_at, no_counts, counts_in, next_counts}
use Rattle.hier_counts.proofs.Leads.{StandsAt, first_stands}

-- Lists of what modules come to.

mapped_at : {X Y : Type 0} (f : X → Y) (d : Y) (xs : List X) (k : ℕ) (x : X) → slice_get xs k ≡ Some x → slice_index_or (map f xs) k d ≡ f x
mapped_at f d [] k x at = none_some at
mapped_at f d (y ∷ ys) zero x at = let same : y ≡ x = cc in ap f same
mapped_at f d (y ∷ ys) (suc k) x at = mapped_at f d ys k x at

abbrev level : ℕ → List Module → List Counts
level n modules = map (counts_at n modules) modules

counts_there : (n : ℕ) (modules : List Module) (k : ℕ) (c : Module) → slice_get modules k ≡ Some c → counts_in (level n modules) k ≡ counts_at n modules c
counts_there n modules k c at = mapped_at (counts_at n modules) no_counts modules k c at

-- Counts up to a limit.

cap_item : (l len s t : ℕ) → min (len + s) (l + 1) ≡ min t (l + 1) → min (suc len + s) (l + 1) ≡ min (1 + 0 + t) (l + 1)
cap_item l len s t h = omega (arith, h)

cap_module : (l len s t j k : ℕ) → min (len + s) (l + 1) ≡ min t (l + 1) → min (suc len + ((min j (l + 1) + min k (l + 1)) + s)) (l + 1) ≡ min ((1 + (j + k)) + t) (l + 1)
cap_module l len s t j k h = omega (arith, h)

cap_nets : (l s t k : ℕ) → min s (l + 1) ≡ min t (l + 1) → min (min k (l + 1) + s) (l + 1) ≡ min (k + t) (l + 1)
cap_nets l s t k h = omega (arith, h)

-- Items.

abbrev held_fits : ℕ → List Module → Held → Bool
held_fits n modules h = (counts_in (level n modules) h.place).fits

abbrev passes : ℕ → List Module → Item → Bool
passes n modules i = item_passes (λ (c : Module). has_levels n modules c) modules i

fits_alike : (n : ℕ) (modules : List Module) (items : List Item)
    → list_all (λ (h : Held). (counts_in (level n modules) h.place).fits) (filter_map (held_by modules) items) ≡ list_all (item_passes (λ (c : Module). has_levels n modules c) modules) items
fits_alike n modules [] = refl
fits_alike n modules (item.Gate g ∷ items) = fits_alike n modules items
fits_alike n modules (item.Assign output input ∷ items) = fits_alike n modules items
fits_alike n modules (item.Instance i ∷ items) = by (module_place modules i.cell) (module_named modules i.cell) (option_map_or (λ (c : Module). sum_by (linked_bits i.links) c.ports) (module_named modules i.cell) 0) (first_stands (λ (m : Module). bytes_eq i.cell m.name) modules) (fits_alike n modules items)
  where
    by : (p : Option ℕ) (o : Option Module) (joined : ℕ) → StandsAt modules p o → list_all (held_fits n modules) (filter_map (held_by modules) items) ≡ list_all (passes n modules) items
        → list_all (held_fits n modules) (cons_option (option_map (λ (place : ℕ). let h : Held = record { place = place; joined = capped cell_limit joined } in h) p) (filter_map (held_by modules) items))
        ≡ (option_map_or (λ (q : Instance × Module). has_levels n modules q.1) (option_map (λ (child : Module). (i, child)) o) true && list_all (passes n modules) items)
    by None None joined there rest = rest
    by None (Some c) joined there rest = absurd there
    by (Some k) None joined there rest = absurd there
    by (Some k) (Some c) joined there rest = ap (λ (x : Counts). x.fits && list_all (held_fits n modules) (filter_map (held_by modules) items)) (counts_there n modules k c there) ∙ ap (λ (b : Bool). has_levels n modules c && b) rest

abbrev held_cells : ℕ → List Module → Held → ℕ
held_cells n modules h = h.joined + (counts_in (level n modules) h.place).cells

abbrev cells_of : ℕ → List Module → Item → ℕ
cells_of n modules i = item_cells (λ (c : Module). cell_count n modules c) modules i

plain_cells : (n : ℕ) (modules : List Module) (i : Item) (items : List Item) → held_by modules i ≡ None → opened_by modules i ≡ None
    → capped cell_limit (length items + sum_by (held_cells n modules) (filter_map (held_by modules) items)) ≡ capped cell_limit (sum_by (cells_of n modules) items)
    → capped cell_limit (length (i ∷ items) + sum_by (held_cells n modules) (filter_map (held_by modules) (i ∷ items))) ≡ capped cell_limit (sum_by (cells_of n modules) (i ∷ items))
plain_cells n modules i items none closed rest =
    ap (λ (h : Option Held). capped cell_limit (suc (length items) + sum_by (held_cells n modules) (cons_option h (filter_map (held_by modules) items)))) none
    ∙ cap_item cell_limit (length items) (sum_by (held_cells n modules) (filter_map (held_by modules) items)) (sum_by (cells_of n modules) items) rest
    ∙ ap (λ (o : Option (Instance × Module)). capped cell_limit (1 + option_map_or (λ (q : Instance × Module). sum_by (linked_bits q.0.links) q.1.ports + cell_count n modules q.1) o 0 + sum_by (cells_of n modules) items)) (sym closed)
    ∙ ap (capped cell_limit) (sym (sum_by-cons (cells_of n modules) i items))

cells_alike : (n : ℕ) (modules : List Module) (items : List Item)
    → capped cell_limit (length items + sum_by (held_cells n modules) (filter_map (held_by modules) items)) ≡ capped cell_limit (sum_by (cells_of n modules) items)
cells_alike n modules [] = refl
cells_alike n modules (item.Gate g ∷ items) = plain_cells n modules (item.Gate g) items refl refl (cells_alike n modules items)
cells_alike n modules (item.Assign output input ∷ items) = plain_cells n modules (item.Assign output input) items refl refl (cells_alike n modules items)
cells_alike n modules (item.Instance i ∷ items) = by (module_place modules i.cell) (module_named modules i.cell) (first_stands (λ (m : Module). bytes_eq i.cell m.name) modules) (cells_alike n modules items) ∙ ap (capped cell_limit) (sym (sum_by-cons (cells_of n modules) (item.Instance i) items))
  where
    by : (p : Option ℕ) (o : Option Module) → StandsAt modules p o → capped cell_limit (length items + sum_by (held_cells n modules) (filter_map (held_by modules) items)) ≡ capped cell_limit (sum_by (cells_of n modules) items)
        → capped cell_limit (suc (length items) + sum_by (held_cells n modules) (cons_option (option_map (λ (place : ℕ). let h : Held = record { place = place; joined = capped cell_limit (option_map_or (λ (c : Module). sum_by (linked_bits i.links) c.ports) o 0) } in h) p) (filter_map (held_by modules) items)))
        ≡ capped cell_limit (1 + option_map_or (λ (q : Instance × Module). sum_by (linked_bits q.0.links) q.1.ports + cell_count n modules q.1) (option_map (λ (child : Module). (i, child)) o) 0 + sum_by (cells_of n modules) items)
    by None None there rest = cap_item cell_limit (length items) (sum_by (held_cells n modules) (filter_map (held_by modules) items)) (sum_by (cells_of n modules) items) rest
    by None (Some c) there rest = absurd there
    by (Some k) None there rest = absurd there
    by (Some k) (Some c) there rest =
        let h : Held = record { place = k; joined = capped cell_limit (sum_by (linked_bits i.links) c.ports) } in
        ap (λ (s : ℕ). capped cell_limit (suc (length items) + s)) (sum_by-cons (held_cells n modules) h (filter_map (held_by modules) items))
        ∙ ap (λ (x : Counts). capped cell_limit (suc (length items) + (capped cell_limit (sum_by (linked_bits i.links) c.ports) + x.cells + sum_by (held_cells n modules) (filter_map (held_by modules) items)))) (counts_there n modules k c there)
        ∙ cap_module cell_limit (length items) (sum_by (held_cells n modules) (filter_map (held_by modules) items)) (sum_by (cells_of n modules) items) (sum_by (linked_bits i.links) c.ports) (cell_count n modules c) rest

abbrev held_nets : ℕ → List Module → Held → ℕ
held_nets n modules h = (counts_in (level n modules) h.place).nets

abbrev nets_of : ℕ → List Module → Item → ℕ
nets_of n modules i = option_map_or (λ (o : Instance × Module). net_count n modules o.1) (opened_by modules i) 0

nets_plain : (n : ℕ) (modules : List Module) (i : Item) (items : List Item) → nets_of n modules i ≡ 0 → sum_by (nets_of n modules) items ≡ sum_by (nets_of n modules) (i ∷ items)
nets_plain n modules i items none = let whole = sum_by-cons (nets_of n modules) i items in omega (arith, whole, none)

nets_alike : (n : ℕ) (modules : List Module) (items : List Item) → capped net_limit (sum_by (held_nets n modules) (filter_map (held_by modules) items)) ≡ capped net_limit (sum_by (nets_of n modules) items)
nets_alike n modules [] = refl
nets_alike n modules (item.Gate g ∷ items) = nets_alike n modules items ∙ ap (capped net_limit) (nets_plain n modules (item.Gate g) items refl)
nets_alike n modules (item.Assign output input ∷ items) = nets_alike n modules items ∙ ap (capped net_limit) (nets_plain n modules (item.Assign output input) items refl)
nets_alike n modules (item.Instance i ∷ items) = by (module_place modules i.cell) (module_named modules i.cell) (option_map_or (λ (c : Module). sum_by (linked_bits i.links) c.ports) (module_named modules i.cell) 0) (first_stands (λ (m : Module). bytes_eq i.cell m.name) modules) (nets_alike n modules items) ∙ ap (capped net_limit) (sym (sum_by-cons (nets_of n modules) (item.Instance i) items))
  where
    by : (p : Option ℕ) (o : Option Module) (joined : ℕ) → StandsAt modules p o → capped net_limit (sum_by (held_nets n modules) (filter_map (held_by modules) items)) ≡ capped net_limit (sum_by (nets_of n modules) items)
        → capped net_limit (sum_by (held_nets n modules) (cons_option (option_map (λ (place : ℕ). let h : Held = record { place = place; joined = capped cell_limit joined } in h) p) (filter_map (held_by modules) items)))
        ≡ capped net_limit (option_map_or (λ (q : Instance × Module). net_count n modules q.1) (option_map (λ (child : Module). (i, child)) o) 0 + sum_by (nets_of n modules) items)
    by None None joined there rest = let none : sum_by (nets_of n modules) items ≡ 0 + sum_by (nets_of n modules) items = omega arith in rest ∙ ap (capped net_limit) none
    by None (Some c) joined there rest = absurd there
    by (Some k) None joined there rest = absurd there
    by (Some k) (Some c) joined there rest =
        let h : Held = record { place = k; joined = capped cell_limit joined } in
        ap (capped net_limit) (sum_by-cons (held_nets n modules) h (filter_map (held_by modules) items))
        ∙ ap (λ (x : Counts). capped net_limit (x.nets + sum_by (held_nets n modules) (filter_map (held_by modules) items))) (counts_there n modules k c there)
        ∙ cap_nets net_limit (sum_by (held_nets n modules) (filter_map (held_by modules) items)) (sum_by (nets_of n modules) items) (net_count n modules c) rest

-- A level.

counts : Bool → ℕ → ℕ → Counts
counts fits cells nets = record { fits = fits; cells = cells; nets = nets }

level_of : (n : ℕ) (modules : List Module) (m : Module) → next_counts (size_of modules m) (level n modules) ≡ counts_at (suc n) modules m
unfolding counts
level_of n modules m =
    ap (λ (b : Bool). counts b (capped cell_limit (length m.items + sum_by (held_cells n modules) (filter_map (held_by modules) m.items))) (capped net_limit (capped net_limit (bits_in (declared_nets m)) + sum_by (held_nets n modules) (filter_map (held_by modules) m.items)))) (fits_alike n modules m.items)
    ∙ ap (λ (c : ℕ). counts (list_all (item_passes (λ (k : Module). has_levels n modules k) modules) m.items) c (capped net_limit (capped net_limit (bits_in (declared_nets m)) + sum_by (held_nets n modules) (filter_map (held_by modules) m.items)))) (cells_alike n modules m.items)
    ∙ ap (λ (c : ℕ). counts (list_all (item_passes (λ (k : Module). has_levels n modules k) modules) m.items) (capped cell_limit (sum_by (cells_of n modules) m.items)) c)
    (cap_nets net_limit (sum_by (held_nets n modules) (filter_map (held_by modules) m.items)) (sum_by (nets_of n modules) m.items) (bits_in (declared_nets m)) (nets_alike n modules m.items))

levels_of : (n : ℕ) (modules ms : List Module) → map (λ (s : Size). next_counts s (level n modules)) (map (size_of modules) ms) ≡ map (counts_at (suc n) modules) ms
levels_of n modules [] = refl
levels_of n modules (m ∷ ms) = ap (λ (c : Counts). c ∷ map (λ (s : Size). next_counts s (level n modules)) (map (size_of modules) ms)) (level_of n modules m) ∙ ap (λ (l : List Counts). counts_at (suc n) modules m ∷ l) (levels_of n modules ms)

-- one level more
pub level_next : (n : ℕ) (modules : List Module) (sizes : List Size) (below new : List Counts) → sizes ≡ map (size_of modules) modules → below ≡ map (counts_at n modules) modules → new ≡ map (λ (s : Size). next_counts s below) sizes
    → new ≡ map (counts_at (n + 1) modules) modules
level_next n modules sizes below new sized was is =
    let more : suc n ≡ n + 1 = omega arith in
    is
    ∙ ap (λ (b : List Counts). map (λ (s : Size). next_counts s b) sizes) was
    ∙ ap (map (λ (s : Size). next_counts s (level n modules))) sized
    ∙ levels_of n modules modules
    ∙ ap (λ (k : ℕ). map (counts_at k modules) modules) more

same_all : {X Y : Type 0} (f : X → Y) (d : Y) → ((x : X) → d ≡ f x) → (xs : List X) → replicate (length xs) d ≡ map f xs
same_all f d same [] = refl
same_all {X} {Y} f d same (x ∷ xs) = ap (λ (y : Y). y ∷ replicate (length xs) d) (same x) ∙ ap (λ (l : List Y). f x ∷ l) (same_all f d same xs)

-- no level
pub level_none : (modules : List Module) (first : List Counts) → first ≡ replicate (length modules) no_counts → first ≡ map (counts_at 0 modules) modules
level_none modules first is = is ∙ same_all (counts_at 0 modules) no_counts (λ m. refl) modules

-- the counts of the module at a place
pub counts_found : (n : ℕ) (modules : List Module) (place : ℕ) (cs : List Counts) (c : Counts) → cs ≡ map (counts_at n modules) modules → place < length modules → c ≡ slice_index_or cs place c → Some c ≡ option_map (counts_at n modules) (slice_get modules place)
counts_found n modules place cs c is low there = by modules place low (there ∙ ap (λ (l : List Counts). slice_index_or l place c) is)
  where
    by : (ms : List Module) (k : ℕ) → k < length ms → c ≡ slice_index_or (map (counts_at n modules) ms) k c → Some c ≡ option_map (counts_at n modules) (slice_get ms k)
    by [] k less at = absurd (omega (arith, less))
    by (m ∷ ms) zero less at = ap (λ (x : Counts). Some x) at
    by (m ∷ ms) (suc k) less at = by ms k (omega (arith, less)) at
