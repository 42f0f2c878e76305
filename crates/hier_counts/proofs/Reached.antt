-- What the modules that the top leads to come to: the first fault of cells, of rings and of counts.
use Rattle.std.proofs.Common.{◌≡◌, ◌≢◌, inl, inr, ℕ, ◌<◌, Bool, false, if◌then◌else◌, List, [], ◌∷◌, length, get_or, Option, Some, None, Result, Ok, Err, IfOk, refl, sym, ap, subst, ◌∙◌}
use Rattle.std.specs.Prelude.{slice_index_or, slice_get}
use Rattle.std.specs.Option.{option_map, option_map_or}
use Rattle.std.specs.Str.{bytes_eq}
use Rattle.std.proofs.lemmas.List.{get_or_read}
use Rattle.std.proofs.lemmas.Option.{slice_get_within}
use Rattle.list_laws.proofs.Options.{none_some, some_same}
use Rattle.list_laws.proofs.Lists.{slice_get_there}
use Rattle.texts.specs.First.{or_else, first_in}
use Rattle.cell_library.specs.declared.listed.ListedCell.{ListedCell}
use Rattle.verilog_tree.specs.declared.tree.Module.{Module}
use Rattle.hier_model.specs.WalkNames.{module_place}
use Rattle.hier_model.specs.Visits.{module_named}
use Rattle.hier_model.specs.declared.fault.HierFault.{HierFault}
use Rattle.hier_model.specs.declared.fault.HierFault.TheVariants as fault
use Rattle.hier_model.specs.Entries.{level_limit}
use Rattle.hier_model.specs.Faults.{is_reached, holds_itself, missing_cell, missing_name, recursive_name, twice_name, too_many_in}
use Rattle.hier_counts.specs.declared.levels.Counts.{Counts}
use Rattle.hier_counts.specs.Once.{At, AreOnce}
use Rattle.hier_counts.specs.Graph.{module_graph, row, IsIn, IsClosed, IsReached}
use Rattle.hier_counts.specs.Marked.{first_marked}
use Rattle.hier_counts.specs.Rings.{number, NeverRises}
use Rattle.hier_counts.specs.Levels.{counts_at}
use Rattle.hier_counts.specs.Early.{count_fault, reached_fault, early_fault}
use Rattle.hier_counts.proofs.Leads.{StandsAt, first_stands, graph_closed, marks_reached, holds_where}
use Rattle.hier_counts.proofs.Marks.{marked_is, both_are}
use Rattle.hier_counts.proofs.RingLaws.{ring_clear}
use Rattle.hier_counts.proofs.EarlyLaws.{counts_pass}

-- Places of a graph.

pub row_read : (graph : List (List ℕ)) (place : ℕ) (ks : List ℕ) → place < length graph → ks ≡ get_or graph place ks → ks ≡ row graph place
row_read graph place ks low is = get_or_read graph place ks low is []

pub closed_at : (graph : List (List ℕ)) (modules : List Module) → graph ≡ module_graph modules → IsClosed graph
closed_at graph modules is = subst IsClosed (sym is) (graph_closed modules)

pub row_low : (graph : List (List ℕ)) (place : ℕ) (ks : List ℕ) → IsClosed graph → ks ≡ row graph place → (w : ℕ) → IsIn w ks → w < length graph
row_low graph place ks closed is w listed = closed place w (subst (IsIn w) is listed)

pub one_low : (n place : ℕ) → place < n → (w : ℕ) → IsIn w (place ∷ []) → w < n
one_low n place low w (inl e) = subst (λ (x : ℕ). x < n) e low
one_low n place low w (inr none) = absurd none

-- Rings.

pub holds_clear : (modules : List Module) (graph : List (List ℕ)) (place : ℕ) (numbers ks : List ℕ) → AreOnce modules → graph ≡ module_graph modules → place < length modules → NeverRises graph numbers → ks ≡ row graph place
    → ((w : ℕ) → IsIn w ks → number numbers w ≢ number numbers place) → Some false ≡ option_map (holds_itself modules) (slice_get modules place)
holds_clear modules graph place numbers ks once is low falls row_is apart =
    let t = slice_get_there modules place low in
    let falls_there : NeverRises (module_graph modules) numbers = subst (λ (g : List (List ℕ)). NeverRises g numbers) is falls in
    let same : ks ≡ row (module_graph modules) place = row_is ∙ ap (λ (g : List (List ℕ)). row g place) is in
    let apart_there : (w : ℕ) → IsIn w (row (module_graph modules) place) → number numbers w ≢ number numbers place = λ w h. apart w (subst (IsIn w) (sym same) h) in
    ap (λ (b : Bool). Some b) (sym (ring_clear modules place t.0 numbers once t.1 falls_there apart_there)) ∙ ap (option_map (holds_itself modules)) (sym t.1)

pub holds_marked : (modules : List Module) (graph : List (List ℕ)) (place : ℕ) (ks : List ℕ) (marks : List Bool) (b : Bool) → AreOnce modules → graph ≡ module_graph modules → place < length modules → ks ≡ row graph place → IsReached graph ks marks
    → b ≡ slice_index_or marks place false → Some b ≡ option_map (holds_itself modules) (slice_get modules place)
holds_marked modules graph place ks marks b once is low row_is reached here =
    let t = slice_get_there modules place low in
    let same : ks ≡ row (module_graph modules) place = row_is ∙ ap (λ (g : List (List ℕ)). row g place) is in
    let r : IsReached (module_graph modules) (row (module_graph modules) place) marks =
    subst (λ (l : List ℕ). IsReached (module_graph modules) l marks) same (subst (λ (g : List (List ℕ)). IsReached g ks marks) is reached) in
    ap (λ (x : Bool). Some x) (here ∙ holds_where modules place t.0 marks once t.1 r) ∙ ap (option_map (holds_itself modules)) (sym t.1)

-- what a test told of the module at a place
pub held_there : (modules : List Module) (k : ℕ) (m : Module) (b : Bool) → At modules k m → Some b ≡ option_map (holds_itself modules) (slice_get modules k) → holds_itself modules m ≡ b
held_there modules k m b at told =
    let is : Some b ≡ Some (holds_itself modules m) = told ∙ ap (option_map (holds_itself modules)) at in
    some_same (holds_itself modules m) b (Some b) is refl

-- What marks tell.

abbrev pub missing_in : List ListedCell → List Module → Module → Option (List ℕ)
missing_in library modules m = first_in (missing_cell library modules) m.items

abbrev pub ring_in : List Module → Module → Option (List ℕ)
ring_in modules m = if holds_itself modules m then Some m.name else None

missing_is : (library : List ListedCell) (modules : List Module) (place : ℕ) (top : Module) (marks : List Bool) → AreOnce modules → At modules place top → IsReached (module_graph modules) (place ∷ []) marks
    → first_marked (missing_in library modules) marks modules ≡ missing_name library modules top
missing_is library modules place top marks once at reached =
    ap (λ (l : List Bool). first_marked (missing_in library modules) l modules) (marks_reached modules place top marks once at reached) ∙ marked_is (missing_in library modules) (is_reached modules top) modules

ring_is : (modules : List Module) (place : ℕ) (top : Module) (marks : List Bool) → AreOnce modules → At modules place top → IsReached (module_graph modules) (place ∷ []) marks
    → first_marked (ring_in modules) marks modules ≡ recursive_name modules top
ring_is modules place top marks once at reached =
    ap (λ (l : List Bool). first_marked (ring_in modules) l modules) (marks_reached modules place top marks once at reached)
    ∙ marked_is (ring_in modules) (is_reached modules top) modules
    ∙ both_are (is_reached modules top) (holds_itself modules) (λ (m : Module). m.name) modules

at_place : (library : List ListedCell) (modules : List Module) (place : ℕ) (top : Module) (f : Option HierFault) → At modules place top → f ≡ reached_fault library modules top → Some f ≡ option_map (reached_fault library modules) (slice_get modules place)
at_place library modules place top f at is = ap (λ (o : Option HierFault). Some o) is ∙ ap (option_map (reached_fault library modules)) (sym at)

pub reached_missing : (library : List ListedCell) (modules : List Module) (graph : List (List ℕ)) (place : ℕ) (marks : List Bool) (name : List ℕ) → AreOnce modules → place < length modules → graph ≡ module_graph modules → IsReached graph (place ∷ []) marks
    → Some name ≡ first_marked (missing_in library modules) marks modules → Some (Some (fault.ModuleMissing name)) ≡ option_map (reached_fault library modules) (slice_get modules place)
reached_missing library modules graph place marks name once low graph_is reached some =
    let t = slice_get_there modules place low in
    let r = subst (λ (g : List (List ℕ)). IsReached g (place ∷ []) marks) graph_is reached in
    let is : Some name ≡ missing_name library modules t.0 = some ∙ missing_is library modules place t.0 marks once t.1 r in
    let rest : Option HierFault = or_else (option_map fault.ModuleRecursive (recursive_name modules t.0)) (too_many_in modules t.0) in
    at_place library modules place t.0 (Some (fault.ModuleMissing name)) t.1 (ap (λ (o : Option (List ℕ)). or_else (option_map fault.ModuleMissing o) rest) is)

pub reached_ring : (library : List ListedCell) (modules : List Module) (graph : List (List ℕ)) (place : ℕ) (marks : List Bool) (name : List ℕ) → AreOnce modules → place < length modules → graph ≡ module_graph modules → IsReached graph (place ∷ []) marks
    → None ≡ first_marked (missing_in library modules) marks modules → Some name ≡ first_marked (ring_in modules) marks modules → Some (Some (fault.ModuleRecursive name)) ≡ option_map (reached_fault library modules) (slice_get modules place)
reached_ring library modules graph place marks name once low graph_is reached none some =
    let t = slice_get_there modules place low in
    let r = subst (λ (g : List (List ℕ)). IsReached g (place ∷ []) marks) graph_is reached in
    let first : None ≡ missing_name library modules t.0 = none ∙ missing_is library modules place t.0 marks once t.1 r in
    let is : Some name ≡ recursive_name modules t.0 = some ∙ ring_is modules place t.0 marks once t.1 r in
    at_place library modules place t.0 (Some (fault.ModuleRecursive name)) t.1
    (ap (λ (o : Option (List ℕ)). or_else (option_map fault.ModuleRecursive o) (too_many_in modules t.0)) is
    ∙ ap (λ (o : Option (List ℕ)). or_else (option_map fault.ModuleMissing o) (or_else (option_map fault.ModuleRecursive (recursive_name modules t.0)) (too_many_in modules t.0))) first)

pub reached_counts : (library : List ListedCell) (modules : List Module) (graph : List (List ℕ)) (place : ℕ) (marks : List Bool) (counts : Counts) (f : Option HierFault) → AreOnce modules → place < length modules → graph ≡ module_graph modules → IsReached graph (place ∷ []) marks
    → None ≡ first_marked (missing_in library modules) marks modules → None ≡ first_marked (ring_in modules) marks modules → Some counts ≡ option_map (counts_at level_limit modules) (slice_get modules place) → f ≡ count_fault counts
    → Some f ≡ option_map (reached_fault library modules) (slice_get modules place)
reached_counts library modules graph place marks counts f once low graph_is reached none clear counted is =
    let t = slice_get_there modules place low in
    let r = subst (λ (g : List (List ℕ)). IsReached g (place ∷ []) marks) graph_is reached in
    let first : None ≡ missing_name library modules t.0 = none ∙ missing_is library modules place t.0 marks once t.1 r in
    let second : None ≡ recursive_name modules t.0 = clear ∙ ring_is modules place t.0 marks once t.1 r in
    let some : Some counts ≡ Some (counts_at level_limit modules t.0) = counted ∙ ap (option_map (counts_at level_limit modules)) t.1 in
    let same : counts ≡ counts_at level_limit modules t.0 = some_same counts (counts_at level_limit modules t.0) (Some (counts_at level_limit modules t.0)) (sym some) refl in
    at_place library modules place t.0 f t.1
    (is ∙ ap count_fault same ∙ counts_pass modules t.0
    ∙ ap (λ (o : Option (List ℕ)). or_else (option_map fault.ModuleRecursive o) (too_many_in modules t.0)) second
    ∙ ap (λ (o : Option (List ℕ)). or_else (option_map fault.ModuleMissing o) (or_else (option_map fault.ModuleRecursive (recursive_name modules t.0)) (too_many_in modules t.0))) first)

-- The first of them.

pub early_twice : (library : List ListedCell) (modules : List Module) (top name : List ℕ) → Some name ≡ twice_name library [] modules → Some (fault.ModuleTwice name) ≡ early_fault library modules top
early_twice library modules top name some =
    ap (λ (o : Option (List ℕ)). or_else (option_map fault.ModuleTwice o) (option_map_or (reached_fault library modules) (module_named modules top) (Some (fault.ModuleMissing top)))) some

pub early_absent : (library : List ListedCell) (modules : List Module) (top : List ℕ) → None ≡ twice_name library [] modules → None ≡ module_place modules top → Some (fault.ModuleMissing top) ≡ early_fault library modules top
early_absent library modules top none absent = by (module_named modules top) (module_place modules top) (first_stands (λ (m : Module). bytes_eq top m.name) modules) absent refl
    ∙ ap (λ (o : Option (List ℕ)). or_else (option_map fault.ModuleTwice o) (option_map_or (reached_fault library modules) (module_named modules top) (Some (fault.ModuleMissing top)))) none
  where
    by : (o : Option Module) (p : Option ℕ) → StandsAt modules p o → None ≡ p → module_named modules top ≡ o → Some (fault.ModuleMissing top) ≡ option_map_or (reached_fault library modules) (module_named modules top) (Some (fault.ModuleMissing top))
    by None None there e f = ap (λ (x : Option Module). option_map_or (reached_fault library modules) x (Some (fault.ModuleMissing top))) (sym f)
    by (Some m) None there e f = absurd there
    by o (Some k) there e f = none_some e

pub early_there : (library : List ListedCell) (modules : List Module) (top : List ℕ) (place : ℕ) (f : Option HierFault) → None ≡ twice_name library [] modules → Some place ≡ module_place modules top
    → Some f ≡ option_map (reached_fault library modules) (slice_get modules place) → f ≡ early_fault library modules top
early_there library modules top place f none there is = by (module_named modules top) (module_place modules top) (first_stands (λ (m : Module). bytes_eq top m.name) modules) there refl
    ∙ ap (λ (o : Option (List ℕ)). or_else (option_map fault.ModuleTwice o) (option_map_or (reached_fault library modules) (module_named modules top) (Some (fault.ModuleMissing top)))) none
  where
    by : (o : Option Module) (p : Option ℕ) → StandsAt modules p o → Some place ≡ p → module_named modules top ≡ o → f ≡ option_map_or (reached_fault library modules) (module_named modules top) (Some (fault.ModuleMissing top))
    by None None stands e g = none_some (sym e)
    by (Some m) None stands e g = absurd stands
    by None (Some k) stands e g = absurd stands
    by (Some m) (Some k) stands e g =
        let here : k ≡ place = cc in
        let at : slice_get modules place ≡ Some m = subst (λ (n : ℕ). slice_get modules n ≡ Some m) here stands in
        let some : Some f ≡ Some (reached_fault library modules m) = is ∙ ap (option_map (reached_fault library modules)) at in
        let same : f ≡ reached_fault library modules m = some_same f (reached_fault library modules m) (Some (reached_fault library modules m)) (sym some) refl in
        same ∙ ap (λ (x : Option Module). option_map_or (reached_fault library modules) x (Some (fault.ModuleMissing top))) (sym g)

pub if_ok : {A E : Type 0} (r : Result A E) (P Q : A → Type 0) → ((a : A) → P a → Q a) → IfOk r P → IfOk r Q
if_ok (Ok a) P Q goes h = goes a h
if_ok (Err e) P Q goes h = h

-- a module that is found stands inside
pub place_inside : (modules : List Module) (name : List ℕ) (place : ℕ) → Some place ≡ module_place modules name → place < length modules
place_inside modules name place there = by (module_named modules name) (module_place modules name) (first_stands (λ (m : Module). bytes_eq name m.name) modules) there
  where
    by : (o : Option Module) (p : Option ℕ) → StandsAt modules p o → Some place ≡ p → place < length modules
    by None None stands e = none_some (sym e)
    by (Some m) None stands e = absurd stands
    by None (Some k) stands e = absurd stands
    by (Some m) (Some k) stands e = let here : k ≡ place = cc in slice_get_within modules place m (subst (λ (n : ℕ). slice_get modules n ≡ Some m) here stands)
