-- The first fault of a hierarchy, by the faults that come early and those that come late.
use Rattle.std.proofs.Common.{◌≡◌, ℕ, not, IsTrue, List, [], Option, Some, None, sym, ap, ◌∙◌}
use Rattle.std.specs.Option.{option_map, option_map_or}
use Rattle.list_laws.specs.Options.{or_else}
use Rattle.list_laws.proofs.Options.{none_some, or_else-parts, or_else-assoc, not_there}
use Rattle.list_laws.proofs.Tests.{not_false}
use Rattle.cell_library.specs.declared.listed.ListedCell.{ListedCell}
use Rattle.verilog_tree.specs.declared.tree.Module.{Module}
use Rattle.hier_model.specs.Visits.{module_named, has_levels}
use Rattle.hier_model.specs.declared.fault.HierFault.{HierFault}
use Rattle.hier_model.specs.declared.fault.HierFault.TheVariants as fault
use Rattle.hier_model.specs.Entries.{level_limit}
use Rattle.hier_model.specs.Faults.{twice_name, missing_name, recursive_name, too_many_in, top_fault, hier_fault}
use Rattle.hier_counts.specs.Early.{reached_fault, early_fault}
use Rattle.hier_flatten.specs.Flattened.{late_fault}

-- Two faults that differ in what comes behind.

some_behind : {M X : Type 0} (a : Option X) (m : Option M) (reached late all : M → Option X) (missing f : X) → ((x : M) → all x ≡ or_else (reached x) (late x)) → or_else a (option_map_or reached m (Some missing)) ≡ Some f
    → or_else a (option_map_or all m (Some missing)) ≡ Some f
some_behind None None reached late all missing f same is = is
some_behind {M} {X} None (Some x) reached late all missing f same is = same x ∙ ap (λ (o : Option X). or_else o (late x)) is
some_behind (Some a) m reached late all missing f same is = is

none_behind : {M X : Type 0} (a : Option X) (m : Option M) (reached late all : M → Option X) (missing : X) (top : M) → ((x : M) → all x ≡ or_else (reached x) (late x)) → or_else a (option_map_or reached m (Some missing)) ≡ None → m ≡ Some top
    → or_else a (option_map_or all m (Some missing)) ≡ late top
none_behind None None reached late all missing top same is found = none_some found
none_behind {M} {X} None (Some x) reached late all missing top same is found =
    let here : x ≡ top = cc in
    same x ∙ ap (λ (o : Option X). or_else o (late x)) is ∙ ap late here
none_behind (Some a) m reached late all missing top same is found = none_some (sym is)

none_there : {M X : Type 0} (a : Option X) (m : Option M) (reached : M → Option X) (missing : X) (top : M) → or_else a (option_map_or reached m (Some missing)) ≡ None → m ≡ Some top → reached top ≡ None
none_there None None reached missing top is found = none_some found
none_there {M} None (Some x) reached missing top is found = let here : x ≡ top = cc in ap reached (sym here) ∙ is
none_there (Some a) m reached missing top is found = none_some (sym is)

none_missing : {M X : Type 0} (a : Option X) (m : Option M) (reached : M → Option X) (missing : X) → or_else a (option_map_or reached m (Some missing)) ≡ None → m ≡ None → ⊥
none_missing None None reached missing is none = none_some (sym is)
none_missing None (Some x) reached missing is none = none_some (sym none)
none_missing (Some a) m reached missing is none = none_some (sym is)

-- The faults.

top_is : (library : List ListedCell) (modules : List Module) (top : Module) → top_fault library modules top ≡ or_else (reached_fault library modules top) (late_fault modules top)
top_is library modules top =
    let missing : Option HierFault = option_map fault.ModuleMissing (missing_name library modules top) in
    let ring : Option HierFault = option_map fault.ModuleRecursive (recursive_name modules top) in
    let many : Option HierFault = too_many_in modules top in
    let late : Option HierFault = late_fault modules top in
    sym (or_else-assoc missing (or_else ring many) late ∙ ap (or_else missing) (or_else-assoc ring many late))

-- an early fault is the first
pub early_first : (library : List ListedCell) (modules : List Module) (name : List ℕ) (f : HierFault) → early_fault library modules name ≡ Some f → hier_fault library modules name ≡ Some f
early_first library modules name f is =
    some_behind (option_map fault.ModuleTwice (twice_name library [] modules)) (module_named modules name) (reached_fault library modules) (late_fault modules) (top_fault library modules) (fault.ModuleMissing name) f (top_is library modules) is

-- without one the first is a late one
pub late_first : (library : List ListedCell) (modules : List Module) (name : List ℕ) (top : Module) → early_fault library modules name ≡ None → module_named modules name ≡ Some top → hier_fault library modules name ≡ late_fault modules top
late_first library modules name top none found =
    none_behind (option_map fault.ModuleTwice (twice_name library [] modules)) (module_named modules name) (reached_fault library modules) (late_fault modules) (top_fault library modules) (fault.ModuleMissing name) top (top_is library modules) none found

pub never_missing : (library : List ListedCell) (modules : List Module) (name : List ℕ) → early_fault library modules name ≡ None → module_named modules name ≡ None → ⊥
never_missing library modules name none absent =
    none_missing (option_map fault.ModuleTwice (twice_name library [] modules)) (module_named modules name) (reached_fault library modules) (fault.ModuleMissing name) none absent

-- and the levels suffice
pub levels_suffice : (library : List ListedCell) (modules : List Module) (name : List ℕ) (top : Module) → early_fault library modules name ≡ None → module_named modules name ≡ Some top → IsTrue (has_levels level_limit modules top)
levels_suffice library modules name top none found =
    let reached = none_there (option_map fault.ModuleTwice (twice_name library [] modules)) (module_named modules name) (reached_fault library modules) (fault.ModuleMissing name) top none found in
    let missing : Option HierFault = option_map fault.ModuleMissing (missing_name library modules top) in
    let ring : Option HierFault = option_map fault.ModuleRecursive (recursive_name modules top) in
    let many = (or_else-parts ring (too_many_in modules top) (or_else-parts missing (or_else ring (too_many_in modules top)) reached).1).1 in
    not_false (has_levels level_limit modules top) (not_there (not (has_levels level_limit modules top)) _ _ many).0
