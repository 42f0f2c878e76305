-- How many items and ports a module has whose boxes can be opened, and the numbers of its items.
use Rattle.std.proofs.Common.{◌≡◌, ℕ, suc, ◌+◌, ◌<◌, ◌≤◌, List, [], ◌∷◌, map, length, None, arith, ltb-false}
use Rattle.std.specs.Prelude.{nat_lt}
use Rattle.list_laws.proofs.Lists.{all_append, all_at}
use Rattle.list_laws.proofs.Options.{or_else-parts, not_told}
use Rattle.std.specs.List.{AllByRecursion}
use Rattle.verilog_tree.specs.declared.tree.Module.{Module}
use Rattle.verilog_tree.specs.declared.tree.Item.{Item}
use Rattle.netlist_model.specs.declared.What.{What}
use Rattle.netlist_model.specs.declared.What.TheVariants as what
use Rattle.link_model.specs.Faults.{counted, too_many}
use Rattle.link_model.specs.declared.fault.LinkFault.TheVariants.{TooMany}
use Rattle.box_model.specs.declared.boxes.BoxLibrary.{BoxLibrary}
use Rattle.box_model.specs.Opened.{opened_item, origins, origins_from}
use Rattle.box_model.specs.Counts.{added_bits, opened_excess}
use Rattle.box_links.specs.Steps.{AreNumbers}

within : (things : What) (limit count : ℕ) → too_many things limit count ≡ None → count ≤ limit
within things limit count none = ltb-false limit count (not_told (nat_lt limit count) (TooMany things (counted count) limit) none)

-- no more items than cells may be
pub few_items : (B : BoxLibrary) (m : Module) → opened_excess B m ≡ None → length m.items ≤ 262144
few_items B m small =
    let cells = within what.Cells 262144 (added_bits B m + length m.items) ((or_else-parts (too_many what.Cells 262144 (added_bits B m + length m.items)) _ small).0) in
    omega (arith, cells)

-- Origins are numbers of items.

abbrev IsBelow : ℕ → ℕ → Type 0
IsBelow bound number = number < bound

same_number : {X : Type 0} (xs : List X) (number bound : ℕ) → number < bound → AllByRecursion (IsBelow bound) (map (λ (x : X). number) xs)
same_number [] number bound less = tt
same_number (x ∷ xs) number bound less = (less, same_number xs number bound less)

origins_below : (B : BoxLibrary) (m : Module) (number bound : ℕ) (items : List Item) → number + length items ≤ bound → AllByRecursion (IsBelow bound) (origins_from B m number items)
origins_below B m number bound [] few = tt
origins_below B m number bound (i ∷ items) few =
    all_append (IsBelow bound) (map (λ (made : Item). number) (opened_item B m i)) (origins_from B m (suc number) items)
    (same_number (opened_item B m i) number bound (omega arith))
    (origins_below B m (suc number) bound items (omega arith))

pub are_numbers : (B : BoxLibrary) (m : Module) → opened_excess B m ≡ None → AreNumbers (origins B m)
are_numbers B m small place number at =
    let few = few_items B m small in
    let below : number < 262144 = all_at (IsBelow 262144) (origins B m) place number (origins_below B m 0 262144 m.items (omega (arith, few))) at in
    omega (arith, below)
