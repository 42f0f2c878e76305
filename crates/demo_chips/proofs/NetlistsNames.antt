-- No name of a demonstration netlist stands twice.
use Rattle.std.proofs.Common.{◌≡◌, ℕ, List, [], ◌∷◌, ◌++◌, map, refl, ap, ◌∙◌, None, append-nil}
use Rattle.std.specs.Prelude.{codes}
use Rattle.std.specs.Fmt.{decimal, digits}
use Rattle.std.specs.List.{filter_map, range_with_len}
use Rattle.std.specs.Option.{option_map}
use Rattle.std.proofs.lemmas.List.Elements.{filter_map-append}
use Rattle.link_model.specs.declared.fault.LinkFault.TheVariants as fault
use Rattle.link_model.specs.Lists.{repeated}
use Rattle.link_model.specs.Faults.{item_name, name_twice}
use Rattle.demo_chips.specs.Netlists.{demo_items, demo_module, flop_item, from_zero, gate_count, gate_item, output_item}
use Rattle.demo_chips.proofs.NetlistsPlaces.{all_options, no_options}

abbrev numbered : ℕ → List ℕ
numbered i = codes "f_" ++ decimal i

-- only flip-flops have names
item_names : (n : ℕ) → filter_map item_name (demo_items n) ≡ map numbered (range_with_len 0 32)
item_names n =
    filter_map-append item_name (map (gate_item n) (from_zero (gate_count n))) (map (flop_item n) (from_zero 32) ++ map (output_item n) (from_zero 16))
    ∙ ap (λ (xs : List (List ℕ)). xs ++ filter_map item_name (map (flop_item n) (from_zero 32) ++ map (output_item n) (from_zero 16))) (no_options item_name (gate_item n) (from_zero (gate_count n)) (λ k. refl))
    ∙ filter_map-append item_name (map (flop_item n) (from_zero 32)) (map (output_item n) (from_zero 16))
    ∙ ap (λ (xs : List (List ℕ)). filter_map item_name (map (flop_item n) (from_zero 32)) ++ xs) (no_options item_name (output_item n) (from_zero 16) (λ j. refl))
    ∙ append-nil (filter_map item_name (map (flop_item n) (from_zero 32)))
    ∙ all_options item_name (flop_item n) numbered (from_zero 32) (λ i. refl)

abbrev net_names : List (List ℕ)
net_names = codes "clk" ∷ codes "rn" ∷ codes "d" ∷ codes "q" ∷ codes "f" ∷ codes "g" ∷ []

once : repeated (net_names ++ map numbered (range_with_len 0 32)) ≡ None
unfolding digits
once = refl

pub names_once : (n : ℕ) → name_twice (demo_module n) ≡ None
names_once n =
    ap (option_map fault.NameTwice) (ap (λ (xs : List (List ℕ)). repeated (net_names ++ xs)) (item_names n) ∙ once)
