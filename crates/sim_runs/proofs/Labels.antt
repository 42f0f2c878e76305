-- The name of a net's bit, from what was looked up of the net.
use Rattle.std.proofs.Common.{◌≡◌, ℕ, ◌<◌, List, [], length, refl, Option, Some, None}
use Rattle.std.specs.Option.{option_map}
use Rattle.std.specs.List.{slice_get}
use Rattle.netlist_model.specs.declared.Name.{Name}
use Rattle.netlist_model.specs.declared.Name.TheVariants.{Original, Added}
use Rattle.netlist_model.specs.Lists.{NetView, NetlistView}
use Rattle.link_model.specs.Denoted.{name_bytes}
use Rattle.netlist_link.specs.WellNamed.{IsWellNamed, IsKnown}
use Rattle.output_lines.specs.Lines.{bit_text}
use Rattle.sim_runs.specs.Shown.{label_of}

-- an original name of a net is one of the table
pub name_known : (names : List (List ℕ)) (N : NetlistView) (net number : ℕ) → IsWellNamed names N → option_map (λ (found : NetView). found.name) (slice_get N.nets net) ≡ Some (Original number) → number < length names
name_known names N net number named is = go (slice_get N.nets net) refl is
  where
    go : (found : Option NetView) → slice_get N.nets net ≡ found → option_map (λ (view : NetView). view.name) found ≡ Some (Original number) → number < length names
    go None at name = absurd (cc)
    go (Some view) at name =
        let known = named.net_names net view at in
        let same : view.name ≡ Original number = cc in
        let fits : IsKnown names (Original number) = rw same at known in fits

pub label_is : (names : List (List ℕ)) (found : Option NetView) (name : Name) (bytes : List ℕ) (index : Option ℕ) → option_map (λ (view : NetView). view.name) found ≡ Some name
    → option_map (λ (view : NetView). view.index) found ≡ Some index → name_bytes names name ≡ Some bytes → bit_text bytes index ≡ label_of names found
label_is names None name bytes index is at spelled = absurd (cc)
label_is names (Some view) name bytes index is at spelled =
    let same : view.name ≡ name = cc in
    let place : view.index ≡ index = cc in
    rw (same, place, spelled) refl

-- a net that was added has no name
pub no_label : (names : List (List ℕ)) (N : NetlistView) (net number : ℕ) → IsWellNamed names N → option_map (λ (found : NetView). found.name) (slice_get N.nets net) ≡ Some (Added number)
    → [] ≡ label_of names (slice_get N.nets net)
no_label names N net number named is = go (slice_get N.nets net) refl is
  where
    go : (found : Option NetView) → slice_get N.nets net ≡ found → option_map (λ (view : NetView). view.name) found ≡ Some (Added number) → [] ≡ label_of names found
    go None at name = refl
    go (Some view) at name =
        let same : view.name ≡ Added number = cc in
        let bare = (named.added net number view at same).0 in
        rw (same, bare) refl
