-- Where a library has no boxes and cuts, a module is linked as it is, with the same faults.
use Rattle.std.proofs.Common.{◌≡◌, ℕ, zero, suc, ◌+◌, List, [], ◌∷◌, map, length, take, drop, refl, ap, sym, ◌∙◌, subst, Option, Some, None, arith}
use Rattle.std.specs.Prelude.{slice_get, unwrap_or, sum_by}
use Rattle.std.specs.List.{flat_map}
use Rattle.std.proofs.lemmas.List.Sums.{sum_by-cons}
use Rattle.std.proofs.lemmas.Option.{same_Some}
use Rattle.list_laws.specs.Options.{or_else, first_in}
use Rattle.list_laws.proofs.Options.{or_else-parts}
use Rattle.cell_library.specs.declared.listed.ListedCell.{ListedCell}
use Rattle.verilog_tree.specs.declared.tree.Module.{Module}
use Rattle.verilog_tree.specs.declared.tree.Port.{Port}
use Rattle.verilog_tree.specs.declared.tree.Item.{Item}
use Rattle.verilog_tree.specs.declared.tree.Item.TheVariants as item
use Rattle.netlist_model.specs.declared.What.TheVariants as what
use Rattle.link_model.specs.declared.fault.LinkFault.{LinkFault}
use Rattle.link_model.specs.declared.fault.LinkFault.TheVariants as link
use Rattle.link_model.specs.Nets.{bits_in, declared_nets, port_nets}
use Rattle.link_model.specs.Denoted.{denoted}
use Rattle.link_model.specs.Faults.{early_fault, gate_operands, text_fault, too_many, too_many_in}
use Rattle.link_model.specs.Late.{StandsFirst}
use Rattle.link_model.specs.Late.StandsFirst.{early, looped, derived}
use Rattle.netlist_link.specs.declared.straight.Straight.{Straight}
use Rattle.netlist_link.specs.Links.{IsLinkOf}
use Rattle.box_model.specs.Ports.{of_cells}
use Rattle.box_model.specs.Opened.{hidden_ports, item_ports, opened, origins, origins_from}
use Rattle.box_model.specs.Counts.{added_bits, opened_excess, parted_bits}
use Rattle.box_model.specs.Laws.{BoxlessIsClear, BoxlessOpens}
use Rattle.box_links.specs.declared.fault.BoxLinkFault.TheVariants.{Link}
use Rattle.box_links.specs.BoxFaults.{CanBeOpened, StandsInBoxes, first_output_bit, is_three_state_net, origin_of, own_fault, tristate_bit}
use Rattle.box_links.specs.BoxFaults.StandsInBoxes.{boxes, excess, links, tristate}
use Rattle.box_links.specs.Laws.{BoxlessFaultLinks, BoxlessFaultStands, BoxlessIsLinked, BoxlessLinksPlain}
use Rattle.box_links.proofs.HiddenPorts.{IsPlaceOf, linked_long, place_of}

-- No hidden ports.

hides_none : (cells : List ListedCell) (items : List Item) → flat_map (item_ports (of_cells cells)) items ≡ []
hides_none cells [] = refl
hides_none cells (item.Instance i ∷ items) = hides_none cells items
hides_none cells (item.Gate g ∷ items) = hides_none cells items
hides_none cells (item.Assign output input ∷ items) = hides_none cells items

none_hidden : (cells : List ListedCell) (m : Module) → length (hidden_ports (of_cells cells) m) ≡ 0
none_hidden cells m = ap (λ (ports : List Port). length ports) (hides_none cells m.items)

no_bit : (cells : List ListedCell) (k : ℕ) (m : Module) → tristate_bit (of_cells cells) k m ≡ None
no_bit cells k m = ap (λ (n : ℕ). first_in (first_output_bit (is_three_state_net (of_cells cells) k m)) (take n (drop k (denoted cells (opened (of_cells cells) k m)).ports))) (none_hidden cells m)

-- Counts.

none_here : (cells : List ListedCell) (m : Module) (x : Item) → parted_bits (of_cells cells) m x ≡ 0
none_here cells m (item.Instance i) = refl
none_here cells m (item.Gate g) = refl
none_here cells m (item.Assign output input) = refl

none_parted : (cells : List ListedCell) (m : Module) (items : List Item) → sum_by (parted_bits (of_cells cells) m) items ≡ 0
none_parted cells m [] = refl
none_parted cells m (x ∷ items) =
    let more = sum_by-cons (parted_bits (of_cells cells) m) x items in
    let here = none_here cells m x in
    let rest = none_parted cells m items in
    omega (arith, more, here, rest)

excess_is : (cells : List ListedCell) (m : Module) → opened_excess (of_cells cells) m ≡ too_many_in m
excess_is cells m =
    let none = none_parted cells m m.items in
    let items : added_bits (of_cells cells) m + length m.items ≡ length m.items = omega (arith, none) in
    let nets : added_bits (of_cells cells) m + bits_in (declared_nets m) ≡ bits_in (declared_nets m) = omega (arith, none) in
    ap (λ (n : ℕ). excess n (added_bits (of_cells cells) m + bits_in (declared_nets m))) items ∙ ap (excess (length m.items)) nets
  where
    excess : ℕ → ℕ → Option LinkFault
    excess n k = or_else (too_many what.Cells 262144 n) (or_else (too_many what.Nets 524288 k) (or_else (too_many what.Ports 4096 (bits_in (map port_nets m.ports))) (first_in (λ i. too_many what.Operands 256 (gate_operands i)) m.items)))

-- nothing that is counted first is too many where no early fault stands
few : (cells : List ListedCell) (m : Module) → early_fault cells m ≡ None → too_many_in m ≡ None
few cells m none = (or_else-parts (too_many_in m) _ ((or_else-parts (text_fault cells m) _ none).0)).0

-- too many comes first
many : (cells : List ListedCell) (m : Module) (f : LinkFault) → too_many_in m ≡ Some f → early_fault cells m ≡ Some f
many cells m f is = rw is refl

can_open : BoxlessIsClear → (cells : List ListedCell) (m : Module) → too_many_in m ≡ None → CanBeOpened (of_cells cells) m
can_open clear cells m none = record { clear = clear cells m; small = excess_is cells m ∙ none }

-- Origins.

origin_at : (cells : List ListedCell) (m : Module) (first : ℕ) (items : List Item) (number origin : ℕ) → slice_get (origins_from (of_cells cells) m first items) number ≡ Some origin → origin ≡ first + number
origin_at cells m first [] number origin at = absurd (cc)
origin_at cells m first (item.Instance i ∷ items) zero origin at = let same : first ≡ origin = same_Some first origin at in omega (arith, same)
origin_at cells m first (item.Instance i ∷ items) (suc number) origin at = let rest = origin_at cells m (suc first) items number origin at in omega (arith, rest)
origin_at cells m first (item.Gate g ∷ items) zero origin at = let same : first ≡ origin = same_Some first origin at in omega (arith, same)
origin_at cells m first (item.Gate g ∷ items) (suc number) origin at = let rest = origin_at cells m (suc first) items number origin at in omega (arith, rest)
origin_at cells m first (item.Assign output input ∷ items) zero origin at = let same : first ≡ origin = same_Some first origin at in omega (arith, same)
origin_at cells m first (item.Assign output input ∷ items) (suc number) origin at = let rest = origin_at cells m (suc first) items number origin at in omega (arith, rest)

own_number : (cells : List ListedCell) (m : Module) (number : ℕ) → origin_of (origins (of_cells cells) m) number ≡ number
own_number cells m number = by (slice_get (origins (of_cells cells) m) number) refl
  where
    by : (o : Option ℕ) → slice_get (origins (of_cells cells) m) number ≡ o → unwrap_or o number ≡ number
    by None e = refl
    by (Some origin) e = let same = origin_at cells m 0 m.items number origin e in omega (arith, same)

own_numbers : (cells : List ListedCell) (m : Module) (numbers : List ℕ) → map (origin_of (origins (of_cells cells) m)) numbers ≡ numbers
own_numbers cells m [] = refl
own_numbers cells m (n ∷ numbers) = ap (λ (k : ℕ). k ∷ map (origin_of (origins (of_cells cells) m)) numbers) (own_number cells m n) ∙ ap (λ (rest : List ℕ). n ∷ rest) (own_numbers cells m numbers)

own_is : (cells : List ListedCell) (m : Module) (f : LinkFault) → own_fault (origins (of_cells cells) m) f ≡ f
own_is cells m (link.Loop numbers) = ap (λ (l : List ℕ). link.Loop l) (own_numbers cells m numbers)
own_is cells m f = refl

-- Links.

pub boxless_is_linked : BoxlessIsClear → BoxlessOpens → BoxlessIsLinked
boxless_is_linked clear opens cells m linked is = record {
  opens = can_open clear cells m (few cells m (subst (λ (l : List ListedCell). early_fault l m ≡ None) is.library is.links.linkable.early));
  links = subst (λ (t : Module). IsLinkOf t linked) (sym (opens cells (length m.ports) m)) is.links;
  library = is.library;
  hides = record { straight = straight; inner = is.hides.inner; rails = is.hides.rails };
  plain = λ number bit port net hidden at has. absurd (none (place_of linked.straight.first linked.straight.count number hidden));
}
  where
    straight : linked.straight ≡ record { first = length m.ports; count = length (hidden_ports (of_cells cells) m) }
    straight =
        is.hides.straight ∙ ap (λ (n : ℕ). record { first = n; count = 0 }) (linked_long m linked is.links)
        ∙ ap (λ (n : ℕ). record { first = length m.ports; count = n }) (sym (none_hidden cells m))

    none : {number : ℕ} → IsPlaceOf linked.straight.first linked.straight.count number → ⊥
    none place =
        let less = place.less in
        let count : linked.straight.count ≡ 0 = ap (λ (s : Straight). s.count) is.hides.straight in
        omega (arith, less, count)

pub boxless_links_plain : BoxlessOpens → BoxlessLinksPlain
boxless_links_plain opens cells m linked is =
    let links : IsLinkOf m linked = subst (λ (t : Module). IsLinkOf t linked) (opens cells (length m.ports) m) is.links in
    let straight : linked.straight ≡ record { first = length linked.arena.lists.ports; count = 0 } =
    is.hides.straight ∙ ap (λ (n : ℕ). record { first = length m.ports; count = n }) (none_hidden cells m)
    ∙ ap (λ (n : ℕ). record { first = n; count = 0 }) (sym (linked_long m linked links)) in
    record { links = links; library = is.library; hides = record { straight = straight; inner = is.hides.inner; rails = is.hides.rails } }

-- Faults.

-- a fault of linking, where nothing is too many
linking : BoxlessOpens → (cells : List ListedCell) (k : ℕ) (m : Module) (f : LinkFault) → CanBeOpened (of_cells cells) m → StandsFirst cells m f → StandsInBoxes (of_cells cells) k m (Link f)
linking opens cells k m f can stands =
    let here : StandsFirst cells (opened (of_cells cells) k m) f = subst (λ (t : Module). StandsFirst cells t f) (sym (opens cells k m)) stands in
    subst (λ (g : LinkFault). StandsInBoxes (of_cells cells) k m (Link g)) (own_is cells m f) (links can here)

pub boxless_fault_stands : BoxlessIsClear → BoxlessOpens → BoxlessFaultStands
boxless_fault_stands clear opens cells k m f (looped {numbers = numbers} none loop) = linking opens cells k m (link.Loop numbers) (can_open clear cells m (few cells m none)) (looped none loop)
boxless_fault_stands clear opens cells k m f (derived {flop = flop} {bit = bit} none loops first) =
    linking opens cells k m (link.DerivedClock flop bit) (can_open clear cells m (few cells m none)) (derived none loops first)
boxless_fault_stands clear opens cells k m f (early h) = by (too_many_in m) refl
  where
    by : (o : Option LinkFault) → too_many_in m ≡ o → StandsInBoxes (of_cells cells) k m (Link f)
    by None e = linking opens cells k m f (can_open clear cells m e) (early h)
    by (Some g) e =
        let same : g ≡ f = same_Some g f (sym (many cells m g e) ∙ h) in
        subst (λ (x : LinkFault). StandsInBoxes (of_cells cells) k m (Link x)) same (excess (clear cells m) (excess_is cells m ∙ e))

pub boxless_fault_links : BoxlessIsClear → BoxlessOpens → BoxlessFaultLinks
boxless_fault_links clear opens cells k m e (boxes {f = f} h) = absurd (let no : None ≡ Some f = sym (clear cells m) ∙ h in cc)
boxless_fault_links clear opens cells k m e (excess {f = f} none h) = (f, refl, early (many cells m f (sym (excess_is cells m) ∙ h)))
boxless_fault_links clear opens cells k m e (links {f = f} can h) =
    (f, ap (λ (g : LinkFault). Link g) (own_is cells m f), subst (λ (t : Module). StandsFirst cells t f) (opens cells k m) h)
boxless_fault_links clear opens cells k m e (tristate {bit = bit} can linkable h) = absurd (let no : None ≡ Some bit = sym (no_bit cells k m) ∙ h in cc)
