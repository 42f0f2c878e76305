-- The first derived clock, clear or preset is the first link whose net is found.
use Rattle.std.proofs.Common.{◌≡◌, ℕ, ◌+◌, ◌≤◌, ◌↔◌, Bool, true, false, List, length, drop, Option, Some, None, refl, sym, subst, ap, ◌∙◌}
use Rattle.std.specs.Prelude.{slice_get, find}
use Rattle.std.proofs.lemmas.List.{drop_more, drop_all}
use Rattle.std.specs.Option.{option_map}
use Rattle.std.proofs.lemmas.Option.{none-some, some_pair_parts, slice_get-map, slice_get_within, get_or_from_slice_get}
use Rattle.cell_library.specs.declared.listed.ListedCell.{ListedCell}
use Rattle.cell_library.specs.declared.Kind.{Kind}
use Rattle.cell_library.specs.Gates.{is_flop}
use Rattle.netlist_model.specs.declared.Feed.{Feed}
use Rattle.netlist_model.specs.Lists.{CellView, NetlistView, cell_at}
use Rattle.link_model.specs.Denoted.{AreCells}
use Rattle.verilog_tree.specs.declared.tree.Link.{Link}
use Rattle.verilog_tree.specs.declared.tree.Instance.{Instance}
use Rattle.verilog_tree.specs.declared.tree.Item.{Item}
use Rattle.verilog_tree.specs.declared.tree.Item.TheVariants as item
use Rattle.verilog_tree.specs.declared.tree.Module.{Module}
use Rattle.link_model.specs.declared.fault.LinkFault.{LinkFault}
use Rattle.link_model.specs.declared.fault.LinkFault.TheVariants as fault
use Rattle.link_model.specs.Lists.{or_else, first_in}
use Rattle.link_model.specs.Nets.{NamedNet, declared_names, declared_nets, nets_in}
use Rattle.link_model.specs.Cells.{NamedCell, cell_of}
use Rattle.link_model.specs.Faults.{text_fault, cells_in, bit_name}
use Rattle.link_model.specs.Late.{ControlLink, control_links, IsDerived, IsFirstDerived, HasNoDerived}
use Rattle.link_rules.specs.ClocksFaults.{IsDerivedFault, derived}
use Rattle.link_rules.specs.Links.{is_found_net, found_link, found_item, unnamed_cell}
use Rattle.link_rules.proofs.ClocksCells.{LiveAt, kept, live_at}
use Rattle.link_rules.proofs.LinkNets.{link_pair, is_found_link, found_along, find-first, find-none}

module _ (library : List ListedCell) (m : Module) (marks : List Bool) (clear : text_fault library m ≡ None)
    (says : (net : ℕ) → (is_found_net marks net ≡ true) ↔ IsDerived (nets_in (declared_nets m)) (cells_in library m) net) where
  not_found : (link : ControlLink) → is_found_link marks link ≡ false → IsDerived (nets_in (declared_nets m)) (cells_in library m) link.net → ⊥
  not_found link e d = let yes = (says link.net).1 d in let no : false ≡ true = sym e ∙ yes in cc

  no_derived : first_in (found_item library marks (declared_names m)) m.items ≡ None → HasNoDerived library m
  no_derived e place link at = not_found link (find-none (is_found_link marks) (control_links library m) (unmapped (find (is_found_link marks) (control_links library m)) (sym (found_along library m marks clear) ∙ e)) place link at.there) at.derived
    where
      unmapped : (o : Option ControlLink) → option_map link_pair o ≡ None → o ≡ None
      unmapped None e = refl
      unmapped (Some link) e = absurd (none-some (link_pair link) (sym e))

  first_derived : (flop : List ℕ) (net : ℕ) (named : NamedNet) → first_in (found_item library marks (declared_names m)) m.items ≡ Some (flop, net) → slice_get (nets_in (declared_nets m)) net ≡ Some named
      → IsFirstDerived library m flop (bit_name named)
  first_derived flop net named e there = by (find (is_found_link marks) (control_links library m)) refl (sym (found_along library m marks clear) ∙ e)
    where
      by : (o : Option ControlLink) → find (is_found_link marks) (control_links library m) ≡ o → option_map link_pair o ≡ Some (flop, net) → IsFirstDerived library m flop (bit_name named)
      by None f g = absurd (none-some (flop, net) g)
      by (Some link) f g =
          let parts = some_pair_parts link.flop flop link.net net g in
          let first = find-first (is_found_link marks) (control_links library m) link f in
          record {
            place = first.0;
            link = link;
            here = record { there = first.1; derived = (says link.net).0 first.2 };
            first = λ earlier other low at. not_found other (first.3 earlier other low at.there) at.derived;
            named = named;
            net = ap (slice_get (nets_in (declared_nets m))) parts.1 ∙ there;
            flop_is = sym parts.0;
            bit_is = refl;
          }

pub no_derived_in : (library : List ListedCell) (m : Module) (nets : List NamedNet) (marks : List Bool) → text_fault library m ≡ None → nets ≡ nets_in (declared_nets m)
    → ((net : ℕ) → (is_found_net marks net ≡ true) ↔ IsDerived nets (cells_in library m) net) → first_in (found_item library marks (declared_names m)) m.items ≡ None → HasNoDerived library m
no_derived_in library m nets marks clear nets_are says =
    no_derived library m marks clear (λ net. subst (λ (ns : List NamedNet). (is_found_net marks net ≡ true) ↔ IsDerived ns (cells_in library m) net) nets_are (says net))

pub first_derived_in : (library : List ListedCell) (m : Module) (nets : List NamedNet) (marks : List Bool) → text_fault library m ≡ None → nets ≡ nets_in (declared_nets m)
    → ((net : ℕ) → (is_found_net marks net ≡ true) ↔ IsDerived nets (cells_in library m) net) → (flop : List ℕ) (net : ℕ) (named : NamedNet) (f : LinkFault)
    → first_in (found_item library marks (declared_names m)) m.items ≡ Some (flop, net) → slice_get nets net ≡ Some named → f ≡ fault.DerivedClock flop (bit_name named) → IsDerivedFault library m f
first_derived_in library m nets marks clear nets_are says flop net named f e there is =
    let here : slice_get (nets_in (declared_nets m)) net ≡ Some named = sym (ap (λ (ns : List NamedNet). slice_get ns net) nets_are) ∙ there in
    let told = first_derived library m marks clear (λ net. subst (λ (ns : List NamedNet). (is_found_net marks net ≡ true) ↔ IsDerived ns (cells_in library m) net) nets_are (says net)) flop net named e here in
    subst (IsDerivedFault library m) (sym is) (derived told)

-- As the items are passed.

-- what is found hangs on what the cell is and reads
same_links : (library : List ListedCell) (marks : List Bool) (a b : NamedCell) (links : List Link) → a.kind ≡ b.kind → a.keeps ≡ b.keeps → a.feeds ≡ b.feeds → first_in (found_link library marks a) links ≡ first_in (found_link library marks b) links
same_links library marks a b links kind keeps feeds =
    let found : Kind → Bool → List Feed → Option ℕ = λ k v fs. first_in (found_link library marks (record { kind = k; keeps = v; name = None; feeds = fs; output = None })) links in
    ap (λ (k : Kind). found k a.keeps a.feeds) kind ∙ ap (λ (v : Bool). found b.kind v a.feeds) keeps ∙ ap (found b.kind b.keeps) feeds

-- the item at a place is the live cell with that number
pub live_item : (table : List (List ℕ)) (N : NetlistView) (m : Module) (k : ℕ) (x : Item) → AreCells table N (cells_in N.library m) → slice_get m.items k ≡ Some x → LiveAt table N k (cell_of N.library (declared_names m) x)
live_item table N m k x all here = live_at table N (cells_in N.library m) k (cell_of N.library (declared_names m) x) all (slice_get-map (cell_of N.library (declared_names m)) m.items k ∙ ap (option_map (cell_of N.library (declared_names m))) here)

pub found_item-at : (table : List (List ℕ)) (N : NetlistView) (m : Module) (marks : List Bool) (k : ℕ) (x : Item) (i : Instance) (links : List Link) (o : Option ℕ) → AreCells table N (cells_in N.library m)
    → slice_get m.items k ≡ Some x → x ≡ item.Instance i → links ≡ i.links → ((cell : CellView) → cell_at N k ≡ Some cell → o ≡ first_in (found_link N.library marks (unnamed_cell N.library cell)) links)
    → found_item N.library marks (declared_names m) x ≡ option_map (λ (net : ℕ). (i.name, net)) o
found_item-at table N m marks k x i links o all here x_is links_are o_is =
    let named : NamedCell = cell_of N.library (declared_names m) x in
    let l = live_item table N m k x all here in
    let there : slice_get (cells_in N.library m) k ≡ Some named = slice_get-map (cell_of N.library (declared_names m)) m.items k ∙ ap (option_map (cell_of N.library (declared_names m))) here in
    let keeps : is_flop N.library l.cell.kind ≡ named.keeps = ap (is_flop N.library) l.is.kind ∙ sym (kept N m k named there) in
    let same : first_in (found_link N.library marks (unnamed_cell N.library l.cell)) links ≡ first_in (found_link N.library marks named) links = same_links N.library marks (unnamed_cell N.library l.cell) named links l.is.kind keeps l.is.feeds in
    let cell_is : named ≡ cell_of N.library (declared_names m) (item.Instance i) = ap (cell_of N.library (declared_names m)) x_is in
    ap (found_item N.library marks (declared_names m)) x_is
    ∙ ap (λ (c : NamedCell). option_map (λ (net : ℕ). (i.name, net)) (first_in (found_link N.library marks c) i.links)) (sym cell_is)
    ∙ ap (λ (ls : List Link). option_map (λ (net : ℕ). (i.name, net)) (first_in (found_link N.library marks named) ls)) (sym links_are)
    ∙ ap (option_map (λ (net : ℕ). (i.name, net))) (sym (o_is l.cell l.live ∙ same))

-- one more item
pub first_in-step : {X Y : Type 0} (test : X → Option Y) (xs : List X) (i : ℕ) (x : X) → slice_get xs i ≡ Some x → first_in test (drop i xs) ≡ or_else (test x) (first_in test (drop (i + 1) xs))
first_in-step test xs i x here =
    ap (first_in test) (drop_more xs i x (slice_get_within xs i x here))
    ∙ ap (λ z. or_else (test z) (first_in test (drop (i + 1) xs))) (get_or_from_slice_get xs i x x here)

pub first_in-passed : {X Y : Type 0} (test : X → Option Y) (xs : List X) (i : ℕ) (x : X) (o : Option Y) → slice_get xs i ≡ Some x → test x ≡ None → first_in test (drop i xs) ≡ o → first_in test (drop (i + 1) xs) ≡ o
first_in-passed test xs i x o here bare e = sym (ap (λ w. or_else w (first_in test (drop (i + 1) xs))) bare) ∙ sym (first_in-step test xs i x here) ∙ e

pub first_in-found : {X Y : Type 0} (test : X → Option Y) (xs : List X) (i : ℕ) (x : X) (y : Y) (o : Option Y) → slice_get xs i ≡ Some x → test x ≡ Some y → first_in test (drop i xs) ≡ o → o ≡ Some y
first_in-found test xs i x y o here found e = sym e ∙ first_in-step test xs i x here ∙ ap (λ w. or_else w (first_in test (drop (i + 1) xs))) found

pub first_in-ended : {X Y : Type 0} (test : X → Option Y) (xs : List X) (i : ℕ) (o : Option Y) → length xs ≤ i → first_in test (drop i xs) ≡ o → o ≡ None
first_in-ended test xs i o past e = sym e ∙ ap (first_in test) (drop_all i xs past)
