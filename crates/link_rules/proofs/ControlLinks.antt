-- Each clock, clear and preset operand of a cell is a link of the text.
use Rattle.std.proofs.Common.{◌≡◌, ℕ, ◌+◌, ◌⊎◌, inl, inr, Bool, true, false, ◌||◌, ◌==◌, List, [], ◌∷◌, ◌++◌, length, zero, suc, Option, Some, None, arith, refl, sym, ap, ◌∙◌}
use Rattle.std.specs.Prelude.{slice_get, find, unwrap_or, if◌then◌else◌}
use Rattle.std.specs.List.{flat_map}
use Rattle.std.specs.Option.{option_map}
use Rattle.std.specs.Str.{bytes_eq}
use Rattle.std.specs.Cmp.Lexicographic.{bytes_decides}
use Rattle.std.proofs.lemmas.Option.{slice_get-map, none-some, same_Some, option_and_then_some}
use Rattle.cell_library.specs.declared.listed.ListedCell.{ListedCell}
use Rattle.cell_library.specs.declared.Kind.{Kind}
use Rattle.cell_library.specs.declared.Kind.TheVariants as kind
use Rattle.cell_library.specs.declared.PortPlace.TheVariants as place
use Rattle.cell_library.specs.Gates.{is_flop}
use Rattle.cell_library.specs.Library.{kind_named, port_named, operand_ports}
use Rattle.cell_library.specs.Sound.{IsLibrary}
use Rattle.cell_library.proofs.PortLaws.{operand_is_found}
use Rattle.netlist_model.specs.declared.Feed.{Feed}
use Rattle.netlist_model.specs.declared.Feed.TheVariants.{Net, Const}
use Rattle.verilog_tree.specs.declared.tree.Module.{Module}
use Rattle.verilog_tree.specs.declared.tree.Operand.{Operand}
use Rattle.verilog_tree.specs.declared.tree.Operand.TheVariants as operand
use Rattle.verilog_tree.specs.declared.tree.Link.{Link}
use Rattle.verilog_tree.specs.declared.tree.Instance.{Instance}
use Rattle.verilog_tree.specs.declared.tree.Item.{Item}
use Rattle.verilog_tree.specs.declared.tree.Item.TheVariants as item
use Rattle.link_model.specs.Nets.{Declared, net_of, declared_names, declared_nets, nets_in}
use Rattle.link_model.specs.Cells.{NamedCell, feed_of, linked_operand, port_feed, library_cell, cell_of}
use Rattle.link_model.specs.Faults.{cells_in}
use Rattle.link_model.specs.Late.{is_control_place, bit_links, flop_links, item_links, IsDerived, HasNoDerived}
use Rattle.link_rules.specs.Cones.{FlopReads}
use Rattle.link_rules.proofs.LinkNets.{find-first}
use Rattle.list_laws.proofs.Lists.{before_push}

-- Places of a joined list.

slice_get-back : {X : Type 0} (xs ys : List X) (j : ℕ) (y : X) → slice_get ys j ≡ Some y → slice_get (xs ++ ys) (length xs + j) ≡ Some y
slice_get-back [] ys j y e = let at : 0 + j ≡ j = omega arith in ap (slice_get ys) at ∙ e
slice_get-back (x ∷ xs) ys j y e = let at : suc (length xs) + j ≡ suc (length xs + j) = omega arith in ap (slice_get (x ∷ (xs ++ ys))) at ∙ slice_get-back xs ys j y e

flat_map-there : {X Y : Type 0} (f : X → List Y) (xs : List X) (k j : ℕ) (x : X) (y : Y) → slice_get xs k ≡ Some x → slice_get (f x) j ≡ Some y → (place : ℕ) × (slice_get (flat_map f xs) place ≡ Some y)
flat_map-there f [] k j x y here there = absurd (none-some x here)
flat_map-there f (z ∷ zs) zero j x y here there = (j, before_push (f z) (flat_map f zs) y j (ap (λ w. slice_get (f w) j) (same_Some z x here) ∙ there))
flat_map-there f (z ∷ zs) (suc k) j x y here there = let rest = flat_map-there f zs k j x y here there in (length (f z) + rest.0, slice_get-back (f z) (flat_map f zs) rest.0 y rest.1)

-- The link of an operand.

abbrev net_or : Feed → ℕ
net_or (Net n) = n.0
net_or (Const b) = 0

module _ (library : List ListedCell) (names : List (List ℕ × Declared)) (i : Instance) (kind : Kind) (flop : is_flop library kind ≡ true) (number net : ℕ) where
  -- the links of a flip-flop are those of its ports
  in_flop : (j : ℕ) → slice_get (flat_map (λ (l : Link). if is_control_place (port_named library kind l.port) then bit_links i.name names l.operand else []) i.links) j ≡ Some (record { flop = i.name; net = net })
      → slice_get (flop_links library names i (Some kind)) j ≡ Some (record { flop = i.name; net = net })
  in_flop j there = ap (λ (b : Bool). slice_get (if b then flat_map (λ (l : Link). if is_control_place (port_named library kind l.port) then bit_links i.name names l.operand else []) i.links else []) j) flop ∙ there

  link_there : (port : List ℕ) → number == 1 || number == 2 ≡ true → port_named library kind port ≡ Some (place.Input number) → port_feed names i.links port ≡ Net (record { 0 = net })
      → (j : ℕ) × (slice_get (flop_links library names i (Some kind)) j ≡ Some (record { flop = i.name; net = net }))
  link_there port control named feed = let found = by (linked_operand i.links port) refl in (found.0, in_flop found.0 found.1)
    where
      by : (o : Option Operand) → linked_operand i.links port ≡ o → (j : ℕ) × (slice_get (flat_map (λ (l : Link). if is_control_place (port_named library kind l.port) then bit_links i.name names l.operand else []) i.links) j ≡ Some (record { flop = i.name; net = net }))
      by None e = absurd (let no : Const false ≡ Net (record { 0 = net }) = sym (ap (λ (o : Option Operand). unwrap_or (option_map (feed_of names) o) (Const false)) e) ∙ feed in cc)
      by (Some (operand.Const value)) e = absurd (let no : Const value ≡ Net (record { 0 = net }) = sym (ap (λ (o : Option Operand). unwrap_or (option_map (feed_of names) o) (Const false)) e) ∙ feed in cc)
      by (Some (operand.Bit bit)) e =
          let same : Net (net_of names bit) ≡ Net (record { 0 = net }) = sym (ap (λ (o : Option Operand). unwrap_or (option_map (feed_of names) o) (Const false)) e) ∙ feed in
          let net_is : (net_of names bit).0 ≡ net = ap net_or same in
          option_and_then_some (λ (l : Link). l.operand) (find (λ (l : Link). bytes_eq l.port port) i.links) (operand.Bit bit) e (λ l found operand_is.
          let first = find-first (λ (l : Link). bytes_eq l.port port) i.links l found in
          let port_is : l.port ≡ port = (bytes_decides l.port port).0 first.2 in
          let chosen : is_control_place (port_named library kind l.port) ≡ true = ap (λ (p : List ℕ). is_control_place (port_named library kind p)) port_is ∙ ap is_control_place named ∙ control in
          let here : slice_get (if is_control_place (port_named library kind l.port) then bit_links i.name names l.operand else []) 0 ≡ Some (record { flop = i.name; net = net }) =
          ap (λ (b : Bool). slice_get (if b then bit_links i.name names l.operand else []) 0) chosen
          ∙ ap (λ (o : Option Operand). slice_get (bit_links i.name names o) 0) operand_is
          ∙ ap (λ (n : ℕ). Some (record { flop = i.name; net = n })) net_is in
          flat_map-there (λ (l : Link). if is_control_place (port_named library kind l.port) then bit_links i.name names l.operand else []) i.links first.0 0 l (record { flop = i.name; net = net }) first.1 here)

  operand_there : number == 1 || number == 2 ≡ true → IsLibrary library → slice_get (library_cell library names i kind).feeds number ≡ Some (Net (record { 0 = net }))
      → (j : ℕ) × (slice_get (flop_links library names i (Some kind)) j ≡ Some (record { flop = i.name; net = net }))
  operand_there control sound operand = by (slice_get (operand_ports library kind) number) refl
    where
      by : (o : Option (List ℕ)) → slice_get (operand_ports library kind) number ≡ o → (j : ℕ) × (slice_get (flop_links library names i (Some kind)) j ≡ Some (record { flop = i.name; net = net }))
      by None e = absurd (none-some (Net (record { 0 = net })) (sym (slice_get-map (port_feed names i.links) (operand_ports library kind) number ∙ ap (option_map (port_feed names i.links)) e) ∙ operand))
      by (Some port) e =
          link_there port control (operand_is_found library sound kind number port e)
          (same_Some (port_feed names i.links port) (Net (record { 0 = net })) (sym (slice_get-map (port_feed names i.links) (operand_ports library kind) number ∙ ap (option_map (port_feed names i.links)) e) ∙ operand))

module _ (library : List ListedCell) (names : List (List ℕ × Declared)) (number net : ℕ) (control : number == 1 || number == 2 ≡ true) (sound : IsLibrary library) where
  instance_there : (i : Instance) (o : Option Kind) → is_flop library (unwrap_or o kind.Buf) ≡ true → slice_get (library_cell library names i (unwrap_or o kind.Buf)).feeds number ≡ Some (Net (record { 0 = net }))
      → (j : ℕ) × (flop : List ℕ) × (slice_get (flop_links library names i o) j ≡ Some (record { flop = flop; net = net }))
  instance_there i None is_one operand = absurd (cc)
  instance_there i (Some k) is_one operand = let there = operand_there library names i k is_one number net control sound operand in (there.0, i.name, there.1)

  item_there : (x : Item) → (cell_of library names x).keeps ≡ true → slice_get (cell_of library names x).feeds number ≡ Some (Net (record { 0 = net }))
      → (j : ℕ) × (flop : List ℕ) × (slice_get (item_links library names x) j ≡ Some (record { flop = flop; net = net }))
  item_there (item.Gate g) is_one operand = absurd (cc)
  item_there (item.Instance i) is_one operand = instance_there i (kind_named library i.cell) is_one operand
  item_there (item.Assign output input) is_one operand = absurd (cc)

module _ (library : List ListedCell) (m : Module) (sound : IsLibrary library) (none : HasNoDerived library m) (net : ℕ) (derived : IsDerived (nets_in (declared_nets m)) (cells_in library m) net) where
  not_derived : (number : ℕ) → number == 1 || number == 2 ≡ true → FlopReads (cells_in library m) number net → ⊥
  not_derived number control r = by (slice_get m.items r.number) refl
    where
      by : (o : Option Item) → slice_get m.items r.number ≡ o → ⊥
      by None e = none-some r.cell (sym (slice_get-map (cell_of library (declared_names m)) m.items r.number ∙ ap (option_map (cell_of library (declared_names m))) e) ∙ r.there)
      by (Some x) e =
          let same : cell_of library (declared_names m) x ≡ r.cell = same_Some (cell_of library (declared_names m) x) r.cell (sym (slice_get-map (cell_of library (declared_names m)) m.items r.number ∙ ap (option_map (cell_of library (declared_names m))) e) ∙ r.there) in
          let link = item_there library (declared_names m) number net control sound x (ap (λ (c : NamedCell). c.keeps) same ∙ r.flop) (ap (λ (c : NamedCell). slice_get c.feeds number) same ∙ r.operand) in
          let place = flat_map-there (item_links library (declared_names m)) m.items r.number link.0 x (record { flop = link.1; net = net }) e link.2 in
          none place.0 (record { flop = link.1; net = net }) (record { there = place.1; derived = derived })

pub controls_not_derived : (library : List ListedCell) (m : Module) → IsLibrary library → HasNoDerived library m → (root : ℕ) → FlopReads (cells_in library m) 1 root ⊎ FlopReads (cells_in library m) 2 root
    → IsDerived (nets_in (declared_nets m)) (cells_in library m) root → ⊥
controls_not_derived library m sound none root reads derived = elim reads [
  | inl clock ↦ not_derived library m sound none root derived 1 refl clock
  | inr clear ↦ not_derived library m sound none root derived 2 refl clear
]
