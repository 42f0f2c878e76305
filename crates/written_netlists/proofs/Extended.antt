-- A well-named netlist stays so, where ports with new names, added nets and named cells are added.
use Rattle.std.proofs.Common.{◌≡◌, ℕ, ◌+◌, ◌<◌, ◌≤◌, ◌⊎◌, List, length, refl, ap, sym, subst, ◌∙◌, inl, inr, arith, Option}
use Rattle.std.specs.Prelude.{Some, None, slice_get, IsSome, IfSome}
use Rattle.std.proofs.lemmas.Option.{slice_get_within}
use Rattle.cell_library.specs.declared.Kind.{Kind}
use Rattle.cell_library.specs.declared.listed.ListedCell.{ListedCell}
use Rattle.cell_library.specs.Library.{cell_name}
use Rattle.cell_library.specs.Sound.{IsLibrary}
use Rattle.netlist_model.specs.declared.NetId.{NetId}
use Rattle.netlist_model.specs.declared.Name.{Name}
use Rattle.netlist_model.specs.declared.Name.TheVariants.{Original, Added}
use Rattle.netlist_model.specs.declared.Range.{Range}
use Rattle.netlist_model.specs.Lists.{PortView, NetView, CellView, NetlistView, cell_at, direction}
use Rattle.netlist_link.specs.WellNamed.{IsKnown, IsShortRange, index_from, IsWireNet, IsWireName, IsWellNamed}
use Rattle.core_sides.specs.netlist_unlink.Prefixes.{IsUsed, port as used_port, net as used_net, cell as used_cell}
use Rattle.netlist_link.specs.DraftLawsNames.{IsNamedCell}
use Rattle.netlist_link.proofs.DraftLawsNamed.{is_some_of}
use Rattle.written_netlists.proofs.TapNames.{AreNewNames, IsLongerTable}

-- What is added.

-- a net of a scalar port with one of these names
pub record IsTapNet (M : NetlistView) (taps : List Name) (net : ℕ) (view : NetView) : Type 0 where
  pub place : ℕ
  pub name : Name
  pub at : slice_get taps place ≡ Some name
  pub named : view.name ≡ name
  pub inside : direction M.ports net ≡ None → ⊥

-- a net that was added, outside all ports
pub record IsAddedNet (M : NetlistView) (net : ℕ) (view : NetView) : Type 0 where
  pub number : ℕ
  pub named : view.name ≡ Added number
  pub bare : view.index ≡ None
  pub outside : direction M.ports net ≡ None

pub data NetKind (N M : NetlistView) (taps : List Name) (net : ℕ) (view : NetView) : Type 0 where
  core_net : slice_get N.nets net ≡ Some view → NetKind N M taps net view
  tap_net : IsTapNet M taps net view → NetKind N M taps net view
  added_net : IsAddedNet M net view → NetKind N M taps net view

-- a scalar port with one of these names, behind those of the netlist
pub record IsTapPort (N M : NetlistView) (taps : List Name) (p : ℕ) (port : PortView) : Type 0 where
  pub place : ℕ
  pub name : Name
  pub at : slice_get taps place ≡ Some name
  pub stands : p ≡ length N.ports + place
  pub named : port.name ≡ name
  pub scalar : port.range ≡ None
  pub bits : (bit : ℕ) (net : NetId) → slice_get port.nets bit ≡ Some net → slice_get M.nets net.0 ≡ Some (record { name = name; index = None })

-- a cell of the netlist, perhaps on other nets
pub record IsKeptCell (N : NetlistView) (i : ℕ) (cell : CellView) : Type 0 where
  pub was : CellView
  pub live : cell_at N i ≡ Some was
  pub kind : cell.kind ≡ was.kind
  pub name : cell.name ≡ was.name
  pub output : IsSome was.output → IsSome cell.output

pub record Extends (N M : NetlistView) (taps : List Name) : Type 0 where
  pub library : M.library ≡ N.library
  pub net_kept : (net : ℕ) (view : NetView) → slice_get N.nets net ≡ Some view → slice_get M.nets net ≡ Some view
  pub nets : (net : ℕ) (view : NetView) → slice_get M.nets net ≡ Some view → NetKind N M taps net view
  pub ports : (p : ℕ) (port : PortView) → slice_get M.ports p ≡ Some port → (slice_get N.ports p ≡ Some port) ⊎ IsTapPort N M taps p port
  pub sides : (net : ℕ) → net < length N.nets → direction M.ports net ≡ direction N.ports net
  pub cells : (i : ℕ) (cell : CellView) → cell_at M i ≡ Some cell → IsKeptCell N i cell ⊎ IsNamedCell cell

-- Names.

known_more : (old table : List (List ℕ)) (name : Name) → length old ≤ length table → IsKnown old name → IsKnown table name
known_more old table (Original number) longer known = omega (arith, longer, known)
known_more old table (Added number) longer known = tt

known_at : (table : List (List ℕ)) (name : Name) (number : ℕ) → name ≡ Original number → number < length table → IsKnown table name
known_at table name number is low = subst (IsKnown table) (sym is) low

known_added : (table : List (List ℕ)) (name : Name) (number : ℕ) → name ≡ Added number → IsKnown table name
known_added table name number is = subst (IsKnown table) (sym is) tt

not_both : {A : Type 0} (name : Name) (number added : ℕ) → name ≡ Original number → name ≡ Added added → A
not_both name number added a b = absurd (let no : Original number ≡ Added added = sym a ∙ b in cc)

neither_cell : {A : Type 0} (cell : CellView) (number added : ℕ) → cell.name ≡ Some (Original number) → cell.name ≡ Some (Added added) → A
neither_cell cell number added a b = absurd (let no : Some (Original number) ≡ Some (Added added) = sym a ∙ b in cc)

name_is : (cell : CellView) (name : Name) (number : ℕ) → cell.name ≡ Some (Added number) → cell.name ≡ Some name → name ≡ Added number
name_is cell name number a b = let same : Some name ≡ Some (Added number) = sym b ∙ a in cc

same_view : (a b : Name) (range : Option Range) (bit : ℕ) → a ≡ b → range ≡ None
    → ◌≡◌ {A = Option NetView} (Some (record { name = a; index = None })) (Some (record { name = b; index = index_from range bit }))
same_view a b range bit e f = rw (e, f) refl

-- Wires.

wire_before : (N M : NetlistView) (taps : List Name) → Extends N M taps → (net number : ℕ) → IsWireNet M net (Original number) → IsWireNet N net (Original number)
wire_before N M taps ext net number w = elim (ext.nets net w.view w.there) [
  | core_net core ↦ record { view = w.view; there = core; outside = sym (ext.sides net (slice_get_within N.nets net w.view core)) ∙ w.outside; named = w.named }
  | tap_net tap ↦ absurd (tap.inside w.outside)
  | added_net added ↦ not_both w.view.name number added.number w.named added.named
]

wire_after : (N M : NetlistView) (taps : List Name) → Extends N M taps → (number : ℕ) → IsWireName N number → IsWireName M number
wire_after N M taps ext number w = record {
  first = w.first;
  range = w.range;
  wire = record {
    bits = λ place low. ext.net_kept (w.first + place) _ (w.wire.bits place low);
    outside = λ place low. ext.sides (w.first + place) (slice_get_within N.nets (w.first + place) _ (w.wire.bits place low)) ∙ w.wire.outside place low;
    only = λ net is. w.wire.only net (wire_before N M taps ext net number is);
    short = w.wire.short;
  };
}

-- Ports and cells.

port_original : (old table : List (List ℕ)) (N M : NetlistView) (taps : List Name) → IsWellNamed old N → IsLongerTable old table → AreNewNames N table taps → Extends N M taps
    → (p : ℕ) (port : PortView) → slice_get M.ports p ≡ Some port → (number : ℕ) × (port.name ≡ Original number) × (number < length table)
port_original old table N M taps well more new ext p port at = elim (ext.ports p port at) [
  | inl was ↦ (let own = well.port_names p port was in (own.0, own.1, omega (arith, own.2, more.longer)))
  | inr tap ↦ (let name = new.each tap.place tap.name tap.at in (name.number, tap.named ∙ name.is, name.low))
]

-- a name of a port, wire or cell of the netlist is none of the new ones
new_port_apart : {A : Type 0} (table : List (List ℕ)) (N : NetlistView) (taps : List Name) → AreNewNames N table taps → (place : ℕ) (name : Name) → slice_get taps place ≡ Some name
    → (p : ℕ) (port : PortView) → slice_get N.ports p ≡ Some port → port.name ≡ name → A
new_port_apart table N taps new place name at p port was e =
    let n = new.each place name at in absurd (n.new (subst (IsUsed N) (e ∙ n.is) (used_port p port was)))

new_cell_apart : {A : Type 0} (table : List (List ℕ)) (N : NetlistView) (taps : List Name) → AreNewNames N table taps → (place : ℕ) (name : Name) → slice_get taps place ≡ Some name
    → (i : ℕ) (cell : CellView) → cell_at N i ≡ Some cell → cell.name ≡ Some name → A
new_cell_apart table N taps new place name at i cell live e =
    let n = new.each place name at in absurd (n.new (subst (IsUsed N) n.is (used_cell i cell name live e)))

new_wire_apart : {A : Type 0} (table : List (List ℕ)) (N : NetlistView) (taps : List Name) → AreNewNames N table taps → (place : ℕ) (name : Name) → slice_get taps place ≡ Some name
    → (net number : ℕ) → name ≡ Original number → IsWireNet N net (Original number) → A
new_wire_apart table N taps new place name at net number is w =
    let n = new.each place name at in absurd (n.new (subst (IsUsed N) (w.named ∙ sym is ∙ n.is) (used_net net w.view w.there)))

ports_differ : (old table : List (List ℕ)) (N M : NetlistView) (taps : List Name) → IsWellNamed old N → AreNewNames N table taps → Extends N M taps
    → (p q : ℕ) (port other : PortView) → slice_get M.ports p ≡ Some port → slice_get M.ports q ≡ Some other → port.name ≡ other.name → p ≡ q
ports_differ old table N M taps well new ext p q port other at there e = elim (ext.ports p port at) [
  | inl was ↦ elim (ext.ports q other there) [
    | inl been ↦ well.ports_apart p q port other was been e
    | inr tap ↦ new_port_apart table N taps new tap.place tap.name tap.at p port was (e ∙ tap.named)
  ]
  | inr tap ↦ elim (ext.ports q other there) [
    | inl been ↦ new_port_apart table N taps new tap.place tap.name tap.at q other been (sym e ∙ tap.named)
    | inr more ↦ (let same : more.name ≡ tap.name = sym more.named ∙ sym e ∙ tap.named in
        let place = new.apart tap.place more.place tap.name tap.at (more.at ∙ ap (λ (n : Name). Some n) same) in
        omega (arith, tap.stands, more.stands, place))
  ]
]

cells_differ : (old : List (List ℕ)) (N M : NetlistView) (taps : List Name) → IsWellNamed old N → Extends N M taps
    → (i j number : ℕ) (cell other : CellView) → cell_at M i ≡ Some cell → cell_at M j ≡ Some other → cell.name ≡ Some (Original number) → other.name ≡ Some (Original number) → i ≡ j
cells_differ old N M taps well ext i j number cell other live there is e = elim (ext.cells i cell live) [
  | inl one ↦ elim (ext.cells j other there) [
    | inl two ↦ well.cells_apart i j number one.was two.was one.live two.live (sym one.name ∙ is) (sym two.name ∙ e)
    | inr named ↦ neither_cell other number named.number e named.name
  ]
  | inr named ↦ neither_cell cell number named.number is named.name
]

port_no_cell : (old table : List (List ℕ)) (N M : NetlistView) (taps : List Name) → IsWellNamed old N → IsLongerTable old table → AreNewNames N table taps → Extends N M taps
    → (p i : ℕ) (port : PortView) (cell : CellView) → slice_get M.ports p ≡ Some port → cell_at M i ≡ Some cell → cell.name ≡ Some port.name → ⊥
port_no_cell old table N M taps well more new ext p i port cell at live e = elim (ext.cells i cell live) [
  | inl kept ↦ elim (ext.ports p port at) [
    | inl was ↦ well.port_or_cell p i port kept.was was kept.live (sym kept.name ∙ e)
    | inr tap ↦ new_cell_apart table N taps new tap.place tap.name tap.at i kept.was kept.live (sym kept.name ∙ e ∙ ap (λ (n : Name). Some n) tap.named)
  ]
  | inr named ↦ (let own = port_original old table N M taps well more new ext p port at in
      neither_cell cell own.0 named.number (e ∙ ap (λ (n : Name). Some n) own.1) named.name)
]

port_no_wire : (old table : List (List ℕ)) (N M : NetlistView) (taps : List Name) → IsWellNamed old N → IsLongerTable old table → AreNewNames N table taps → Extends N M taps
    → (p net : ℕ) (port : PortView) → slice_get M.ports p ≡ Some port → IsWireNet M net port.name → ⊥
port_no_wire old table N M taps well more new ext p net port at w =
    let own = port_original old table N M taps well more new ext p port at in
    let before = wire_before N M taps ext net own.0 (subst (IsWireNet M net) own.1 w) in
    elim (ext.ports p port at) [
      | inl was ↦ well.port_or_wire p net port was (subst (IsWireNet N net) (sym own.1) before)
      | inr tap ↦ new_wire_apart table N taps new tap.place tap.name tap.at net own.0 (sym tap.named ∙ own.1) before
    ]

-- The whole.

pub extended_named : (old table : List (List ℕ)) (N M : NetlistView) (taps : List Name) → IsWellNamed old N → IsLongerTable old table → AreNewNames N table taps → Extends N M taps
    → IsWellNamed table M
extended_named old table N M taps well more new ext = record {
  library = subst IsLibrary (sym ext.library) well.library;
  once = more.once;
  spelled = more.spelled;
  net_names = λ net view at. elim (ext.nets net view at) [
    | core_net core ↦ known_more old table view.name more.longer (well.net_names net view core)
    | tap_net tap ↦ (let name = new.each tap.place tap.name tap.at in known_at table view.name name.number (tap.named ∙ name.is) name.low)
    | added_net added ↦ known_added table view.name added.number added.named
  ];
  cell_names = λ i cell name live is. elim (ext.cells i cell live) [
    | inl kept ↦ known_more old table name more.longer (well.cell_names i kept.was name kept.live (sym kept.name ∙ is))
    | inr named ↦ known_added table name named.number (name_is cell name named.number named.name is)
  ];
  port_names = port_original old table N M taps well more new ext;
  port_ranges = λ p port at. elim (ext.ports p port at) [
    | inl was ↦ well.port_ranges p port was
    | inr tap ↦ subst (λ (r : Option Range). IfSome r IsShortRange) (sym tap.scalar) tt
  ];
  port_bits = λ p bit port net at has. elim (ext.ports p port at) [
    | inl was ↦ ext.net_kept net.0 _ (well.port_bits p bit port net was has)
    | inr tap ↦ tap.bits bit net has ∙ same_view tap.name port.name port.range bit (sym tap.named) tap.scalar
  ];
  wires = λ net number w. wire_after N M taps ext number (well.wires net number (wire_before N M taps ext net number w));
  added = λ net number view at is. elim (ext.nets net view at) [
    | core_net core ↦ (let was = well.added net number view core is in (was.0, ext.sides net (slice_get_within N.nets net view core) ∙ was.1))
    | tap_net tap ↦ (let name = new.each tap.place tap.name tap.at in not_both view.name name.number number (tap.named ∙ name.is) is)
    | added_net added ↦ (added.bare, added.outside)
  ];
  ports_apart = ports_differ old table N M taps well new ext;
  cells_apart = cells_differ old N M taps well ext;
  port_or_cell = port_no_cell old table N M taps well more new ext;
  port_or_wire = port_no_wire old table N M taps well more new ext;
  cell_or_wire = λ i net number cell live is w. elim (ext.cells i cell live) [
    | inl kept ↦ well.cell_or_wire i net number kept.was kept.live (sym kept.name ∙ is) (wire_before N M taps ext net number w)
    | inr named ↦ neither_cell cell number named.number is named.name
  ];
  library_named = λ i cell live library. elim (ext.cells i cell live) [
    | inl kept ↦ subst (λ (n : Option Name). IsSome n) (sym kept.name) (well.library_named i kept.was kept.live
        (subst (λ (k : Kind). IsSome (cell_name N.library k)) kept.kind (subst (λ (l : List ListedCell). IsSome (cell_name l cell.kind)) ext.library library)))
    | inr named ↦ is_some_of cell (Added named.number) named.name
  ];
  assign_unnamed = λ i cell live kind. elim (ext.cells i cell live) [
    | inl kept ↦ kept.name ∙ well.assign_unnamed i kept.was kept.live (sym kept.kind ∙ kind)
    | inr named ↦ absurd (named.kind kind)
  ];
  connected = λ i cell live none. elim (ext.cells i cell live) [
    | inl kept ↦ kept.output (well.connected i kept.was kept.live (ap (cell_name N.library) (sym kept.kind) ∙ ap (λ (l : List ListedCell). cell_name l cell.kind) (sym ext.library) ∙ none))
    | inr named ↦ named.connected
  ];
}

-- a used original name is of the netlist, or one of the new
pub used_either : (N M : NetlistView) (taps : List Name) → Extends N M taps → (name : Name) (number : ℕ) → IsUsed M name → name ≡ Original number
    → IsUsed N name ⊎ ((place : ℕ) × (slice_get taps place ≡ Some name))
used_either N M taps ext _ number (used_port p port at) is = elim (ext.ports p port at) [
  | inl was ↦ inl (used_port p port was)
  | inr tap ↦ inr (tap.place, tap.at ∙ ap (λ (n : Name). Some n) (sym tap.named))
]
used_either N M taps ext _ number (used_net net view at) is = elim (ext.nets net view at) [
  | core_net core ↦ inl (used_net net view core)
  | tap_net tap ↦ inr (tap.place, tap.at ∙ ap (λ (n : Name). Some n) (sym tap.named))
  | added_net added ↦ not_both view.name number added.number is added.named
]
used_either N M taps ext _ number (used_cell i cell name live has) is = elim (ext.cells i cell live) [
  | inl kept ↦ inl (used_cell i kept.was name kept.live (sym kept.name ∙ has))
  | inr named ↦ not_both name number named.number is (name_is cell name named.number named.name has)
]
