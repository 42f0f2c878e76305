-- A well-named netlist stays so where something is added.
use Rattle.std.proofs.Common.{◌≡◌, ◌≢◌, ℕ, zero, suc, ◌+◌, ◌<◌, ◌≤◌, ◌⊎◌, List, [], ◌∷◌, ◌++◌, length, refl, ap, sym, subst, ◌∙◌, inl, inr, arith, Option}
use Rattle.std.specs.Prelude.{Some, None, slice_get, IsSome, IfSome}
use Rattle.std.specs.List.{list_any}
use Rattle.std.specs.Str.{bytes_eq}
use Rattle.std.proofs.lemmas.Bool.{cases_Bool}
use Rattle.list_laws.proofs.Lists.{at_push, last_push, before_push}
use Rattle.cell_library.specs.declared.listed.ListedCell.{ListedCell}
use Rattle.cell_library.specs.Library.{cell_name}
use Rattle.cell_library.specs.Sound.{IsLibrary}
use Rattle.netlist_model.specs.declared.Dir.{Dir}
use Rattle.netlist_model.specs.declared.NetId.{NetId}
use Rattle.netlist_model.specs.declared.Name.{Name}
use Rattle.netlist_model.specs.declared.Name.TheVariants.{Original, Added}
use Rattle.netlist_model.specs.Lists.{PortView, NetView, CellView, NetlistView, direction}
use Rattle.netlist_model.specs.Formed.{IsWellFormed}
use Rattle.netlist_model.specs.Ports.{DirectionHasBit}
use Rattle.netlist_arena.specs.Arena.{ArenaView}
use Rattle.netlist_arena.specs.Adds.{with_net, with_port}
use Rattle.link_arena.specs.NameTableNames.{with_name}
use Rattle.gate_parts.specs.Parts.{added_nets}
use Rattle.gate_parts.specs.Laws.{AppendedGrows}
use Rattle.gate_parts.specs.Appended.{Appended}
use Rattle.gate_parts.proofs.Ports.{no_port_past}
use Rattle.netlist_link.specs.WellNamed.{IsKnown, IsShortRange, index_from, IsWireNet, IsWireName, IsWellNamed}
use Rattle.netlist_link.specs.Grown.{IsOneOf, AddsCells}
use Rattle.netlist_link.specs.Pins.{scalar}
use Rattle.netlist_link.specs.DraftLawsNames.{IsUnused, EnteredIsUnused, named_net, IsLoneWire, WireIsFormed, WireIsNamed, PortIsNamed, IsNamedCell, AppendedIsNamed, LoneWireStays}
use Rattle.netlist_link.proofs.Growth.{grown_formed}
use Rattle.netlist_link.proofs.Parts.{adds_appended}
use Rattle.netlist_link.proofs.DraftLawsPorts.{dir_cases}

pub original_same : (a b : ℕ) → Original a ≡ Original b → a ≡ b
original_same a b e = ap (λ (n : Name). elim n [ Original k ↦ k | Added k ↦ k ]) e

some_original_same : (a b : ℕ) → ◌≡◌ {A = Option Name} (Some (Original a)) (Some (Original b)) → a ≡ b
some_original_same a b e = ap (λ (o : Option Name). elim o [ None ↦ 0 | Some n ↦ elim n [ Original k ↦ k | Added k ↦ k ] ]) e

-- a name of the table has a smaller number
known_below : (table : List (List ℕ)) (name : Name) (number : ℕ) → IsKnown table name → name ≡ Original number → number < length table
known_below table (Original k) number known e = let same = original_same k number e in omega (arith, same, known)
known_below table (Added k) number known e = absurd (cc)

-- a name that the table doesn't have is entered after the others
entered_last : (table : List (List ℕ)) (name : List ℕ) (number : ℕ) → ((k : ℕ) → slice_get table k ≢ Some name) → slice_get (with_name name table) number ≡ Some name → number ≡ length table
entered_last table name number absent at = elim (cases_Bool (list_any (bytes_eq name) table)) [
  | inl there ↦ absurd (absent number (rw there at at))
  | inr new ↦ elim (at_push table name name number (rw new at at)) [
    | inl last ↦ last.0
    | inr before ↦ absurd (absent number before.1)
  ]
]

pub entered_unused : EnteredIsUnused
entered_unused table N name number well absent at =
    let last = entered_last table name number absent at in
    record {
      ports = λ p port here e. let own = well.port_names p port here in let same = original_same own.0 number (sym own.1 ∙ e) in omega (arith, own.2, same, last);
      nets = λ net view here e. let low = known_below table view.name number (well.net_names net view here) e in omega (arith, low, last);
      cells = λ i cell here e. let low = known_below table (Original number) number (well.cell_names i cell (Original number) here e) refl in omega (arith, low, last);
    }

-- what an added wire net is
wire_net_old : (N M : NetlistView) (net : ℕ) (name : Name) → M.ports ≡ N.ports → (view : NetView) → slice_get N.nets net ≡ Some view → view.name ≡ name → direction M.ports net ≡ None → IsWireNet N net name
wire_net_old N M net name ports view there is outside = record { view = view; there = there; outside = ap (λ (ps : List PortView). direction ps net) (sym ports) ∙ outside; named = is }

-- nets are added after the others, each under an added name or under an unused one; the ports stay
record AddsNets (old new : NetlistView) : Type 0 where
  pub ports : new.ports ≡ old.ports
  pub kept : (net : ℕ) (view : NetView) → slice_get old.nets net ≡ Some view → slice_get new.nets net ≡ Some view
  pub either : (net : ℕ) (view : NetView) → slice_get new.nets net ≡ Some view → (slice_get old.nets net ≡ Some view) ⊎ ((length old.nets ≤ net) × (view.index ≡ None) × ((k : ℕ) × (view.name ≡ Added k)))

port_before : (old new : NetlistView) → AddsNets old new → (p : ℕ) (port : PortView) → slice_get new.ports p ≡ Some port → slice_get old.ports p ≡ Some port
port_before old new adds p port at = ap (λ (ps : List PortView). slice_get ps p) (sym adds.ports) ∙ at

known_added : (table : List (List ℕ)) (k : ℕ) (name : Name) → Some (Added k) ≡ Some name → IsKnown table name
known_added table k name e = let same : Added k ≡ name = cc in subst (IsKnown table) same tt

pub is_some_of : (cell : CellView) (name : Name) → cell.name ≡ Some name → IsSome cell.name
is_some_of cell name e = rw e refl

-- the wires of the old netlist are those of the new
wire_before : (old new : NetlistView) → AddsNets old new → (net number : ℕ) → IsWireNet new net (Original number) → IsWireNet old net (Original number)
wire_before old new adds net number w = elim (adds.either net w.view w.there) [
  | inl before ↦ wire_net_old old new net (Original number) adds.ports w.view before w.named w.outside
  | inr after ↦ absurd (let no : Added after.2.0 ≡ Original number = sym after.2.1 ∙ w.named in cc)
]

wire_after : (old new : NetlistView) → AddsNets old new → (number : ℕ) → IsWireName old number → IsWireName new number
wire_after old new adds number w = record {
  first = w.first;
  range = w.range;
  wire = record {
    bits = λ place low. adds.kept (w.first + place) _ (w.wire.bits place low);
    outside = λ place low. ap (λ (ps : List PortView). direction ps (w.first + place)) adds.ports ∙ w.wire.outside place low;
    only = λ net is. w.wire.only net (wire_before old new adds net number is);
    short = w.wire.short;
  };
}

added_not_original : (number k : ℕ) (cell : CellView) → cell.name ≡ Some (Added k) → cell.name ≡ Some (Original number) → ⊥
added_not_original number k cell a b = let no : Some (Added k) ≡ Some (Original number) = sym a ∙ b in cc

-- a well-named netlist stays so, where such nets and named cells are added
named_grown : (table : List (List ℕ)) (old new : NetlistView) (part : List CellView) → IsWellNamed table old → AddsNets old new → AddsCells old new part
    → ((net : ℕ) → length old.nets ≤ net → direction new.ports net ≡ None) → ((cell : CellView) → IsOneOf part cell → IsNamedCell cell) → IsWellNamed table new
named_grown table old new part well nets cells past named = record {
  library = subst IsLibrary (sym cells.library) well.library;
  once = well.once;
  spelled = well.spelled;
  net_names = λ net view at. elim (nets.either net view at) [
    | inl before ↦ well.net_names net view before
    | inr after ↦ subst (IsKnown table) (sym after.2.1) tt
  ];
  cell_names = λ i cell name live is. elim (cells.either i cell live) [
    | inl before ↦ well.cell_names i cell name before is
    | inr of ↦ (let own = named cell of in let same : Some (Added own.number) ≡ Some name = sym own.name ∙ is in known_added table own.number name same)
  ];
  port_names = λ p port at. well.port_names p port (port_before old new nets p port at);
  port_ranges = λ p port at. well.port_ranges p port (port_before old new nets p port at);
  port_bits = λ p bit port net at has. nets.kept net.0 _ (well.port_bits p bit port net (port_before old new nets p port at) has);
  wires = λ net number w. wire_after old new nets number (well.wires net number (wire_before old new nets net number w));
  added = λ net number view at is. elim (nets.either net view at) [
    | inl before ↦ (let was = well.added net number view before is in (was.0, ap (λ (ps : List PortView). direction ps net) nets.ports ∙ was.1))
    | inr after ↦ (after.1, past net after.0)
  ];
  ports_apart = λ p q port other at there e. well.ports_apart p q port other (port_before old new nets p port at) (port_before old new nets q other there) e;
  cells_apart = λ i j number cell other live there is e. elim (cells.either i cell live) [
    | inl before ↦ elim (cells.either j other there) [
      | inl again ↦ well.cells_apart i j number cell other before again is e
      | inr of ↦ absurd (added_not_original number (named other of).number other (named other of).name e)
    ]
    | inr of ↦ absurd (added_not_original number (named cell of).number cell (named cell of).name is)
  ];
  port_or_cell = λ p i port cell at live e. elim (cells.either i cell live) [
    | inl before ↦ well.port_or_cell p i port cell (port_before old new nets p port at) before e
    | inr of ↦ (let own = well.port_names p port (port_before old new nets p port at) in
        added_not_original own.0 (named cell of).number cell (named cell of).name (e ∙ ap (λ (n : Name). Some n) own.1))
  ];
  port_or_wire = λ p net port at w. (let own = well.port_names p port (port_before old new nets p port at) in
      well.port_or_wire p net port (port_before old new nets p port at) (rw (sym own.1) at (wire_before old new nets net own.0 (rw own.1 at w))));
  cell_or_wire = λ i net number cell live is w. elim (cells.either i cell live) [
    | inl before ↦ well.cell_or_wire i net number cell before is (wire_before old new nets net number w)
    | inr of ↦ added_not_original number (named cell of).number cell (named cell of).name is
  ];
  library_named = λ i cell live library. elim (cells.either i cell live) [
    | inl before ↦ well.library_named i cell before (subst (λ (l : List ListedCell). IsSome (cell_name l cell.kind)) cells.library library)
    | inr of ↦ is_some_of cell (Added (named cell of).number) (named cell of).name
  ];
  assign_unnamed = λ i cell live kind. elim (cells.either i cell live) [
    | inl before ↦ well.assign_unnamed i cell before kind
    | inr of ↦ absurd ((named cell of).kind kind)
  ];
  connected = λ i cell live none. elim (cells.either i cell live) [
    | inl before ↦ well.connected i cell before (ap (λ (l : List ListedCell). cell_name l cell.kind) (sym cells.library) ∙ none)
    | inr of ↦ (named cell of).connected
  ];
}

-- the nets that are added
added_net_at : (first count : ℕ) (k : ℕ) (view : NetView) → slice_get (added_nets first count) k ≡ Some view → (view.index ≡ None) × ((n : ℕ) × (view.name ≡ Added n))
added_net_at first zero k view at = absurd (cc)
added_net_at first (suc count) zero view at = let same : record { name = Added first; index = None } ≡ view = cc in
    (ap (λ (v : NetView). v.index) (sym same), (first, ap (λ (v : NetView). v.name) (sym same)))
added_net_at first (suc count) (suc k) view at = added_net_at (suc first) count k view at

at_append : {X : Type 0} (xs ys : List X) (i : ℕ) (x : X) → slice_get (xs ++ ys) i ≡ Some x → (slice_get xs i ≡ Some x) ⊎ ((length xs ≤ i) × ((k : ℕ) × (slice_get ys k ≡ Some x)))
at_append [] ys i x at = inr (omega arith, (i, at))
at_append (y ∷ xs) ys zero x at = inl at
at_append (y ∷ xs) ys (suc i) x at = elim (at_append xs ys i x at) [
  | inl before ↦ inl before
  | inr after ↦ inr (omega (arith, after.0), after.1)
]

nets_appended : (old new : ArenaView) (count : ℕ) (part : List CellView) → Appended old new count part → AddsNets old.lists new.lists
nets_appended old new count part added = record {
  ports = added.ports;
  kept = λ net view at. ap (λ (ns : List NetView). slice_get ns net) added.net_list ∙ before_push old.lists.nets (added_nets (length old.lists.nets) count) view net at;
  either = λ net view at. elim (at_append old.lists.nets (added_nets (length old.lists.nets) count) net view (ap (λ (ns : List NetView). slice_get ns net) (sym added.net_list) ∙ at)) [
    | inl before ↦ inl before
    | inr after ↦ (let is = added_net_at (length old.lists.nets) count after.1.0 view after.1.1 in inr (after.0, is.0, is.1))
  ];
}

pub appended_named : AppendedGrows → DirectionHasBit → AppendedIsNamed
appended_named grows has table old new count part laid well added named =
    named_grown table old.lists new.lists part well (nets_appended old new count part added) (adds_appended grows old new count part added)
    (λ net far. ap (λ (ps : List PortView). direction ps net) added.ports ∙ no_port_past has old.lists laid net far (direction old.lists.ports net) refl) named

pub lone_wire_stays_so : LoneWireStays
lone_wire_stays_so old new count part number net added lone =
    let nets = nets_appended old new count part added in
    record {
      there = nets.kept net (named_net number) lone.there;
      outside = ap (λ (ps : List PortView). direction ps net) added.ports ∙ lone.outside;
      only = λ other view at is. elim (nets.either other view at) [
        | inl before ↦ lone.only other view before is
        | inr after ↦ absurd (let no : Added after.2.0 ≡ Original number = sym after.2.1 ∙ is in cc)
      ];
    }

-- no cell is added where a net is
same_cells : (N : NetlistView) (view : NetView) → AddsCells N (with_net view N) []
same_cells N view = record { library = refl; ports = refl; kept = λ i cell live. live; either = λ i cell live. inl live }

wire_formed : (N : NetlistView) (view : NetView) → IsWellFormed N → IsWellFormed (with_net view N)
wire_formed N view formed =
    grown_formed N (with_net view N) [] formed.ordered.0 formed (same_cells N view)
    (λ i j cell other net a b. formed.one_driver i j cell other net (record { live = a.live; output = a.output }) (record { live = b.live; output = b.output }))
    (record { gates = λ i cell net d gate. formed.ordered.1.gates i cell net (record { live = d.live; output = d.output }) gate })
    (λ cell of. none_of cell of.place of.at)
  where
    none_of : {A : Type 0} (cell : CellView) (k : ℕ) → slice_get [] k ≡ Some cell → A
    none_of cell k at = absurd (let no : None ≡ Some cell = at in cc)

-- a wire net of the netlist with one net more
wire_of_more : (N : NetlistView) (number net other : ℕ) → IsWireNet (with_net (named_net number) N) net (Original other)
    → IsWireNet N net (Original other) ⊎ ((net ≡ length N.nets) × (number ≡ other))
wire_of_more N number net other w = elim (at_push N.nets (named_net number) w.view net w.there) [
  | inl last ↦ inr (last.0, original_same number other (ap (λ (v : NetView). v.name) last.1 ∙ w.named))
  | inr before ↦ inl (record { view = w.view; there = before.1; outside = w.outside; named = w.named })
]

-- no net has an unused name
unused_wire : (N : NetlistView) (number net : ℕ) → IsUnused N number → IsWireNet N net (Original number) → ⊥
unused_wire N number net free w = free.nets net w.view w.there w.named

wire_name_of_more : (table : List (List ℕ)) (N : NetlistView) (number net other : ℕ) → IsWellNamed table N → IsUnused N number → direction N.ports (length N.nets) ≡ None
    → IsWireNet (with_net (named_net number) N) net (Original other) → IsWireName (with_net (named_net number) N) other
wire_name_of_more table N number net other well free outside w = elim (wire_of_more N number net other w) [
  | inl before ↦ old_wire N number net other (well.wires net other before) free before
  | inr new ↦ subst (IsWireName (with_net (named_net number) N)) new.1 (new_wire N number free outside)
]
  where
    old_wire : (N : NetlistView) (number net other : ℕ) → IsWireName N other → IsUnused N number → IsWireNet N net (Original other) → IsWireName (with_net (named_net number) N) other
    old_wire N number net other wire free here = record {
      first = wire.first;
      range = wire.range;
      wire = record {
        bits = λ place low. before_push N.nets (named_net number ∷ []) _ (wire.first + place) (wire.wire.bits place low);
        outside = wire.wire.outside;
        only = λ at w. elim (wire_of_more N number at other w) [
          | inl before ↦ wire.wire.only at before
          | inr new ↦ absurd (unused_wire N number net free (subst (λ (k : ℕ). IsWireNet N net (Original k)) (sym new.1) here))
        ];
        short = wire.wire.short;
      };
    }

    new_wire : (N : NetlistView) (number : ℕ) → IsUnused N number → direction N.ports (length N.nets) ≡ None → IsWireName (with_net (named_net number) N) number
    new_wire N number free outside = record {
      first = length N.nets;
      range = None;
      wire = record {
        bits = λ place low. (let e : length N.nets + place ≡ length N.nets = omega (arith, low) in rw e (last_push N.nets (named_net number)));
        outside = λ place low. (let e : length N.nets + place ≡ length N.nets = omega (arith, low) in rw e outside);
        only = λ at w. elim (wire_of_more N number at number w) [
          | inl before ↦ absurd (unused_wire N number at free before)
          | inr new ↦ (omega (arith, new.0), omega (arith, new.0))
        ];
        short = tt;
      };
    }

wire_named : (table : List (List ℕ)) (N : NetlistView) (number : ℕ) → IsWellNamed table N → number < length table → IsUnused N number → direction N.ports (length N.nets) ≡ None
    → IsWellNamed table (with_net (named_net number) N)
wire_named table N number well low free outside = record {
  library = well.library;
  once = well.once;
  spelled = well.spelled;
  net_names = λ net view at. elim (at_push N.nets (named_net number) view net at) [
    | inl last ↦ subst (λ (v : NetView). IsKnown table v.name) last.1 low
    | inr before ↦ well.net_names net view before.1
  ];
  cell_names = well.cell_names;
  port_names = well.port_names;
  port_ranges = well.port_ranges;
  port_bits = λ p bit port net at has. before_push N.nets (named_net number ∷ []) _ net.0 (well.port_bits p bit port net at has);
  wires = λ net other w. wire_name_of_more table N number net other well free outside w;
  added = λ net k view at is. elim (at_push N.nets (named_net number) view net at) [
    | inl last ↦ absurd (let no : Original number ≡ Added k = ap (λ (v : NetView). v.name) last.1 ∙ is in cc)
    | inr before ↦ well.added net k view before.1 is
  ];
  ports_apart = well.ports_apart;
  cells_apart = well.cells_apart;
  port_or_cell = well.port_or_cell;
  port_or_wire = λ p net port at w. (let own = well.port_names p port at in
      elim (wire_of_more N number net own.0 (subst (IsWireNet (with_net (named_net number) N) net) own.1 w)) [
        | inl before ↦ well.port_or_wire p net port at (subst (IsWireNet N net) (sym own.1) before)
        | inr new ↦ free.ports p port at (own.1 ∙ ap (λ (k : ℕ). Original k) (sym new.1))
      ]);
  cell_or_wire = λ i net other cell live is w. elim (wire_of_more N number net other w) [
    | inl before ↦ well.cell_or_wire i net other cell live is before
    | inr new ↦ free.cells i cell live (is ∙ ap (λ (k : ℕ). Some (Original k)) (sym new.1))
  ];
  library_named = well.library_named;
  assign_unnamed = well.assign_unnamed;
  connected = well.connected;
}

pub wire_formed_so : DirectionHasBit → WireIsFormed
wire_formed_so has N number laid formed free = (
  wire_formed N (named_net number) formed,
  record {
    there = last_push N.nets (named_net number);
    outside = no_port_past has N laid (length N.nets) (omega arith) (direction N.ports (length N.nets)) refl;
    only = λ other view at is. elim (at_push N.nets (named_net number) view other at) [
      | inl last ↦ last.0
      | inr before ↦ absurd (free.nets other view before.1 is)
    ];
  },
)

pub wire_named_so : DirectionHasBit → WireIsNamed
wire_named_so has table N number laid well low free =
    wire_named table N number well low free (no_port_past has N laid (length N.nets) (omega arith) (direction N.ports (length N.nets)) refl)

-- the wire nets of the netlist with the port are wire nets without it
wire_under_port : (N : NetlistView) (number : ℕ) (dir : Dir) (pin : NetId) → IsLoneWire N number pin.0 → (net : ℕ) (name : Name) → IsWireNet (with_port (scalar (Original number) dir pin) N) net name
    → IsWireNet N net name × (net ≢ pin.0)
wire_under_port N number dir pin lone net name w = elim (dir_cases N (Original number) dir pin lone.outside net) [
  | inl new ↦ absurd (let no : Some dir ≡ None = sym new.1 ∙ w.outside in cc)
  | inr old ↦ (record { view = w.view; there = w.there; outside = sym old.1 ∙ w.outside; named = w.named }, old.0)
]

-- the wire of another name stays
other_wire_stays : (N : NetlistView) (number : ℕ) (dir : Dir) (pin : NetId) → IsLoneWire N number pin.0 → (other : ℕ) → other ≢ number → IsWireName N other
    → IsWireName (with_port (scalar (Original number) dir pin) N) other
other_wire_stays N number dir pin lone other apart wire = record {
  first = wire.first;
  range = wire.range;
  wire = record {
    bits = wire.wire.bits;
    outside = λ place low. elim (dir_cases N (Original number) dir pin lone.outside (wire.first + place)) [
      | inl new ↦ (let at = wire.wire.bits place low in let there = lone.there in
          let here = ap (slice_get N.nets) (sym new.0) ∙ at in
          absurd (apart (names_same other number _ (sym here ∙ there))))
      | inr old ↦ old.1 ∙ wire.wire.outside place low
    ];
    only = λ net w. wire.wire.only net (wire_under_port N number dir pin lone net (Original other) w).0;
    short = wire.wire.short;
  };
}
  where
    names_same : (a b : ℕ) (index : Option ℕ) → ◌≡◌ {A = Option NetView} (Some (record { name = Original a; index = index })) (Some (named_net b)) → a ≡ b
    names_same a b index e = ap (λ (o : Option NetView). elim o [ None ↦ 0 | Some v ↦ elim v.name [ Original k ↦ k | Added k ↦ k ] ]) e

lone_is_wire : (N : NetlistView) (number net : ℕ) → IsLoneWire N number net → IsWireNet N net (Original number)
lone_is_wire N number net lone = record { view = named_net number; there = lone.there; outside = lone.outside; named = refl }

pub port_named : PortIsNamed
port_named table N number dir pin well low lone =
    let here = lone_is_wire N number pin.0 lone in
    record {
      library = well.library;
      once = well.once;
      spelled = well.spelled;
      net_names = well.net_names;
      cell_names = well.cell_names;
      port_names = λ p port at. elim (at_push N.ports (scalar (Original number) dir pin) port p at) [
        | inl last ↦ (number, ap (λ (x : PortView). x.name) (sym last.1), low)
        | inr before ↦ well.port_names p port before.1
      ];
      port_ranges = λ p port at. elim (at_push N.ports (scalar (Original number) dir pin) port p at) [
        | inl last ↦ subst (λ (x : PortView). IfSome x.range IsShortRange) last.1 tt
        | inr before ↦ well.port_ranges p port before.1
      ];
      port_bits = λ p bit port net at has. elim (at_push N.ports (scalar (Original number) dir pin) port p at) [
        | inl last ↦ new_bit N number dir pin port net bit lone.there last.1 has
        | inr before ↦ well.port_bits p bit port net before.1 has
      ];
      wires = λ net other w. (let under = wire_under_port N number dir pin lone net (Original other) w in
          other_wire_stays N number dir pin lone other
          (λ same. under.1 (lone.only net under.0.view under.0.there (under.0.named ∙ ap (λ (k : ℕ). Original k) same))) (well.wires net other under.0));
      added = λ net k view at is. (let was = well.added net k view at is in (
        was.0,
        elim (dir_cases N (Original number) dir pin lone.outside net) [
          | inl new ↦ absurd (let there = lone.there in let same = sym (ap (slice_get N.nets) new.0 ∙ there) ∙ at in not_added number k view (cc same) is)
          | inr old ↦ old.1 ∙ was.1
        ],
      ));
      ports_apart = λ p q port other at there e. elim (at_push N.ports (scalar (Original number) dir pin) port p at) [
        | inl last ↦ elim (at_push N.ports (scalar (Original number) dir pin) other q there) [
          | inl again ↦ last.0 ∙ sym again.0
          | inr before ↦ absurd (well.port_or_wire q pin.0 other before.1 (subst (IsWireNet N pin.0) (ap (λ (x : PortView). x.name) last.1 ∙ e) here))
        ]
        | inr before ↦ elim (at_push N.ports (scalar (Original number) dir pin) other q there) [
          | inl again ↦ absurd (well.port_or_wire p pin.0 port before.1 (subst (IsWireNet N pin.0) (ap (λ (x : PortView). x.name) again.1 ∙ sym e) here))
          | inr after ↦ well.ports_apart p q port other before.1 after.1 e
        ]
      ];
      cells_apart = well.cells_apart;
      port_or_cell = λ p i port cell at live e. elim (at_push N.ports (scalar (Original number) dir pin) port p at) [
        | inl last ↦ well.cell_or_wire i pin.0 number cell live (e ∙ ap (λ (x : PortView). Some x.name) (sym last.1)) here
        | inr before ↦ well.port_or_cell p i port cell before.1 live e
      ];
      port_or_wire = λ p net port at w. (let under = wire_under_port N number dir pin lone net port.name w in
          elim (at_push N.ports (scalar (Original number) dir pin) port p at) [
            | inl last ↦ under.1 (lone.only net under.0.view under.0.there (under.0.named ∙ ap (λ (x : PortView). x.name) (sym last.1)))
            | inr before ↦ well.port_or_wire p net port before.1 under.0
          ]);
      cell_or_wire = λ i net other cell live is w. well.cell_or_wire i net other cell live is (wire_under_port N number dir pin lone net (Original other) w).0;
      library_named = well.library_named;
      assign_unnamed = well.assign_unnamed;
      connected = well.connected;
    }
  where
    not_added : (number k : ℕ) (view : NetView) → named_net number ≡ view → view.name ≡ Added k → ⊥
    not_added number k view same is = let no : Original number ≡ Added k = ap (λ (v : NetView). v.name) same ∙ is in cc

    new_bit : (N : NetlistView) (number : ℕ) (dir : Dir) (pin : NetId) (port : PortView) (net : NetId) (bit : ℕ) → slice_get N.nets pin.0 ≡ Some (named_net number)
        → scalar (Original number) dir pin ≡ port → slice_get port.nets bit ≡ Some net → slice_get N.nets net.0 ≡ Some (record { name = port.name; index = index_from port.range bit })
    new_bit N number dir pin port net zero there same has =
        let pin_is : pin ≡ net = first_same pin net (ap (λ (x : PortView). slice_get x.nets 0) same ∙ has) in
        ap (λ (n : NetId). slice_get N.nets n.0) (sym pin_is) ∙ there ∙ ap (λ (x : PortView). Some (record { name = x.name; index = index_from x.range 0 })) same
      where
        first_same : (a b : NetId) → ◌≡◌ {A = Option NetId} (Some a) (Some b) → a ≡ b
        first_same a b e = cc
    new_bit N number dir pin port net (suc bit) there same has = absurd (let no : None ≡ Some net = ap (λ (x : PortView). slice_get x.nets (suc bit)) same ∙ has in cc)
