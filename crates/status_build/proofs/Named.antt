-- The netlist stays well named.
use Rattle.std.proofs.Common.{◌≡◌, ◌≢◌, ℕ, ◌+◌, ◌==◌, Bool, true, false, List, [], ◌∷◌, length, Option, Some, refl, ap, sym, ◌∙◌, subst, eqb-true, eq-eqb}
use Rattle.std.specs.Prelude.{IsSome}
use Rattle.cell_library.specs.declared.listed.ListedCell.{ListedCell}
use Rattle.cell_library.specs.Library.{cell_name}
use Rattle.cell_library.specs.declared.Kind.{Kind}
use Rattle.netlist_model.specs.declared.NetId.{NetId}
use Rattle.netlist_model.specs.declared.Name.{Name}
use Rattle.netlist_model.specs.declared.Name.TheVariants.{Original}
use Rattle.netlist_model.specs.declared.Feed.TheVariants.{Net}
use Rattle.netlist_model.specs.Lists.{PortView, NetView, CellView, NetlistView, cell_at, cell_count}
use Rattle.netlist_arena.specs.Moves.{with_feed, connected}
use Rattle.netlist_link.specs.WellNamed.{IsWellNamed, IsWireNet, IsWireName}
use Rattle.gate_parts.specs.Laws.{AppendedGrows}
use Rattle.netlist_link.specs.DraftLawsNames.{AppendedIsNamed}
use Rattle.status_gates.specs.Registers.{registers_size}
use Rattle.status_build.specs.FormedLaws.{RegistersAreNamed}
use Rattle.status_build.specs.Build.{added_cells, shown_at, StatusIsNamed}
use Rattle.status_build.proofs.Connected.{connected_other, connected_at}

-- A cell that differs in its operands alone.

record SameButFeeds (N : NetlistView) (i : ℕ) (cell : CellView) : Type 0 where
  other : CellView
  live : cell_at N i ≡ Some other
  kind : other.kind ≡ cell.kind
  name : other.name ≡ cell.name
  output : other.output ≡ cell.output

-- so a netlist with the same library, ports and nets is well named as the other is
other_feeds : (table : List (List ℕ)) (M N : NetlistView) → M.library ≡ N.library → M.ports ≡ N.ports → M.nets ≡ N.nets
    → ((i : ℕ) (cell : CellView) → cell_at M i ≡ Some cell → SameButFeeds N i cell) → IsWellNamed table N → IsWellNamed table M
other_feeds table M N library ports nets back named =
    let there : IsWellNamed table (record M { library = N.library; ports = N.ports; nets = N.nets }) = record {
      library = named.library;
      once = named.once;
      spelled = named.spelled;
      net_names = named.net_names;
      cell_names = λ i cell name live is. let b = back i cell live in named.cell_names i b.other name b.live (b.name ∙ is);
      port_names = named.port_names;
      port_ranges = named.port_ranges;
      port_bits = named.port_bits;
      wires = named_wires;
      added = named.added;
      ports_apart = named.ports_apart;
      cells_apart = λ i j number cell other one two a b. let c = back i cell one in let d = back j other two in named.cells_apart i j number c.other d.other c.live d.live (c.name ∙ a) (d.name ∙ b);
      port_or_cell = λ p i port cell at live is. let b = back i cell live in named.port_or_cell p i port b.other at b.live (b.name ∙ is);
      port_or_wire = λ p net port at w. named.port_or_wire p net port at (record { view = w.view; there = w.there; outside = w.outside; named = w.named });
      cell_or_wire = λ i net number cell live is w. let b = back i cell live in named.cell_or_wire i net number b.other b.live (b.name ∙ is)
          (record { view = w.view; there = w.there; outside = w.outside; named = w.named });
      library_named = λ i cell live some. let b = back i cell live in
          subst (λ (x : Option Name). IsSome x) b.name (named.library_named i b.other b.live (subst (λ (k : Kind). IsSome (cell_name N.library k)) (sym b.kind) some));
      assign_unnamed = λ i cell live is. let b = back i cell live in sym b.name ∙ named.assign_unnamed i b.other b.live (b.kind ∙ is);
      connected = λ i cell live none. let b = back i cell live in subst (λ (x : Option NetId). IsSome x) b.output (named.connected i b.other b.live (ap (cell_name N.library) b.kind ∙ none));
    } in
    carried M N.library N.ports N.nets (sym library) (sym ports) (sym nets) there
  where
    named_wires : (net number : ℕ) → IsWireNet (record M { library = N.library; ports = N.ports; nets = N.nets }) net (Original number)
        → IsWireName (record M { library = N.library; ports = N.ports; nets = N.nets }) number
    named_wires net number w =
        let n = named.wires net number (record { view = w.view; there = w.there; outside = w.outside; named = w.named }) in
        record {
          first = n.first;
          range = n.range;
          wire = record {
            bits = n.wire.bits;
            outside = n.wire.outside;
            only = λ other o. n.wire.only other (record { view = o.view; there = o.there; outside = o.outside; named = o.named });
            short = n.wire.short;
          };
        }

    carried : (K : NetlistView) (l : List ListedCell) (ps : List PortView) (ns : List NetView) → l ≡ K.library → ps ≡ K.ports → ns ≡ K.nets
        → IsWellNamed table (record K { library = l; ports = ps; nets = ns }) → IsWellNamed table K
    carried K l ps ns a b c h =
        subst (λ (x : List NetView). IsWellNamed table (record K { nets = x })) c
        (subst (λ (x : List PortView). IsWellNamed table (record K { ports = x; nets = ns })) b
        (subst (λ (x : List ListedCell). IsWellNamed table (record K { library = x; ports = ps; nets = ns })) a h))

-- One operand.

same_cell : (a b : CellView) → ◌≡◌ {A = Option CellView} (Some a) (Some b) → a ≡ b
same_cell a b e = cc

operand_back : (M C : NetlistView) (number : ℕ) (to : NetId) (gate : CellView) → C ≡ connected number 0 (Net to) M → cell_at M number ≡ Some gate
    → (i : ℕ) (cell : CellView) → cell_at C i ≡ Some cell → SameButFeeds M i cell
operand_back M C number to gate is live i cell there = by (i == number) refl
  where
    by : (b : Bool) → (i == number) ≡ b → SameButFeeds M i cell
    by true e =
        let at : i ≡ number = eqb-true i number e in
        let here : cell_at C number ≡ Some (with_feed 0 (Net to) gate) = ap (λ (L : NetlistView). cell_at L number) is ∙ connected_at M number 0 (Net to) gate live in
        let same : with_feed 0 (Net to) gate ≡ cell = same_cell (with_feed 0 (Net to) gate) cell (sym here ∙ ap (cell_at C) (sym at) ∙ there) in
        record {
          other = gate;
          live = ap (cell_at M) at ∙ live;
          kind = ap (λ (c : CellView). c.kind) same;
          name = ap (λ (c : CellView). c.name) same;
          output = ap (λ (c : CellView). c.output) same;
        }
    by false e =
        let apart : i ≢ number = λ at. absurd (let no : true ≡ false = sym (eq-eqb i number at) ∙ e in cc) in
        record {
          other = cell;
          live = sym (ap (λ (L : NetlistView). cell_at L i) is ∙ connected_other M number 0 i (Net to) apart) ∙ there;
          kind = refl;
          name = refl;
          output = refl;
        }

-- The whole.

pub status_named : AppendedIsNamed → AppendedGrows → RegistersAreNamed → StatusIsNamed
status_named appended grows cells table old middle new shared bypass bits number rs laid named added o is =
    let N : NetlistView = old.lists in
    let part : List CellView = added_cells N shared bypass bits rs in
    let to : NetId = shown_at N bypass bits rs in
    let plain = cells (length N.nets) (cell_count N) shared.opcode.0 bits shared bypass rs in
    let there : IsWellNamed table middle.lists = appended table old middle (bits + registers_size rs) part laid named added plain in
    let live : cell_at middle.lists number ≡ Some o.gate = (grows old middle (bits + registers_size rs) part added).cells number o.gate o.live in
    other_feeds table new middle.lists (ap (λ (L : NetlistView). L.library) is) (ap (λ (L : NetlistView). L.ports) is) (ap (λ (L : NetlistView). L.nets) is)
    (operand_back middle.lists new number to o.gate is live) there
