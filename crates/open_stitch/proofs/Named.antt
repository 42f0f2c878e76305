-- The netlist with the buffer is well named.
use Rattle.std.proofs.Common.{◌≡◌, ◌≢◌, ℕ, ◌==◌, ◌⊎◌, Bool, true, false, List, [], ◌∷◌, length, Option, Some, refl, ap, sym, ◌∙◌, subst, eqb-true, eq-eqb}
use Rattle.std.specs.Prelude.{IsSome}
use Rattle.cell_library.specs.declared.listed.ListedCell.{ListedCell}
use Rattle.cell_library.specs.Library.{cell_name}
use Rattle.cell_library.specs.declared.Kind.{Kind}
use Rattle.netlist_model.specs.declared.NetId.{NetId}
use Rattle.netlist_model.specs.declared.Name.{Name}
use Rattle.netlist_model.specs.declared.Name.TheVariants.{Original}
use Rattle.netlist_model.specs.declared.Feed.TheVariants.{Net}
use Rattle.netlist_model.specs.Lists.{PortView, NetView, CellView, NetlistView, cell_at, cell_count}
use Rattle.netlist_arena.specs.Arena.{ArenaView}
use Rattle.gate_parts.specs.Parts.{part_cells}
use Rattle.netlist_link.specs.WellNamed.{IsWellNamed, IsWireNet, IsWireName}
use Rattle.netlist_link.specs.DraftLawsNames.{AppendedIsNamed}
use Rattle.netlist_link.specs.Sources.{PartIsNamed}
use Rattle.plan_fitting.specs.declared.fitted.Fitted.{Fitted}
use Rattle.stitched_netlist.specs.declared.model.TapNames.{TapNames}
use Rattle.stitched_netlist.specs.ModelLogic.{bypass_at}
use Rattle.stitched_netlist.specs.Stitched.{first_net, stitched}
use Rattle.scan_stitch.specs.written_netlists.Same.{SameIsNamed}
use Rattle.open_stitch.proofs.Connected.{choice_at}
use Rattle.open_stitch.specs.declared.TheConstants.{THROUGH}
use Rattle.open_stitch.proofs.Places.{Steps, choice_there, other_at, shown_at}

-- A cell that differs in its operands alone.

record SameButFeeds (N : NetlistView) (i : ℕ) (cell : CellView) : Type 0 where
  other : CellView
  live : cell_at N i ≡ Some other
  kind : other.kind ≡ cell.kind
  name : other.name ≡ cell.name
  output : other.output ≡ cell.output

-- so a netlist with the same library, ports and nets is well named as the other is
other_feeds : (table : List (List ℕ)) (M N : NetlistView) → M.library ≡ N.library → M.ports ≡ N.ports → M.nets ≡ N.nets
    → ((i : ℕ) (cell : CellView) → cell_at M i ≡ Some cell → SameButFeeds N i cell) → IsWellNamed table N → IsWellNamed table M
other_feeds table M N library ports nets back named =
    let there : IsWellNamed table (record M { library = N.library; ports = N.ports; nets = N.nets }) = record {
      library = named.library;
      once = named.once;
      spelled = named.spelled;
      net_names = named.net_names;
      cell_names = λ i cell name live is. let b = back i cell live in named.cell_names i b.other name b.live (b.name ∙ is);
      port_names = named.port_names;
      port_ranges = named.port_ranges;
      port_bits = named.port_bits;
      wires = named_wires;
      added = named.added;
      ports_apart = named.ports_apart;
      cells_apart = λ i j number cell other one two a b. let c = back i cell one in let d = back j other two in named.cells_apart i j number c.other d.other c.live d.live (c.name ∙ a) (d.name ∙ b);
      port_or_cell = λ p i port cell at live is. let b = back i cell live in named.port_or_cell p i port b.other at b.live (b.name ∙ is);
      port_or_wire = λ p net port at w. named.port_or_wire p net port at (record { view = w.view; there = w.there; outside = w.outside; named = w.named });
      cell_or_wire = λ i net number cell live is w. let b = back i cell live in named.cell_or_wire i net number b.other b.live (b.name ∙ is)
          (record { view = w.view; there = w.there; outside = w.outside; named = w.named });
      library_named = λ i cell live some. let b = back i cell live in
          subst (λ (x : Option Name). IsSome x) b.name (named.library_named i b.other b.live (subst (λ (k : Kind). IsSome (cell_name N.library k)) (sym b.kind) some));
      assign_unnamed = λ i cell live is. let b = back i cell live in sym b.name ∙ named.assign_unnamed i b.other b.live (b.kind ∙ is);
      connected = λ i cell live none. let b = back i cell live in subst (λ (x : Option NetId). IsSome x) b.output (named.connected i b.other b.live (ap (cell_name N.library) b.kind ∙ none));
    } in
    carried M N.library N.ports N.nets (sym library) (sym ports) (sym nets) there
  where
    named_wires : (net number : ℕ) → IsWireNet (record M { library = N.library; ports = N.ports; nets = N.nets }) net (Original number)
        → IsWireName (record M { library = N.library; ports = N.ports; nets = N.nets }) number
    named_wires net number w =
        let n = named.wires net number (record { view = w.view; there = w.there; outside = w.outside; named = w.named }) in
        record {
          first = n.first;
          range = n.range;
          wire = record {
            bits = n.wire.bits;
            outside = n.wire.outside;
            only = λ other o. n.wire.only other (record { view = o.view; there = o.there; outside = o.outside; named = o.named });
            short = n.wire.short;
          };
        }

    carried : (K : NetlistView) (l : List ListedCell) (ps : List PortView) (ns : List NetView) → l ≡ K.library → ps ≡ K.ports → ns ≡ K.nets
        → IsWellNamed table (record K { library = l; ports = ps; nets = ns }) → IsWellNamed table K
    carried K l ps ns a b c h =
        subst (λ (x : List NetView). IsWellNamed table (record K { nets = x })) c
        (subst (λ (x : List PortView). IsWellNamed table (record K { ports = x; nets = ns })) b
        (subst (λ (x : List ListedCell). IsWellNamed table (record K { library = x; ports = ps; nets = ns })) a h))

-- The steps.

pub opened_named : SameIsNamed → AppendedIsNamed → PartIsNamed → (N : NetlistView) (names : TapNames) (f : Fitted) (A B : ArenaView) (C : NetlistView) (gate : ℕ) → Steps N names f A B C gate
    → (table : List (List ℕ)) → IsWellNamed table (stitched N names f) → IsWellNamed table C
opened_named same appended part N names f A B C gate s table named =
    let named_a = same table A.lists (stitched N names f) s.same named in
    let plain = part THROUGH (Net (bypass_at (first_net N f) f) ∷ []) (length A.lists.nets) (cell_count A.lists) refl in
    let named_b = appended table A B 1 (part_cells THROUGH (Net (bypass_at (first_net N f) f) ∷ []) (length A.lists.nets) (cell_count A.lists)) s.laid named_a s.added plain in
    other_feeds table C B.lists (ap (λ (L : NetlistView). L.library) s.is) (ap (λ (L : NetlistView). L.ports) s.is) (ap (λ (L : NetlistView). L.nets) s.is) back named_b
  where
    back : (i : ℕ) (cell : CellView) → cell_at C i ≡ Some cell → SameButFeeds B.lists i cell
    back i cell live = by (i == gate) refl
      where
        inside : (a b : CellView) → ◌≡◌ {A = Option CellView} (Some a) (Some b) → a ≡ b
        inside a b e = cc

        by : (b : Bool) → (i == gate) ≡ b → SameButFeeds B.lists i cell
        by true is =
            let at : i ≡ gate = eqb-true i gate is in
            let same_one = inside _ cell (sym (shown_at N names f A B C gate s) ∙ ap (cell_at C) (sym at) ∙ live) in
            record {
              other = choice_at N f;
              live = ap (cell_at B.lists) at ∙ choice_there N names f A B C gate s;
              kind = ap (λ (c : CellView). c.kind) same_one;
              name = ap (λ (c : CellView). c.name) same_one;
              output = ap (λ (c : CellView). c.output) same_one;
            }
        by false is = record {
          other = cell;
          live = sym (other_at N names f A B C gate s i (λ e. absurd (let no : true ≡ false = sym (eq-eqb i gate e) ∙ is in cc))) ∙ live;
          kind = refl;
          name = refl;
          output = refl;
        }
