-- Two link views of one tree are the same, and each is well named.
use Rattle.std.proofs.Common.{◌≡◌, subst, ℕ, List, [], ◌∷◌, length, refl, ap, sym, ◌∙◌, Option, Some, None}
use Rattle.list_laws.proofs.Options.{or_else-parts}
use Rattle.cell_library.specs.declared.listed.ListedCell.{ListedCell}
use Rattle.verilog_tree.specs.declared.tree.Module.{Module}
use Rattle.netlist_model.specs.declared.Name.{Name}
use Rattle.netlist_model.specs.Lists.{PortView, NetView, CellView, NetlistView, cell_at}
use Rattle.link_names.specs.link_model.Nets.{NamedNet, declared_nets, nets_in}
use Rattle.link_names.specs.link_model.Cells.{NamedCell}
use Rattle.link_names.specs.link_model.Denoted.{AreAll, AreCells, IsCell, IsLive, IsName, IsNamed, IsNet, IsPort, NamedPort, denoted}
use Rattle.link_names.specs.link_model.Faults.{cells_in, driver_fault, names_of, text_fault}
use Rattle.link_names.specs.link_model.Late.{IsLinkable}
use Rattle.link_names.specs.Laws.{ClearTextFits}
use Rattle.link_arena.specs.link_rules.DriversLaws.{HaveTheirDrivers}
use Rattle.link_arena.specs.link_rules.Cones.{ControlsAreLinks}
use Rattle.link_arena.specs.cell_order.Loops.{LooplessHasOrder}
use Rattle.link_arena.specs.NameTableNames.{IsOnce}
use Rattle.link_arena.proofs.Parts.{are_below}
use Rattle.netlist_link.specs.Linked.{LinkedView}
use Rattle.netlist_link.specs.Links.{IsLinkOf}
use Rattle.netlist_link.specs.ViewLaws.{LinkViewsAgree, LinkViewIsFormed, LinkViewIsNamed}
use Rattle.link_arena.proofs.link_rules.ClocksCells.{kept, named_at}
use Rattle.netlist_link.proofs.Formed.{driven_once, well_formed}
use Rattle.netlist_link.proofs.Orders.{loop_named}
use Rattle.netlist_link.proofs.Named.{same_name, well_named}
use Rattle.netlist_link.proofs.NamesOnce.{names_once}

same_all : {X Y : Type 0} (Is : X → Y → Type 0) → ((a b : X) (y : Y) → Is a y → Is b y → a ≡ b) → (xs zs : List X) (ys : List Y) → AreAll Is xs ys → AreAll Is zs ys → xs ≡ zs
same_all Is one [] [] ys f g = refl
same_all Is one [] (z ∷ zs) [] f g = absurd g
same_all Is one [] (z ∷ zs) (y ∷ ys) f g = absurd f
same_all Is one (x ∷ xs) [] [] f g = absurd f
same_all Is one (x ∷ xs) [] (y ∷ ys) f g = absurd g
same_all Is one (x ∷ xs) (z ∷ zs) [] f g = absurd f
same_all Is one (x ∷ xs) (z ∷ zs) (y ∷ ys) f g = ap (λ w. w ∷ xs) (one x z y f.0 g.0) ∙ ap (λ ws. z ∷ ws) (same_all Is one xs zs ys f.1 g.1)

same_port : (table : List (List ℕ)) → IsOnce table → (a b : PortView) (named : NamedPort) → IsPort table a named → IsPort table b named → a ≡ b
same_port table once a b named f g =
    let name : a.name ≡ b.name = same_name table a.name b.name named.name once f.name g.name in
    ap (λ x. record { name = x; dir = a.dir; range = a.range; nets = a.nets }) name ∙ ap (λ x. record { name = b.name; dir = x; range = a.range; nets = a.nets }) (f.dir ∙ sym g.dir)
    ∙ ap (λ x. record { name = b.name; dir = b.dir; range = x; nets = a.nets }) (f.range ∙ sym g.range)
    ∙ ap (λ x. record { name = b.name; dir = b.dir; range = b.range; nets = x }) (f.nets ∙ sym g.nets)

same_net : (table : List (List ℕ)) → IsOnce table → (a b : NetView) (named : NamedNet) → IsNet table a named → IsNet table b named → a ≡ b
same_net table once a b named f g =
    let name : a.name ≡ b.name = same_name table a.name b.name named.name once f.name g.name in
    ap (λ x. record { name = x; index = a.index }) name ∙ ap (λ x. record { name = b.name; index = x }) (f.index ∙ sym g.index)

same_cell_name : (table : List (List ℕ)) → IsOnce table → (one other : Option Name) (named : Option (List ℕ)) → IsName table one named → IsName table other named → one ≡ other
same_cell_name table once None None named f g = refl
same_cell_name table once None (Some n) None f g = absurd g
same_cell_name table once None (Some n) (Some bytes) f g = absurd f
same_cell_name table once (Some n) None None f g = absurd f
same_cell_name table once (Some n) None (Some bytes) f g = absurd g
same_cell_name table once (Some n) (Some k) None f g = absurd f
same_cell_name table once (Some n) (Some k) (Some bytes) f g = ap (λ (x : Name). Some x) (same_name table n k bytes once f g)

same_cell : (table : List (List ℕ)) → IsOnce table → (a b : CellView) (named : NamedCell) → IsCell table a named → IsCell table b named → a ≡ b
same_cell table once a b named f g =
    let name : a.name ≡ b.name = same_cell_name table once a.name b.name named.name f.name g.name in
    ap (λ x. record { kind = x; name = a.name; feeds = a.feeds; output = a.output }) (f.kind ∙ sym g.kind)
    ∙ ap (λ x. record { kind = b.kind; name = x; feeds = a.feeds; output = a.output }) name
    ∙ ap (λ x. record { kind = b.kind; name = b.name; feeds = x; output = a.output }) (f.feeds ∙ sym g.feeds)
    ∙ ap (λ x. record { kind = b.kind; name = b.name; feeds = b.feeds; output = x }) (f.output ∙ sym g.output)

same_cells : (table : List (List ℕ)) → IsOnce table → (N M : NetlistView) (cells : List NamedCell) → AreCells table N cells → AreCells table M cells → (i : ℕ) → cell_at N i ≡ cell_at M i
same_cells table once N M cells f g i = by (cell_at N i) (cell_at M i) refl refl
  where
    by : (o p : Option CellView) → cell_at N i ≡ o → cell_at M i ≡ p → o ≡ p
    by None None e h = refl
    by None (Some b) e h = absurd (let n = named_at table M cells i b g h in let no : IsLive table None n.named = rw e at (f.each i n.named n.there) in no)
    by (Some a) None e h = absurd (let n = named_at table N cells i a f e in let no : IsLive table None n.named = rw h at (g.each i n.named n.there) in no)
    by (Some a) (Some b) e h =
        let n = named_at table N cells i a f e in
        let is : IsLive table (Some b) n.named = rw h at (g.each i n.named n.there) in
        ap (λ (c : CellView). Some c) (same_cell table once a b n.named n.is is)

pub clear_text : (library : List ListedCell) (m : Module) → IsLinkable library m → text_fault library m ≡ None
clear_text library m linkable = (or_else-parts (text_fault library m) _ linkable.early).0

-- the netlist of a link view, by the names of the text
by_text : (m : Module) (linked : LinkedView) → IsLinkOf m linked → IsNamed (names_of m) linked.arena.lists (denoted linked.arena.lists.library m)
by_text m linked link = let P : List (List ℕ) → Type 0 = λ table. IsNamed table linked.arena.lists (denoted linked.arena.lists.library m) in subst P link.names link.denoted

pub link_views_agree : LinkViewsAgree
link_views_agree m one other same f g =
    let library : List ListedCell = one.arena.lists.library in
    let once : IsOnce (names_of m) = names_once library m (clear_text library m f.linkable) in
    let here : IsNamed (names_of m) one.arena.lists (denoted library m) = by_text m one f in
    let there : IsNamed (names_of m) other.arena.lists (denoted library m) = subst (λ (l : List ListedCell). IsNamed (names_of m) other.arena.lists (denoted l m)) (sym same) (by_text m other g) in
    record {
      title = f.title ∙ sym g.title;
      names = f.names ∙ sym g.names;
      library = same;
      ports = same_all (IsPort (names_of m)) (same_port (names_of m) once) one.arena.lists.ports other.arena.lists.ports (denoted library m).ports here.ports there.ports;
      nets = same_all (IsNet (names_of m)) (same_net (names_of m) once) one.arena.lists.nets other.arena.lists.nets (denoted library m).nets here.nets there.nets;
      cells = same_cells (names_of m) once one.arena.lists other.arena.lists (denoted library m).cells here.cells there.cells;
    }

pub link_view_is_named : LinkViewIsNamed
link_view_is_named m linked tree is link =
    let clear = clear_text linked.arena.lists.library m link.linkable in
    let P : List (List ℕ) → Type 0 = λ table. IsOnce table in
    well_named linked.names linked.arena.lists m tree clear
    (record { is = link.denoted; library = is; names = link.names; once = subst P (sym link.names) (names_once linked.arena.lists.library m clear) })

pub link_view_is_formed : ClearTextFits → HaveTheirDrivers → LooplessHasOrder → ControlsAreLinks → LinkViewIsFormed
link_view_is_formed fit drive order control m linked tree listed link =
    let library : List ListedCell = linked.arena.lists.library in
    let nets : List NamedNet = nets_in (declared_nets m) in
    let cells : List NamedCell = cells_in library m in
    let faults = or_else-parts (text_fault library m) (driver_fault nets cells) link.linkable.early in
    let fits = fit library m tree faults.0 in
    let below = are_below library (length nets) cells fits in
    let driven = drive nets cells below faults.1 in
    let N : NetlistView = linked.arena.lists in
    let ordered = order N (driven_once linked.names N m link.denoted driven) (λ numbers l. link.linkable.loops numbers (loop_named linked.names N cells numbers link.denoted.cells (kept N m) l)) in
    well_formed linked.names linked.arena.lists m ordered.0 link.denoted fits driven ordered.1 (control library m listed link.linkable.derived)
