-- The cells of a netlist and the named cells that they are.
use Rattle.std.proofs.Common.{◌≡◌, ℕ, ◌<◌, zero, suc, false, List, [], ◌∷◌, map, length, refl, subst, Option, Some, None, ap, sym, ◌∙◌}
use Rattle.std.specs.Prelude.{slice_get}
use Rattle.list_laws.proofs.Lists.{slice_get_there}
use Rattle.std.proofs.lemmas.Option.{same_Some}
use Rattle.verilog_tree.specs.declared.tree.Module.{Module}
use Rattle.verilog_tree.specs.declared.tree.Item.{Item}
use Rattle.verilog_tree.specs.declared.tree.Item.TheVariants as item
use Rattle.verilog_tree.specs.declared.tree.GateKind.{GateKind}
use Rattle.verilog_tree.specs.declared.tree.GateKind.TheVariants as gate
use Rattle.cell_library.specs.declared.listed.ListedCell.{ListedCell}
use Rattle.cell_library.specs.Gates.{is_flop}
use Rattle.link_model.specs.Nets.{Declared, declared_names}
use Rattle.link_model.specs.Faults.{cells_in}
use Rattle.netlist_model.specs.Lists.{CellView, NetlistView, cell_at, Drives, Reads}
use Rattle.link_model.specs.Cells.{NamedCell, cell_of, kind_of_gate}
use Rattle.link_model.specs.Denoted.{AreCells, IsLive, IsCell}
use Rattle.link_rules.specs.DriversLaws.{DrivesNet, ReadsNet}

-- whether a named cell keeps a value is said by its kind
abbrev pub Keeps : NetlistView → List NamedCell → Type 0
Keeps N cells = (i : ℕ) (cell : NamedCell) → slice_get cells i ≡ Some cell → cell.keeps ≡ is_flop N.library cell.kind

gate_keeps : (library : List ListedCell) (g : GateKind) → false ≡ is_flop library (kind_of_gate g)
gate_keeps library gate.And = refl
gate_keeps library gate.Or = refl
gate_keeps library gate.Nand = refl
gate_keeps library gate.Nor = refl
gate_keeps library gate.Xor = refl
gate_keeps library gate.Xnor = refl
gate_keeps library gate.Buf = refl
gate_keeps library gate.Not = refl
gate_keeps library gate.Bufif0 = refl
gate_keeps library gate.Bufif1 = refl

item_keeps : (library : List ListedCell) (names : List (List ℕ × Declared)) (x : Item) → (cell_of library names x).keeps ≡ is_flop library (cell_of library names x).kind
item_keeps library names (item.Gate g) = gate_keeps library g.kind
item_keeps library names (item.Instance i) = refl
item_keeps library names (item.Assign output input) = refl

items_keep : (library : List ListedCell) (names : List (List ℕ × Declared)) (items : List Item) (i : ℕ) (cell : NamedCell) → slice_get (map (cell_of library names) items) i ≡ Some cell → cell.keeps ≡ is_flop library cell.kind
items_keep library names [] i cell at = absurd (cc)
items_keep library names (x ∷ items) zero cell at =
    let same : cell_of library names x ≡ cell = same_Some (cell_of library names x) cell at in
    subst (λ (c : NamedCell). c.keeps ≡ is_flop library c.kind) same (item_keeps library names x)
items_keep library names (x ∷ items) (suc i) cell at = items_keep library names items i cell at

pub kept : (N : NetlistView) (m : Module) → Keeps N (cells_in N.library m)
kept N m = items_keep N.library (declared_names m) m.items

-- the named cell of a live cell
pub record NamedAt (table : List (List ℕ)) (cells : List NamedCell) (i : ℕ) (cell : CellView) : Type 0 where
  pub named : NamedCell
  pub there : slice_get cells i ≡ Some named
  pub is : IsCell table cell named

-- the live cell of a named cell
pub record LiveAt (table : List (List ℕ)) (N : NetlistView) (i : ℕ) (named : NamedCell) : Type 0 where
  pub cell : CellView
  pub live : cell_at N i ≡ Some cell
  pub is : IsCell table cell named

pub named_at : (table : List (List ℕ)) (N : NetlistView) (cells : List NamedCell) (i : ℕ) (cell : CellView) → AreCells table N cells → cell_at N i ≡ Some cell
    → NamedAt table cells i cell
named_at table N cells i cell all at =
    let less : i < length cells = all.only i (rw at refl) in
    let there = slice_get_there cells i less in
    let is : IsLive table (Some cell) there.0 = rw at at (all.each i there.0 there.1) in
    record { named = there.0; there = there.1; is = is }

pub live_at : (table : List (List ℕ)) (N : NetlistView) (cells : List NamedCell) (i : ℕ) (named : NamedCell) → AreCells table N cells → slice_get cells i ≡ Some named
    → LiveAt table N i named
live_at table N cells i named all at = found (cell_at N i) refl (all.each i named at)
  where
    found : (o : Option CellView) → cell_at N i ≡ o → IsLive table o named → LiveAt table N i named
    found None e is = absurd is
    found (Some cell) e is = record { cell = cell; live = e; is = is }

-- what a cell drives and reads, its named cell drives and reads
pub drives_named : (table : List (List ℕ)) (N : NetlistView) (cells : List NamedCell) (i : ℕ) (cell : CellView) (net : ℕ) → AreCells table N cells → Drives N i cell net
    → (named : NamedCell) × DrivesNet cells i named net × IsCell table cell named
drives_named table N cells i cell net all d =
    let n = named_at table N cells i cell all d.live in
    (n.named, record { there = n.there; output = sym n.is.output ∙ d.output }, n.is)

pub reads_named : (table : List (List ℕ)) (N : NetlistView) (cells : List NamedCell) (i : ℕ) (cell : CellView) (place net : ℕ) → AreCells table N cells → Reads N i cell place net
    → (named : NamedCell) × ReadsNet cells i named place net × IsCell table cell named
reads_named table N cells i cell place net all r =
    let n = named_at table N cells i cell all r.live in
    (n.named, record { there = n.there; operand = ap (λ feeds. slice_get feeds place) (sym n.is.feeds) ∙ r.operand }, n.is)

pub drives_live : (table : List (List ℕ)) (N : NetlistView) (cells : List NamedCell) (i : ℕ) (named : NamedCell) (net : ℕ) → AreCells table N cells → DrivesNet cells i named net
    → (cell : CellView) × Drives N i cell net × IsCell table cell named
drives_live table N cells i named net all d =
    let l = live_at table N cells i named all d.there in
    (l.cell, record { live = l.live; output = l.is.output ∙ d.output }, l.is)

pub reads_live : (table : List (List ℕ)) (N : NetlistView) (cells : List NamedCell) (i : ℕ) (named : NamedCell) (place net : ℕ) → AreCells table N cells → ReadsNet cells i named place net
    → (cell : CellView) × Reads N i cell place net × IsCell table cell named
reads_live table N cells i named place net all r =
    let l = live_at table N cells i named all r.there in
    (l.cell, record { live = l.live; operand = ap (λ feeds. slice_get feeds place) l.is.feeds ∙ r.operand }, l.is)
