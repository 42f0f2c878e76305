-- The cells of the flat netlist in a settled valuation.
use Rattle.std.proofs.Common.{◌≡◌, ℕ, zero, suc, Bool, true, false, cond, List, [], ◌∷◌, map, Option, Some, None, MatchOption, slice_get, refl, sym, ap, ◌∙◌, eq-eqb}
use borrow.Author.Tests.{eqb-true}
use Rattle.std.specs.Bool.{⊤}
use Rattle.signal_values.specs.declared.Sig.{Sig}
use Rattle.signal_values.specs.declared.PinSig.{PinSig}
use Rattle.cell_library.specs.declared.listed.ListedCell.{ListedCell}
use Rattle.netlist_model.specs.declared.Dir.{Dir}
use Rattle.netlist_model.specs.declared.Dir.TheVariants.{Input, Output, Inout}
use Rattle.netlist_model.specs.declared.NetId.{NetId}
use Rattle.netlist_model.specs.Lists.{CellView, NetlistView, cell_at, live_cell, direction, Drives}
use Rattle.netlist_model.specs.Settled.{feed_values, cell_value, follows_pin, is_output, is_driver, driver_of, drive_by, cell_drive, pin_value, IsSettled}
use Rattle.netlist_model.specs.Formed.{IsWellFormed}
use Rattle.signal_values.specs.Values.{see, join}
use Rattle.link_model.specs.Nets.{Declared, declared_names}
use Rattle.link_model.specs.Cells.{NamedCell, cell_of}
use Rattle.link_model.specs.Denoted.{IsCell, IsLive}
use Rattle.hier_model.specs.Entries.{Entry, entry_item, entries}
use Rattle.hier_model.specs.Flat.{flat}
use Rattle.hier_laws.specs.Solves.{given_value}
use Rattle.hier_laws.specs.SolutionsLaws.{FlatMeets, SettledCellsMeet}

-- the cell that drives a net, where no other does
pub driver_is : (places : List (Option CellView)) (i : ℕ) (cell : CellView) (net : ℕ) → live_cell (slice_get places i) ≡ Some cell → cell.output ≡ Some (record { 0 = net })
    → ((j : ℕ) (other : CellView) → live_cell (slice_get places j) ≡ Some other → other.output ≡ Some (record { 0 = net }) → other ≡ cell) → driver_of places net ≡ Some cell
driver_is [] i cell net live drives one = absurd (cc)
driver_is (place ∷ places) zero cell net live drives one =
    let is : is_driver place net ≡ true = ap (λ (q : Option CellView). is_driver q net) live ∙ ap (λ (o : Option NetId). is_output o net) drives ∙ eq-eqb net net refl in
    ap (λ (b : Bool). cond b place (driver_of places net)) is ∙ live
driver_is (place ∷ places) (suc i) cell net live drives one = go place (is_driver place net) refl (λ j other l. one (suc j) other l) (λ other l. one zero other l) (driver_is places i cell net live drives)
  where
    output_of : (o : Option NetId) → is_output o net ≡ true → o ≡ Some (record { 0 = net })
    output_of None h = absurd (cc)
    output_of (Some n) h = ap (λ (k : ℕ). let m : Option NetId = Some (record { 0 = k }) in m) (eqb-true n.0 net h)

    go : (q : Option CellView) (b : Bool) → is_driver q net ≡ b → ((j : ℕ) (other : CellView) → live_cell (slice_get places j) ≡ Some other → other.output ≡ Some (record { 0 = net }) → other ≡ cell) → ((other : CellView) → q ≡ Some other → other.output ≡ Some (record { 0 = net }) → other ≡ cell)
        → (((j : ℕ) (other : CellView) → live_cell (slice_get places j) ≡ Some other → other.output ≡ Some (record { 0 = net }) → other ≡ cell) → driver_of places net ≡ Some cell) → cond b q (driver_of places net) ≡ Some cell
    go None true is others first later = absurd (cc)
    go (Some c) true is others first later = ap (λ (z : CellView). Some z) (first c refl (output_of c.output is))
    go q false is others first later = later others

pub item_at : (library : List ListedCell) (names : List (List ℕ × Declared)) (es : List Entry) (k : ℕ) (e : Entry) → slice_get es k ≡ Some e → slice_get (map (cell_of library names) (map entry_item es)) k ≡ Some (cell_of library names (entry_item e))
item_at library names [] k e there = absurd (cc)
item_at library names (x ∷ es) zero e there = let is : x ≡ e = cc in rw is refl
item_at library names (x ∷ es) (suc k) e there = item_at library names es k e there

cell_meets : (table : List (List ℕ)) (N : NetlistView) (pins : ℕ → PinSig) (state v : ℕ → Sig) (k : ℕ) (cell : CellView) (own : NamedCell) → IsWellFormed N → IsSettled N pins state v → cell_at N k ≡ Some cell → IsCell table cell own → FlatMeets N.library (λ n. direction N.ports n) pins v (state k) own
cell_meets table N pins state v k cell own formed settled live is = go own.output refl
  where
    value_is : cell_value N.library cell.kind (feed_values v cell.feeds) (state k) ≡ cell_value N.library own.kind (feed_values v own.feeds) (state k)
    value_is = rw (is.kind, is.feeds) refl

    drive_is : (n : NetId) → cell_drive cell.kind (feed_values v cell.feeds) (v n.0) ≡ cell_drive own.kind (feed_values v own.feeds) (v n.0)
    drive_is n = rw (is.kind, is.feeds) refl

    by : (n : NetId) → Drives N k cell n.0 → (d : Option Dir) → direction N.ports n.0 ≡ d → v n.0 ≡ given_value N.library d own.kind (feed_values v own.feeds) (state k) (v n.0) (pins n.0)
    by n drives None dir = settled.cells k cell n.0 drives (ap follows_pin dir) ∙ value_is
    by n drives (Some Input) dir = absurd (formed.inputs_free k cell n.0 drives dir)
    by n drives (Some Output) dir = settled.cells k cell n.0 drives (ap follows_pin dir) ∙ value_is
    by n drives (Some Inout) dir =
        let only : (j : ℕ) (other : CellView) → cell_at N j ≡ Some other → other.output ≡ Some (record { 0 = n.0 }) → other ≡ cell = λ j other l o.
        let same : j ≡ k = formed.one_driver j k other cell n.0 (record { live = l; output = o }) drives in
        let both : ◌≡◌ {A = Option CellView} (Some other) (Some cell) = sym l ∙ ap (λ (z : ℕ). cell_at N z) same ∙ live in
        cc in
        settled.pins n.0 (ap follows_pin dir)
        ∙ ap (λ (d : Option Dir). pin_value d (drive_by (driver_of N.cells n.0) v n.0) (pins n.0)) dir
        ∙ ap (λ (o : Option CellView). pin_value (Some Inout) (drive_by o v n.0) (pins n.0)) (driver_is N.cells k cell n.0 live drives.output only)
        ∙ ap (λ (p : PinSig). see (join p (pins n.0))) (drive_is n)

    go : (o : Option NetId) → own.output ≡ o → MatchOption o ⊤ (λ (n : NetId). v n.0 ≡ given_value N.library (direction N.ports n.0) own.kind (feed_values v own.feeds) (state k) (v n.0) (pins n.0))
    go None e = tt
    go (Some n) e = by n (record { live = live; output = is.output ∙ e }) (direction N.ports n.0) refl

pub settled_cells_meet : SettledCellsMeet
settled_cells_meet modules top table N pins state v named formed settled k e there =
    let names = declared_names (flat modules top) in
    go (cell_at N k) refl (named.cells.each k (cell_of N.library names (entry_item e)) (item_at N.library names (entries modules top) k e there))
  where
    go : (o : Option CellView) → cell_at N k ≡ o → IsLive table o (cell_of N.library (declared_names (flat modules top)) (entry_item e)) → FlatMeets N.library (λ n. direction N.ports n) pins v (state k) (cell_of N.library (declared_names (flat modules top)) (entry_item e))
    go None l is = absurd is
    go (Some cell) l is = cell_meets table N pins state v k cell (cell_of N.library (declared_names (flat modules top)) (entry_item e)) formed settled l is
