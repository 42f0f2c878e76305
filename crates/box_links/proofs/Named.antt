-- The gates and ports of a linked netlist, and those of the netlist that its tree denotes.
use Rattle.std.proofs.Common.{◌≡◌, ℕ, zero, suc, ◌==◌, ◌&&◌, ◌||◌, Bool, true, false, List, [], ◌∷◌, drop, take, refl, ap, sym, ◌∙◌, Option, Some, None}
use Rattle.std.specs.Prelude.{slice_get, unwrap_or}
use Rattle.std.specs.List.{list_any}
use Rattle.std.specs.Option.{option_map_or}
use Rattle.list_laws.specs.Lists.{AreAll}
use Rattle.list_laws.specs.Options.{or_else, first_in}
use Rattle.list_laws.proofs.Lists.{any_at, slice_get_there}
use Rattle.cell_library.specs.Gates.{is_three_state}
use Rattle.netlist_model.specs.declared.Dir.{Dir}
use Rattle.netlist_model.specs.declared.NetId.{NetId}
use Rattle.netlist_model.specs.declared.Range.{Range}
use Rattle.netlist_model.specs.Lists.{CellView, NetlistView, PortView, cell_at, live_cell}
use Rattle.link_model.specs.Cells.{NamedCell}
use Rattle.link_model.specs.Denoted.{AreCells, IsCell, IsLive, IsPort, NamedPort}
use Rattle.link_model.specs.Faults.{drives, is_driven_by_bufif}
use Rattle.box_links.specs.ThreeState.{has_gate, is_gate_on, named_port}

-- Gates.

-- an element that passes
pub record Passes {X : Type 0} (p : X → Bool) (xs : List X) : Type 0 where
  pub place : ℕ
  pub one : X
  pub at : slice_get xs place ≡ Some one
  pub is : p one ≡ true

pub passes : {X : Type 0} (p : X → Bool) (xs : List X) → list_any p xs ≡ true → Passes p xs
passes p [] some = absurd (cc)
passes p (x ∷ xs) some = by (p x) refl some (passes p xs)
  where
    by : (b : Bool) → p x ≡ b → (b || list_any p xs) ≡ true → (list_any p xs ≡ true → Passes p xs) → Passes p (x ∷ xs)
    by true e more back = record { place = 0; one = x; at = refl; is = e }
    by false e more back = let rest = back more in record { place = suc rest.place; one = rest.one; at = rest.at; is = rest.is }

-- the test of a named cell
abbrev is_named_gate : ℕ → NamedCell → Bool
is_named_gate net c = drives net c && is_three_state c.kind

same_gate : (table : List (List ℕ)) (net : ℕ) (cell : CellView) (named : NamedCell) → IsCell table cell named → is_gate_on net (Some cell) ≡ is_named_gate net named
same_gate table net cell named is =
    ap (λ (o : Option NetId). option_map_or (λ (n : NetId). n.0 == net) o false && is_three_state cell.kind) is.output
    ∙ ap (λ k. option_map_or (λ (n : NetId). n.0 == net) named.output false && is_three_state k) is.kind

-- a cell that is a gate on the net
pub record IsGateAt (N : NetlistView) (net : ℕ) : Type 0 where
  pub number : ℕ
  pub cell : CellView
  pub live : cell_at N number ≡ Some cell
  pub gate : is_gate_on net (Some cell) ≡ true

pub gate_at : (N : NetlistView) (net : ℕ) → has_gate N.cells net ≡ true → IsGateAt N net
gate_at N net some = by found.one found.at found.is
  where
    found : Passes (is_gate_on net) N.cells
    found = passes (is_gate_on net) N.cells some

    by : (place : Option CellView) → slice_get N.cells found.place ≡ Some place → is_gate_on net place ≡ true → IsGateAt N net
    by None at is = absurd (cc)
    by (Some cell) at is = record { number = found.place; cell = cell; live = ap live_cell at; gate = is }

pub gate_there : (N : NetlistView) (net number : ℕ) (cell : CellView) → cell_at N number ≡ Some cell → is_gate_on net (Some cell) ≡ true → has_gate N.cells net ≡ true
gate_there N net number cell live gate = by (slice_get N.cells number) refl
  where
    by : (o : Option (Option CellView)) → slice_get N.cells number ≡ o → has_gate N.cells net ≡ true
    by None e = absurd (let no : None ≡ Some cell = sym (ap live_cell e) ∙ live in cc)
    by (Some place) e =
        let same : place ≡ Some cell = sym (ap live_cell e) ∙ live in
        any_at (is_gate_on net) N.cells number place e (ap (is_gate_on net) same ∙ gate)

named_there : (table : List (List ℕ)) (N : NetlistView) (cells : List NamedCell) (net : ℕ) → AreCells table N cells → has_gate N.cells net ≡ true → is_driven_by_bufif cells net ≡ true
named_there table N cells net all some =
    let g = gate_at N net some in
    let less = all.only g.number (rw g.live refl) in
    let n = slice_get_there cells g.number less in
    let is : IsLive table (Some g.cell) n.0 = rw g.live at (all.each g.number n.0 n.1) in
    any_at (is_named_gate net) cells g.number n.0 n.1 (sym (same_gate table net g.cell n.0 is) ∙ g.gate)

live_there : (table : List (List ℕ)) (N : NetlistView) (cells : List NamedCell) (net : ℕ) → AreCells table N cells → is_driven_by_bufif cells net ≡ true → has_gate N.cells net ≡ true
live_there table N cells net all some = by (cell_at N found.place) refl (all.each found.place found.one found.at)
  where
    found : Passes (is_named_gate net) cells
    found = passes (is_named_gate net) cells some

    by : (o : Option CellView) → cell_at N found.place ≡ o → IsLive table o found.one → has_gate N.cells net ≡ true
    by None e is = absurd is
    by (Some cell) e is = gate_there N net found.place cell e (same_gate table net cell found.one is ∙ found.is)

pub gates_named : (table : List (List ℕ)) (N : NetlistView) (cells : List NamedCell) → AreCells table N cells → (net : ℕ) → has_gate N.cells net ≡ is_driven_by_bufif cells net
gates_named table N cells all net = by (has_gate N.cells net) refl (is_driven_by_bufif cells net) refl
  where
    by : (a : Bool) → has_gate N.cells net ≡ a → (b : Bool) → is_driven_by_bufif cells net ≡ b → has_gate N.cells net ≡ is_driven_by_bufif cells net
    by true e true f = e ∙ sym f
    by false e false f = e ∙ sym f
    by true e false f = absurd (let no : true ≡ false = sym (named_there table N cells net all e) ∙ f in cc)
    by false e true f = absurd (let no : true ≡ false = sym (live_there table N cells net all f) ∙ e in cc)

-- Ports.

pub named_same : (table : List (List ℕ)) (port : PortView) (named : NamedPort) → IsPort table port named → named_port table port ≡ named
named_same table port named is =
    ap (λ (o : Option (List ℕ)). record { name = unwrap_or o []; dir = port.dir; range = port.range; nets = port.nets }) is.name
    ∙ ap (λ (x : Dir). record { name = named.name; dir = x; range = port.range; nets = port.nets }) is.dir
    ∙ ap (λ (x : Option Range). record { name = named.name; dir = named.dir; range = x; nets = port.nets }) is.range
    ∙ ap (λ (x : List NetId). record { name = named.name; dir = named.dir; range = named.range; nets = x }) is.nets

pub all_dropped : {X Y : Type 0} (Is : X → Y → Type 0) (xs : List X) (ys : List Y) (n : ℕ) → AreAll Is xs ys → AreAll Is (drop n xs) (drop n ys)
all_dropped Is xs ys zero all = all
all_dropped Is [] [] (suc n) all = all
all_dropped Is [] (y ∷ ys) (suc n) all = absurd all
all_dropped Is (x ∷ xs) [] (suc n) all = absurd all
all_dropped Is (x ∷ xs) (y ∷ ys) (suc n) all = all_dropped Is xs ys n all.1

pub all_taken : {X Y : Type 0} (Is : X → Y → Type 0) (xs : List X) (ys : List Y) (n : ℕ) → AreAll Is xs ys → AreAll Is (take n xs) (take n ys)
all_taken Is xs ys zero all = tt
all_taken Is [] [] (suc n) all = all
all_taken Is [] (y ∷ ys) (suc n) all = absurd all
all_taken Is (x ∷ xs) [] (suc n) all = absurd all
all_taken Is (x ∷ xs) (y ∷ ys) (suc n) all = (all.0, all_taken Is xs ys n all.1)

pub first_named : {X Y Z : Type 0} (Is : X → Y → Type 0) (f : X → Option Z) (g : Y → Option Z) → ((x : X) (y : Y) → Is x y → f x ≡ g y) → (xs : List X) (ys : List Y) → AreAll Is xs ys
    → first_in f xs ≡ first_in g ys
first_named Is f g same [] [] all = refl
first_named Is f g same [] (y ∷ ys) all = absurd all
first_named Is f g same (x ∷ xs) [] all = absurd all
first_named Is f g same (x ∷ xs) (y ∷ ys) all = ap (λ o. or_else o (first_in f xs)) (same x y all.0) ∙ ap (λ o. or_else (g y) o) (first_named Is f g same xs ys all.1)
