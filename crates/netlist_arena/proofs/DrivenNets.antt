-- The driver of a net that drives another.
use Rattle.std.proofs.Common.{◌≡◌, ◌≢◌, inl, inr, ℕ, suc, zero, List, [], ◌∷◌, map, refl, sym, ◌∙◌, arith, ap, Option, Some, None, option_map, set, subst, eq-eqb}
use Rattle.std.specs.List.{slice_get}
use Rattle.std.proofs.lemmas.Bool.{cases_eq, ne_eqb}
use Rattle.std.proofs.lemmas.List.{map-set}
use Rattle.std.proofs.lemmas.Option.{slice_get-map}
use Rattle.linked_cells.specs.netlist_model.declared.NetId.{NetId}
use Rattle.linked_cells.specs.netlist_model.declared.CellId.{CellId}
use Rattle.linked_cells.specs.netlist_model.declared.Reader.{Reader}
use Rattle.linked_cells.specs.netlist_model.Lists.{CellView, NetlistView, live_cell, IsUndriven}
use Rattle.netlist_arena.specs.Arena.{DrivesIn}
use Rattle.netlist_arena.specs.Moves.{moved_output, with_moved_output}
use Rattle.linked_cells.specs.PlacesLaws.{there_at, place_at}
use Rattle.linked_cells.specs.Views.{CellSlots}
use Rattle.linked_cells.specs.Cells.{cell_view, cells_of, slot_at}
use Rattle.linked_cells.proofs.Writes.{place_set_same, place_set_other}
use Rattle.netlist_arena.specs.Drivers.{AreDrivers, with_output}
use Rattle.netlist_arena.proofs.Single.{moved_back}
use Rattle.netlist_arena.proofs.NetDrivers.{drivers_single}

there_is : {X : Type 0} (o : Option (Option X)) (x : X) → there_at o ≡ Some x → o ≡ Some (Some x)
there_is None x e = absurd (cc)
there_is {X = X} (Some place) x e = ap (λ (p : Option X). Some p) e

pub driven_slots : (items : List (Option CellSlots)) (number : ℕ) (cell : CellSlots) (net : NetId) (r : Reader) → place_at items number ≡ Some cell
    → slot_at (set items number (Some (record cell { output = Some net }))) r ≡ slot_at items r
unfolding slot_at
driven_slots items number cell net r at =
    let new : CellSlots = record cell { output = Some net } in
    elim (cases_eq r.cell.0 number) [
      | inl same ↦ (let here : place_at (set items number (Some new)) r.cell.0 ≡ Some new = rw same (place_set_same items number cell new at) in
          let before : place_at items r.cell.0 ≡ Some cell = rw same at in rw (here, before) refl)
      | inr other ↦ (let stays = place_set_other items number r.cell.0 (Some new) other in rw stays refl)
    ]

pub driven_cells : (items : List (Option CellSlots)) (number : ℕ) (cell : CellSlots) (net : NetId) → place_at items number ≡ Some cell
    → cells_of (set items number (Some (record cell { output = Some net }))) ≡ set (cells_of items) number (option_map (with_output (Some net)) (live_cell (slice_get (cells_of items) number)))
driven_cells items number cell net at =
    let there = there_is (slice_get items number) cell at in
    let place : slice_get (cells_of items) number ≡ Some (Some (cell_view cell)) = slice_get-map (option_map cell_view) items number ∙ (rw there refl) in
    rw place (map-set (option_map cell_view) items number (Some (record cell { output = Some net })))

abbrev on_net : ℕ → Option NetId
on_net n = Some (record { 0 = n })

-- the one driver of a net moves
pub driver_moves : (cells : List (Option CellView)) (from to : NetId) (number : ℕ) → DrivesIn cells number from.0 → ((i : ℕ) → DrivesIn cells i from.0 → i ≡ number)
    → set cells number (option_map (with_output (Some to)) (live_cell (slice_get cells number))) ≡ map (option_map (with_moved_output from to)) cells
driver_moves [] from to number drives one = let none = drives.live in absurd (cc)
driver_moves (None ∷ cells) from to zero drives one = let none = drives.live in absurd (cc)
driver_moves (Some cell ∷ cells) from to zero drives one =
    let is : cell ≡ drives.cell = let live = drives.live in cc in
    let output : cell.output ≡ Some from = ap (λ (c : CellView). c.output) is ∙ drives.output in
    let test = eq-eqb from.0 from.0 refl in
    let head : with_output (Some to) cell ≡ with_moved_output from to cell = rw (output, test) refl in
    let rest = stays cells (λ i d. let same = one (suc i) (record { cell = d.cell; live = d.live; output = d.output }) in absurd (omega arith)) in
    rw (head, rest) refl
  where
    other_output : (o : Option NetId) → o ≢ Some from → moved_output from to o ≡ o
    other_output None differ = refl
    other_output (Some net) differ =
        let test = ne_eqb net.0 from.0 (λ e. differ (let wrap : ℕ → Option NetId = λ n. Some (record { 0 = n }) in ap wrap e)) in rw test refl

    stays : (cells : List (Option CellView)) → ((i : ℕ) → DrivesIn cells i from.0 → ⊥) → map (option_map (with_moved_output from to)) cells ≡ cells
    stays [] never = refl
    stays (None ∷ cells) never = ap (λ (l : List (Option CellView)). None ∷ l) (stays cells (λ i d. never (suc i) (record { cell = d.cell; live = d.live; output = d.output })))
    stays (Some c ∷ cells) never =
        let same = other_output c.output (λ e. never 0 (record { cell = c; live = refl; output = e })) in
        let rest = stays cells (λ i d. never (suc i) (record { cell = d.cell; live = d.live; output = d.output })) in
        rw (same, rest) refl
driver_moves (c ∷ cells) from to (suc number) drives one =
    let rest = driver_moves cells from to number (record { cell = drives.cell; live = drives.live; output = drives.output })
    (λ i d. let same = one (suc i) (record { cell = d.cell; live = d.live; output = d.output }) in omega arith) in
    let head = first c (λ cell is on. let same = one 0 (record { cell = cell; live = is; output = on }) in absurd (omega arith)) in
    rw (head, rest) refl
  where
    first : (c : Option CellView) → ((cell : CellView) → c ≡ Some cell → cell.output ≡ Some from → ⊥) → option_map (with_moved_output from to) c ≡ c
    first None never = refl
    first (Some cell) never = go cell.output refl
      where
        go : (o : Option NetId) → cell.output ≡ o → option_map (with_moved_output from to) (Some cell) ≡ Some cell
        go None e = rw e refl
        go (Some net) e =
            let test = ne_eqb net.0 from.0 (λ same. never cell refl (e ∙ (let wrap : ℕ → Option NetId = λ n. Some (record { 0 = n }) in ap wrap same))) in rw (e, test) refl

-- a driver that stays, or moves
moved_forth : (f : CellView → CellView) (cells : List (Option CellView)) (i : ℕ) (cell : CellView) → live_cell (slice_get cells i) ≡ Some cell → live_cell (slice_get (map (option_map f) cells) i) ≡ Some (f cell)
moved_forth f [] i cell at = absurd (cc)
moved_forth f (None ∷ cells) zero cell at = absurd (cc)
moved_forth f (Some c ∷ cells) zero cell at = let is : c ≡ cell = cc in ap (λ (x : CellView). Some (f x)) is
moved_forth f (p ∷ cells) (suc i) cell at = moved_forth f cells i cell at

-- the drivers where that of one net drives another
pub drivers_moved : (N : NetlistView) (d d' : ℕ → Option CellId) (from to : NetId) (id : CellId) → AreDrivers d N.cells → d from.0 ≡ Some id → IsUndriven N to.0 → from.0 ≢ to.0 → d' from.0 ≡ None → d' to.0 ≡ Some id
    → ((n : ℕ) → n ≢ from.0 → n ≢ to.0 → d' n ≡ d n) → AreDrivers d' (map (option_map (with_moved_output from to)) N.cells)
drivers_moved N d d' from to id are at free differ none some others = record {
  named = λ net found e. elim (cases_eq net to.0) [
    | inl is_to ↦ (let before = are.named from.0 id at in
        let now : d' to.0 ≡ Some found = subst (λ (n : ℕ). d' n ≡ Some found) is_to e in
        let same : id ≡ found = let both : Some id ≡ Some found = sym some ∙ now in cc in
        let live = moved_forth (with_moved_output from to) N.cells id.0 before.cell before.live in
        let number : id.0 ≡ found.0 = ap (λ (x : CellId). x.0) same in
        record {
          cell = with_moved_output from to before.cell;
          live = subst (λ (k : ℕ). live_cell (slice_get (map (option_map (with_moved_output from to)) N.cells) k) ≡ Some (with_moved_output from to before.cell)) number live;
          output = moves before.cell.output before.output ∙ ap on_net (sym is_to);
        })
    | inr not_to ↦ elim (cases_eq net from.0) [
      | inl is_from ↦ (let gone : d' net ≡ None = subst (λ (n : ℕ). d' n ≡ None) (sym is_from) none in absurd (cc))
      | inr not_from ↦ (let before = are.named net found (sym (others net not_from not_to) ∙ e) in
          let live = moved_forth (with_moved_output from to) N.cells found.0 before.cell before.live in
          record { cell = with_moved_output from to before.cell; live = live; output = stays before.cell.output net before.output not_from })
    ]
  ];
  each = λ i net drives. elim (moved_back from to N.cells i net drives) [
    | inl moved ↦ (let one = (drivers_single d N.cells are).one i id.0 from.0 moved.0 (are.named from.0 id at) in
        let wrap : ℕ → Option CellId = λ n. Some (record { 0 = n }) in
        let net_is = moved.1 in
        subst (λ (n : ℕ). d' n ≡ Some (record { 0 = i })) net_is (some ∙ ap wrap (sym one)))
    | inr stayed ↦ (let known = are.each i net stayed in
        others net (λ is_from. from_moved i net is_from stayed drives) (λ is_to. free i stayed.cell stayed.live (stayed.output ∙ ap on_net is_to)) ∙ known)
  ];
}
  where
    moves : (o : Option NetId) → o ≡ on_net from.0 → moved_output from to o ≡ on_net to.0
    moves None e = absurd (cc)
    moves (Some net) e =
        let same : net.0 ≡ from.0 = ap (λ (x : Option NetId). elim x [ None ↦ 0 | Some n ↦ n.0 ]) e in
        let test = eq-eqb net.0 from.0 same in rw test refl

    stays : (o : Option NetId) (net : ℕ) → o ≡ on_net net → net ≢ from.0 → moved_output from to o ≡ on_net net
    stays None net e differs = absurd (cc)
    stays (Some out) net e differs =
        let same : out.0 ≡ net = ap (λ (x : Option NetId). elim x [ None ↦ 0 | Some n ↦ n.0 ]) e in
        let test = ne_eqb out.0 from.0 (λ f. differs (sym same ∙ f)) in rw test e

    from_moved : (i net : ℕ) → net ≡ from.0 → DrivesIn N.cells i net → DrivesIn (map (option_map (with_moved_output from to)) N.cells) i net → ⊥
    from_moved i net is_from before after =
        let live = moved_forth (with_moved_output from to) N.cells i before.cell before.live in
        let live_after = after.live in
        let same : with_moved_output from to before.cell ≡ after.cell = cc in
        let moved = moves before.cell.output (before.output ∙ ap on_net is_from) in
        let both : on_net to.0 ≡ on_net net = sym moved ∙ ap (λ (c : CellView). c.output) same ∙ after.output in
        differ (sym is_from ∙ sym (ap (λ (x : Option NetId). elim x [ None ↦ 0 | Some n ↦ n.0 ]) both))
