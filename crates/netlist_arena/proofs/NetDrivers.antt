-- The drivers that nets hold, whatever is added, moved or removed.
use Rattle.std.proofs.Common.{◌≡◌, ◌≢◌, ◌⊎◌, inl, inr, ℕ, suc, zero, ◌<◌, List, [], ◌∷◌, length, map, refl, sym, ◌∙◌, ap, Option, Some, None, option_map, set, subst}
use Rattle.std.specs.List.{slice_get}
use Rattle.std.proofs.lemmas.Bool.{cases_eq}
use Rattle.std.proofs.lemmas.Option.{slice_get-map}
use Rattle.linked_cells.proofs.list_laws.Lists.{slice_get-set_other}
use Rattle.linked_cells.specs.netlist_model.declared.NetId.{NetId}
use Rattle.linked_cells.specs.netlist_model.declared.CellId.{CellId}
use Rattle.linked_cells.specs.netlist_model.declared.Feed.{Feed}
use Rattle.linked_cells.specs.netlist_model.Lists.{CellView, NetlistView, live_cell, cell_at}
use Rattle.netlist_arena.specs.Arena.{DrivesIn, HasSingleDrivers}
use Rattle.netlist_arena.specs.Adds.{CanDrive, AddsCell}
use Rattle.netlist_arena.proofs.Single.{removed_back}
use Rattle.linked_cells.specs.Cells.{with_slot_feed, with_moved_feeds, slot_at, first_at, driver_at}
use Rattle.linked_cells.specs.Links.{Threaded}
use Rattle.netlist_arena.specs.Drivers.{AreDrivers, DriverAdded, DriverDropped}

abbrev pub outputs_of : List (Option CellView) → List (Option (Option NetId))
outputs_of cells = map (option_map (λ (c : CellView). c.output)) cells

pub drivers_single : (driver : ℕ → Option CellId) (cells : List (Option CellView)) → AreDrivers driver cells → HasSingleDrivers cells
drivers_single driver cells are = record {
  one = λ i j net a b. let at_i = are.each i net a in let at_j = are.each j net b in
      let same : Some (id_of i) ≡ Some (id_of j) = sym at_i ∙ at_j in number_same i j same;
}
  where
    id_of : ℕ → CellId
    id_of n = record { 0 = n }

    number_same : (i j : ℕ) → Some (id_of i) ≡ Some (id_of j) → i ≡ j
    number_same i j same = ap (λ (o : Option CellId). elim o [ None ↦ 0 | Some id ↦ id.0 ]) same

drives_still : (old new : List (Option CellView)) (i net : ℕ) → outputs_of new ≡ outputs_of old → DrivesIn new i net → DrivesIn old i net
drives_still old new i net same drives =
    let at_old = slice_get-map (option_map (λ (c : CellView). c.output)) old i in
    let at_new = slice_get-map (option_map (λ (c : CellView). c.output)) new i in
    let there = ap (λ (l : List (Option (Option NetId))). slice_get l i) same in
    go (slice_get old i) (slice_get new i) refl drives.live (sym at_new ∙ there ∙ at_old)
  where
    go : (a b : Option (Option CellView)) → slice_get old i ≡ a → live_cell b ≡ Some drives.cell
        → option_map (option_map (λ (c : CellView). c.output)) b ≡ option_map (option_map (λ (c : CellView). c.output)) a → DrivesIn old i net
    go a None e live same = absurd (cc)
    go a (Some None) e live same = absurd (cc)
    go None (Some (Some y)) e live same = absurd (cc)
    go (Some None) (Some (Some y)) e live same = absurd (cc)
    go (Some (Some x)) (Some (Some y)) e live same =
        let is : y ≡ drives.cell = cc in
        let output : y.output ≡ x.output = cc in
        record { cell = x; live = rw e refl; output = sym output ∙ ap (λ (c : CellView). c.output) is ∙ drives.output }

pub drivers_same : (d d' : ℕ → Option CellId) (old new : List (Option CellView)) → ((n : ℕ) → d' n ≡ d n) → outputs_of new ≡ outputs_of old → AreDrivers d old → AreDrivers d' new
drivers_same d d' old new same outputs are = record {
  named = λ net id e. drives_still new old id.0 net (sym outputs) (are.named net id (sym (same net) ∙ e));
  each = λ i net drives. same net ∙ are.each i net (drives_still old new i net outputs drives);
}

pub outputs_connected : (number place : ℕ) (feed : Feed) (cells : List (Option CellView)) → outputs_of (with_slot_feed number place feed cells) ≡ outputs_of cells
outputs_connected number place feed [] = refl
outputs_connected zero place feed (None ∷ cells) = refl
outputs_connected zero place feed (Some c ∷ cells) = refl
outputs_connected (suc number) place feed (c ∷ cells) = ap (λ (l : List (Option (Option NetId))). option_map (λ (x : CellView). x.output) c ∷ l) (outputs_connected number place feed cells)

pub outputs_moved : (from to : NetId) (cells : List (Option CellView)) → outputs_of (map (option_map (with_moved_feeds from to)) cells) ≡ outputs_of cells
outputs_moved from to [] = refl
outputs_moved from to (None ∷ cells) = ap (λ (l : List (Option (Option NetId))). None ∷ l) (outputs_moved from to cells)
outputs_moved from to (Some c ∷ cells) = ap (λ (l : List (Option (Option NetId))). Some c.output ∷ l) (outputs_moved from to cells)

-- the drivers where a cell was added
abbrev id_at : ℕ → CellId
id_at n = record { 0 = n }

pub drivers_added : (old new : NetlistView) (d d' : ℕ → Option CellId) (number : ℕ) (cell : CellView) → AddsCell old new number cell → CanDrive old cell.output → DriverAdded d d' cell.output number
    → AreDrivers d old.cells → AreDrivers d' new.cells
drivers_added old new d d' number cell adds can added are = by_output cell.output refl
  where
    net_is : ℕ → NetId
    net_is n = record { 0 = n }

    still : (i net : ℕ) → DrivesIn old.cells i net → DrivesIn new.cells i net
    still i net drives = elim (cases_eq i number) [
      | inl same ↦ (let fresh = adds.fresh in let live : cell_at old number ≡ Some drives.cell = rw same at drives.live in absurd (cc))
      | inr other ↦ record { cell = drives.cell; live = adds.others i other ∙ drives.live; output = drives.output }
    ]

    by_output : (output : Option NetId) → cell.output ≡ output → AreDrivers d' new.cells
    by_output None none = record {
      named = λ net id e. still id.0 net (are.named net id (sym (added.others net (λ m at. absurd (cc))) ∙ e));
      each = λ i net drives. elim (cases_eq i number) [
        | inl same ↦ (let there = adds.added in let live : cell_at new number ≡ Some drives.cell = rw same at drives.live in
            let is : cell ≡ drives.cell = cc in
            let output = ap (λ (c : CellView). c.output) is ∙ drives.output in absurd (cc))
        | inr other ↦ added.others net (λ m at. absurd (cc)) ∙ are.each i net (record { cell = drives.cell; live = sym (adds.others i other) ∙ drives.live; output = drives.output })
      ];
    }
    by_output (Some out) is_out = record {
      named = λ net id e. elim (cases_eq net out.0) [
        | inl same ↦ (let there = adds.added in
            let now : d' out.0 ≡ Some (record { 0 = number }) = added.here out is_out in
            let e' : d' out.0 ≡ Some id = rw same at e in
            let id_is : id.0 ≡ number = ap (λ (o : Option CellId). elim o [ None ↦ 0 | Some x ↦ x.0 ]) (sym e' ∙ now) in
            let wrap : ℕ → Option NetId = λ n. Some (record { 0 = n }) in
            record { cell = cell; live = rw id_is there; output = is_out ∙ ap wrap (sym same) })
        | inr other ↦ still id.0 net (are.named net id (sym (added.others net (λ m at. differs net m other at)) ∙ e))
      ];
      each = λ i net drives. elim (cases_eq i number) [
        | inl same ↦ (let there = adds.added in let live : cell_at new number ≡ Some drives.cell = rw same at drives.live in
            let is : cell ≡ drives.cell = cc in
            let output : Some out ≡ Some (net_is net) = sym is_out ∙ ap (λ (c : CellView). c.output) is ∙ drives.output in
            let net_same : out.0 ≡ net = ap (λ (o : Option NetId). elim o [ None ↦ 0 | Some x ↦ x.0 ]) output in
            let wrap : ℕ → Option CellId = λ n. Some (record { 0 = n }) in
            rw (← net_same) (added.here out is_out ∙ ap wrap (sym same)))
        | inr other ↦ (let before : DrivesIn old.cells i net = record { cell = drives.cell; live = sym (adds.others i other) ∙ drives.live; output = drives.output } in
            added.others net (λ m at. λ e. undriven m at i (rw e at before)) ∙ are.each i net before)
      ];
    }
      where
        differs : (net : ℕ) (m : NetId) → net ≢ out.0 → cell.output ≡ Some m → net ≢ m.0
        differs net m other at e = let same : out ≡ m = cc in other (e ∙ ap (λ (x : NetId). x.0) (sym same))

        undriven : (m : NetId) → cell.output ≡ Some m → (i : ℕ) → DrivesIn old.cells i m.0 → ⊥
        undriven m at i drives = let free : CanDrive old (Some m) = rw at at can in free.1.undriven i drives.cell drives.live drives.output

-- the drivers where a cell was removed
pub drivers_removed : (cells : List (Option CellView)) (d d' : ℕ → Option CellId) (number : ℕ) (cell : CellView) → number < length cells → live_cell (slice_get cells number) ≡ Some cell
    → DriverDropped d d' cell.output → AreDrivers d cells → AreDrivers d' (set cells number None)
drivers_removed cells d d' number cell below live dropped are = record {
  named = λ net id e. elim (is_output cell.output net) [
    | inl out ↦ (let gone : d' net ≡ None = dropped.here (record { 0 = net }) out in absurd (cc))
    | inr other ↦ (let before = are.named net id (sym (dropped.others net other) ∙ e) in
        elim (cases_eq id.0 number) [
          | inl same ↦ (let at : live_cell (slice_get cells number) ≡ Some before.cell = subst (λ (k : ℕ). live_cell (slice_get cells k) ≡ Some before.cell) same before.live in
              let is : cell ≡ before.cell = cc in
              absurd (other (record { 0 = net }) (ap (λ (c : CellView). c.output) is ∙ before.output) refl))
          | inr differ ↦ record { cell = before.cell; live = ap live_cell (slice_get-set_other cells number id.0 None differ) ∙ before.live; output = before.output }
        ])
  ];
  each = λ i net drives.
      let back = removed_back cells number i net below drives in
      let at = are.each i net back.1 in
      dropped.others net (λ m out e. back.0 (single i m.0 net (sym e) out back.1)) ∙ at;
}
  where
    is_output : (o : Option NetId) (net : ℕ) → (o ≡ Some (record { 0 = net })) ⊎ ((m : NetId) → o ≡ Some m → net ≢ m.0)
    is_output None net = inr (λ m e. absurd (cc))
    is_output (Some out) net = elim (cases_eq out.0 net) [
      | inl same ↦ (let wrap : ℕ → Option NetId = λ n. Some (record { 0 = n }) in inl (ap wrap same))
      | inr differ ↦ inr (λ m e. λ same. let is : out ≡ m = cc in differ (ap (λ (x : NetId). x.0) is ∙ sym same))
    ]

    single : (i m net : ℕ) → m ≡ net → cell.output ≡ Some (record { 0 = m }) → DrivesIn cells i net → i ≡ number
    single i m net same out drives =
        let wrap : ℕ → Option NetId = λ n. Some (record { 0 = n }) in
        (drivers_single d cells are).one i number net drives (record { cell = cell; live = live; output = out ∙ ap wrap same })

-- where there is nothing
pub empty_drivers : AreDrivers (driver_at []) []
unfolding driver_at
empty_drivers = record { named = λ net id e. absurd (cc); each = λ i net drives. let live = drives.live in absurd (cc) }

pub empty_threaded : Threaded (slot_at []) (first_at [])
unfolding slot_at first_at
empty_threaded = record { walk = λ n. []; threads = record { starts = λ n. refl; linked = λ n. tt; each = λ r n slot at on. absurd (cc) } }
