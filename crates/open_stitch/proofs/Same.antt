-- The steps come to the netlist of specs/Open.antt.
use Rattle.std.proofs.Common.{◌≡◌, ◌≢◌, ℕ, zero, suc, ◌+◌, ◌-◌, ◌<◌, ◌≤◌, ◌==◌, ◌⊎◌, inl, inr, List, [], ◌∷◌, ◌++◌, length, Option, Some, refl, ap, sym, ◌∙◌, subst, arith}
use Rattle.std.specs.Prelude.{slice_get}
use Rattle.std.proofs.lemmas.Bool.{cases_lt}
use Rattle.std.proofs.lemmas.Option.{slice_get_within}
use Rattle.list_laws.proofs.Lists.{slice_get-append_left, slice_get-append_right}
use Rattle.netlist_model.specs.declared.NetId.{NetId}
use Rattle.netlist_model.specs.declared.Feed.TheVariants.{Net}
use Rattle.netlist_model.specs.Lists.{NetView, CellView, NetlistView, cell_at, cell_count}
use Rattle.netlist_arena.specs.Arena.{ArenaView}
use Rattle.gate_parts.specs.Parts.{added_nets}
use Rattle.plan_fitting.specs.declared.fitted.Fitted.{Fitted}
use Rattle.stitched_netlist.specs.declared.model.TapNames.{TapNames}
use Rattle.stitched_netlist.specs.ModelLogic.{bypass_at}
use Rattle.stitched_netlist.specs.Stitched.{first_net, stitched_cells_by, stitched_cells, stitched}
use Rattle.stitched_netlist.proofs.PlacesLaws.{listed_at}
use Rattle.scan_stitch.specs.written_netlists.Same.{IsSameNetlist}
use Rattle.open_stitch.specs.Connected.{shows, Connects, ConnectedExtends}
use Rattle.open_stitch.proofs.Connected.{choice_at, choice_stands, opened_length}
use Rattle.open_stitch.specs.Open.{through_net, through_cell, open_cells, stitched_open}
use Rattle.open_stitch.proofs.Places.{Steps, net_number, listed, buffer_at, other_at, shown_at}

-- C has the cells of the stitched netlist, but that TDO's gate reads the buffer's net
connects : (N : NetlistView) (names : TapNames) (f : Fitted) (A B : ArenaView) (C : NetlistView) (gate : ℕ) → Steps N names f A B C gate
    → Connects C N names f (record { 0 = length A.lists.nets }) gate
connects N names f A B C gate s = record {
  library = ap (λ (L : NetlistView). L.library) s.is ∙ s.added.library ∙ s.same.library;
  ports = ap (λ (L : NetlistView). L.ports) s.is ∙ s.added.ports ∙ s.same.ports;
  number = s.gate_is ∙ s.count;
  others = λ k cell apart at. other_at N names f A B C gate s k apart ∙ before k cell at;
  connected = λ cell at.
      let same : ◌≡◌ {A = Option CellView} (Some (choice_at N f)) (Some cell) = sym (choice_stands N f gate (s.gate_is ∙ s.count)) ∙ at in
      shown_at N names f A B C gate s ∙ ap (λ (c : CellView). Some (shows (record { 0 = length A.lists.nets }) c)) (inside (choice_at N f) cell same);
}
  where
    inside : (a b : CellView) → ◌≡◌ {A = Option CellView} (Some a) (Some b) → a ≡ b
    inside a b e = cc

    before : (k : ℕ) (cell : CellView) → slice_get (stitched_cells N f) k ≡ Some cell → cell_at B.lists k ≡ Some cell
    before k cell at =
        let within = slice_get_within (stitched_cells N f) k cell at in
        let count = s.count in
        let low : k < cell_count A.lists = omega (arith, within, count) in
        s.added.kept k low ∙ listed N names f A B C gate s k ∙ at

-- a place of a list, or none behind it
place_at : (xs : List CellView) (k : ℕ) → k < length xs → (cell : CellView) × (slice_get xs k ≡ Some cell)
place_at [] k low = absurd (omega arith)
place_at (x ∷ xs) zero low = (x, refl)
place_at (x ∷ xs) (suc k) low = place_at xs k (omega arith)

pub opened_same : ConnectedExtends → (N : NetlistView) (names : TapNames) (f : Fitted) (A B : ArenaView) (C : NetlistView) (gate : ℕ) → Steps N names f A B C gate
    → IsSameNetlist C (stitched_open N names f)
opened_same extends N names f A B C gate s =
    record {
      library = ap (λ (L : NetlistView). L.library) s.is ∙ s.added.library ∙ s.same.library;
      ports = ap (λ (L : NetlistView). L.ports) s.is ∙ s.added.ports ∙ s.same.ports;
      nets = ap (λ (L : NetlistView). L.nets) s.is ∙ s.added.net_list
          ∙ ap (λ (xs : List NetView). xs ++ added_nets (length A.lists.nets) 1) s.same.nets
          ∙ ap (λ (n : ℕ). (stitched N names f).nets ++ added_nets n 1) (net_number N names f A B C gate s);
      cells = λ k. at k ∙ sym (listed_at (open_cells N f) k);
    }
  where
    shown : NetId
    shown = through_net N f

    cells : List CellView
    cells = stitched_cells_by shown N f

    last : CellView
    last = through_cell N f (Net (bypass_at (first_net N f) f))

    front : (k : ℕ) (cell : CellView) → slice_get cells k ≡ Some cell → cell_at C k ≡ Some cell
    front =
        let P : ℕ → Type 0 = λ n. (k : ℕ) (cell : CellView) → slice_get (stitched_cells_by (record { 0 = n }) N f) k ≡ Some cell → cell_at C k ≡ Some cell in
        subst P (net_number N names f A B C gate s) (extends C N names f (record { 0 = length A.lists.nets }) gate (connects N names f A B C gate s)).cells

    at : (k : ℕ) → cell_at C k ≡ slice_get (open_cells N f) k
    at k = elim (cases_lt k (length cells)) [
      | inl low ↦
          (let here = place_at cells k low in
          front k here.0 here.1 ∙ sym (slice_get-append_left cells (last ∷ []) k low ∙ here.1))
      | inr past ↦
          (let j : ℕ = k - length cells in
          let long : length cells ≡ length (stitched_cells N f) = opened_length N f shown in
          let count = s.count in
          let gate_is = s.gate_is in
          let is : length cells + j ≡ k = omega (arith, past) in
          let is_a : cell_count A.lists + j ≡ k = omega (arith, is, long, count) in
          let apart : k ≢ gate = λ e. absurd (omega (arith, e, is_a, gate_is)) in
          let here : cell_at B.lists k ≡ slice_get (last ∷ []) j = ap (cell_at B.lists) (sym is_a) ∙ buffer_at N names f A B C gate s j in
          other_at N names f A B C gate s k apart ∙ here ∙ sym (slice_get-append_right cells (last ∷ []) k j (sym is)))
    ]
