-- The cells of the netlist with the test logic built in: those of the core, and named ones.
use Rattle.std.proofs.Common.{◌≡◌, ℕ, ◌<◌, ◌≤◌, ◌⊎◌, List, ◌++◌, map, length, refl, sym, ◌∙◌, ap, subst, inl, inr, Option, Some, None, arith}
use Rattle.std.specs.Prelude.{IsSome}
use Rattle.std.specs.Option.{option_map}
use Rattle.std.proofs.lemmas.Bool.{cases_lt}
use Rattle.std.proofs.lemmas.Option.{same_Some}
use Rattle.list_laws.proofs.Options.{some_there}
use Rattle.netlist_model.specs.declared.NetId.{NetId}
use Rattle.netlist_model.specs.Lists.{CellView, NetlistView, cell_at, cell_count}
use Rattle.netlist_model.specs.Contained.{IsDense}
use Rattle.netlist_model.specs.Nested.{renamed_net}
use Rattle.netlist_link.specs.DraftLawsNames.{IsNamedCell}
use Rattle.netlist_link.specs.Sources.{PartIsNamed}
use Rattle.core_sides.specs.plan_fitting.declared.fitted.Fitted.{Fitted}
use Rattle.core_sides.specs.stitched_netlist.declared.model.TapNames.{TapNames}
use Rattle.core_sides.specs.stitched_netlist.Sides.{core_side, core_cell}
use Rattle.core_sides.specs.stitched_netlist.Stitched.{live_cells, boundary_at, first_net, tap_port, test_logic_cells, stitched}
use Rattle.core_sides.specs.stitched_netlist.Places.{StitchedHoldsTheCore}
use Rattle.core_sides.proofs.stitched_netlist.PlacesLaws.{listed_at}
use Rattle.core_sides.proofs.stitched_netlist.CellsLaws.{core_length}
use Rattle.written_netlists.proofs.Table.{at_append}
use Rattle.written_netlists.proofs.Added.{logic_named}
use Rattle.written_netlists.proofs.Extended.{IsKeptCell}

still_some : (to : NetId → NetId) (o : Option NetId) → IsSome o → IsSome (option_map to o)
still_some to None some = absurd (cc)
still_some to (Some net) some = refl

-- a cell of the core stands under its number
core_kept : StitchedHoldsTheCore → (N : NetlistView) (names : TapNames) (f : Fitted) → IsDense N → (i : ℕ) (cell : CellView) → i < cell_count N
    → cell_at (stitched N names f) i ≡ Some cell → IsKeptCell N i cell
core_kept law N names f dense i cell low at =
    let was = some_there (cell_at N i) (dense i low) in
    let same : core_cell (boundary_at N f) was.0 ≡ cell = same_Some (core_cell (boundary_at N f) was.0) cell (sym ((law N names f dense).stands i was.0 was.1) ∙ at) in
    record {
      was = was.0;
      live = was.1;
      kind = ap (λ (c : CellView). c.kind) (sym same);
      name = ap (λ (c : CellView). c.name) (sym same);
      output = λ some. subst (λ (c : CellView). IsSome c.output) same (still_some (renamed_net (core_side (boundary_at N f))) was.0.output some);
    }

-- behind them stand those of the test logic
later_named : PartIsNamed → (N : NetlistView) (names : TapNames) (f : Fitted) (i : ℕ) (cell : CellView) → cell_count N ≤ i
    → cell_at (stitched N names f) i ≡ Some cell → IsNamedCell cell
later_named law N names f i cell past at =
    let core : List CellView = map (core_cell (boundary_at N f)) (live_cells N) in
    let logic : List CellView = test_logic_cells (boundary_at N f) (first_net N f) (cell_count N) (tap_port (length N.nets)) f in
    let many = core_length N f in
    elim (at_append core logic i cell (sym (listed_at (core ++ logic) i) ∙ at)) [
      | inl before ↦ absurd (omega (arith, before.0, many, past))
      | inr after ↦ (logic_named law (boundary_at N f) (first_net N f) (cell_count N) (tap_port (length N.nets)) f).each after.0 cell after.2
    ]

pub cells_either : StitchedHoldsTheCore → PartIsNamed → (N : NetlistView) (names : TapNames) (f : Fitted) → IsDense N → (i : ℕ) (cell : CellView)
    → cell_at (stitched N names f) i ≡ Some cell → IsKeptCell N i cell ⊎ IsNamedCell cell
cells_either core law N names f dense i cell at = elim (cases_lt i (cell_count N)) [
  | inl low ↦ inl (core_kept core N names f dense i cell low at)
  | inr past ↦ inr (later_named law N names f i cell past at)
]
