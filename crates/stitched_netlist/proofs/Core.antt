-- The core inside the netlist with the test logic: its nets by their other numbers.
use Rattle.std.proofs.Common.{◌≡◌, ℕ, ◌+◌, ◌<◌, ◌≤◌, ◌⊎◌, inl, inr, true, false, List, [], ◌∷◌, length, refl, sym, ◌∙◌, ap, Option, Some, None, arith}
use Rattle.std.specs.Prelude.{option_and_then}
use Rattle.std.proofs.lemmas.Bool.{eqb-true}
use Rattle.list_laws.proofs.Tests.{true_or_false}
use Rattle.netlist_model.specs.declared.NetId.{NetId}
use Rattle.netlist_model.specs.Lists.{PortView, CellView, NetlistView, cell_at}
use Rattle.netlist_model.specs.Settled.{is_output}
use Rattle.netlist_model.specs.Nested.{renamed_cell}
use Rattle.plan_fitting.specs.declared.fitted.FitRow.{FitRow}
use Rattle.plan_fitting.specs.declared.fitted.Fitted.{Fitted}
use Rattle.stitched_netlist.specs.Sites.{Boundary, row_net, row_sides}
use Rattle.stitched_netlist.specs.Sides.{moves, side_from, core_side, feeds_behind, core_cell}
use Rattle.stitched_netlist.specs.Stitched.{boundary_at, stitched}
use Rattle.stitched_netlist.proofs.ModelMoves.{moves_some, moved_here, moved_on, side_stays}
use Rattle.stitched_netlist.specs.Places.{IsInside, StitchedHoldsTheCore}
use Rattle.stitched_netlist.proofs.PlacesLaws.{core_stands}

-- and moves one net only
same_output : (net : Option NetId) (a b : ℕ) → is_output net a ≡ true → is_output net b ≡ true → a ≡ b
same_output None a b e f = absurd (cc)
same_output (Some net) a b e f = sym (eqb-true net.0 a e) ∙ eqb-true net.0 b f

-- a net stays, or goes to one between
pub side_past : (ports : List PortView) (net side : ℕ) (rows : List FitRow) → (side_from ports net side rows ≡ net) ⊎ (side ≤ side_from ports net side rows)
side_past ports net side [] = inl refl
side_past ports net side (row ∷ rows) = elim (true_or_false (moves ports net row)) [
  | inl e ↦ (let here = moved_here ports net side row rows e in inr (omega arith))
  | inr e ↦ (let on = moved_on ports net side row rows e in elim (side_past ports net (side + row_sides ports row) rows) [
    | inl stays ↦ inl (on ∙ stays)
    | inr past ↦ inr (omega arith)
  ])
]

-- a net that a row moves is apart from every other
apart : (ports : List PortView) (a b side : ℕ) (row : FitRow) (rows : List FitRow) → b < side → moves ports a row ≡ true → moves ports b row ≡ false
    → side_from ports a side (row ∷ rows) ≡ side_from ports b side (row ∷ rows) → a ≡ b
apart ports a b side row rows low e f same =
    let here = moved_here ports a side row rows e in
    let on = moved_on ports b side row rows f in
    let some : 0 < row_sides ports row = (moves_some ports a row e).0 in
    elim (side_past ports b (side + row_sides ports row) rows) [
      | inl stays ↦ absurd (omega arith)
      | inr past ↦ absurd (omega arith)
    ]

side_once : (ports : List PortView) (a b side : ℕ) (rows : List FitRow) → a < side → b < side → side_from ports a side rows ≡ side_from ports b side rows → a ≡ b
side_once ports a b side [] low low' same = same
side_once ports a b side (row ∷ rows) low low' same = elim (true_or_false (moves ports a row)) [
  | inl e ↦ elim (true_or_false (moves ports b row)) [
    | inl f ↦ same_output (row_net ports row) a b (moves_some ports a row e).1 (moves_some ports b row f).1
    | inr f ↦ apart ports a b side row rows low' e f same
  ]
  | inr e ↦ elim (true_or_false (moves ports b row)) [
    | inl f ↦ sym (apart ports b a side row rows low f e (sym same))
    | inr f ↦ side_once ports a b (side + row_sides ports row) rows (omega arith) (omega arith)
        (sym (moved_on ports a side row rows e) ∙ same ∙ moved_on ports b side row rows f)
  ]
]

by_other_nets : (B : Boundary) (cell : CellView) → option_and_then (feeds_behind B) cell.output ≡ None → core_cell B cell ≡ renamed_cell (core_side B) cell.name cell
by_other_nets B cell none = rw none refl

below_first : (N : NetlistView) (f : Fitted) (net : ℕ) → net < length N.nets → net < (boundary_at N f).first
below_first N f net low = let first : (boundary_at N f).first ≡ length N.nets + 5 = refl in omega arith

pub is_inside : (M N : NetlistView) (f : Fitted) → ((i : ℕ) (cell : CellView) → cell_at N i ≡ Some cell → cell_at M i ≡ Some (core_cell (boundary_at N f) cell)) → IsInside M N f
is_inside M N f stands = record {
  stands = stands;
  nested = λ i cell e none. record {
    name = cell.name;
    live = stands i cell e ∙ ap (λ (c : CellView). Some c) (by_other_nets (boundary_at N f) cell none);
  };
  once = λ a b low low' same. side_once N.ports a b (boundary_at N f).first f.rows (below_first N f a low) (below_first N f b low') same;
  stays = λ net none. side_stays N.ports net (boundary_at N f).first f.rows none;
}

pub holds_the_core : StitchedHoldsTheCore
holds_the_core N names f dense = is_inside (stitched N names f) N f (λ i cell e. core_stands N names f dense i cell e)
