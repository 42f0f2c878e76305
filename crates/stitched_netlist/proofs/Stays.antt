-- What clocks, clears or presets in the core does so in the netlist with the test logic; and so do TCK and TRST.
use Rattle.std.proofs.Common.{◌≡◌, ◌⊎◌, inl, inr, ℕ, zero, suc, ◌+◌, List, [], ◌∷◌, map, length, refl, sym, ap, ◌∙◌, subst, Option, Some, None, option_map, arith, slice_get}
use Rattle.std.specs.Prelude.{option_and_then, unwrap_or}
use Rattle.cell_library.specs.declared.listed.ListedCell.{ListedCell}
use Rattle.cell_library.specs.Gates.{flop_of, is_flop}
use Rattle.cell_library.specs.declared.Kind.TheVariants.{Flop}
use Rattle.cell_library.specs.declared.FlopKind.{FlopKind}
use Rattle.cell_library.specs.declared.Edge.TheVariants.{Rise}
use Rattle.cell_library.specs.declared.ResetTo.TheVariants.{One}
use Rattle.netlist_model.specs.declared.Name.{Name}
use Rattle.netlist_model.specs.declared.NetId.{NetId}
use Rattle.netlist_model.specs.declared.Feed.{Feed}
use Rattle.netlist_model.specs.declared.Feed.TheVariants.{Net}
use Rattle.netlist_model.specs.Lists.{CellView, NetlistView, cell_at, cell_count}
use Rattle.netlist_model.specs.Cones.{GateReads, InCone, itself, behind, FlopReads, IsControlNet}
use Rattle.netlist_model.specs.Contained.{HasCells}
use Rattle.netlist_model.specs.Nested.{renamed_net, renamed_feed}
use Rattle.test_logic.specs.declared.TapInput.{TapInput}
use Rattle.wrapped_chip.specs.Realises.{tap_place}
use Rattle.wrapped_chip.specs.Legal.{IsClockOrReset}
use Rattle.tap_gates.specs.Controller.{tap_cells}
use Rattle.plan_fitting.specs.declared.fitted.Fitted.{Fitted}
use Rattle.stitched_netlist.specs.Sites.{Boundary}
use Rattle.stitched_netlist.specs.Sides.{core_side, feeds_behind, core_cell}
use Rattle.stitched_netlist.specs.Stitched.{first_net}
use Rattle.stitched_netlist.specs.Places.{HoldsParts}
use Rattle.stitched_netlist.specs.PlacesLaws.{port_of}
use Rattle.stitched_netlist.proofs.Moved.{driven_or_not}
use Rattle.stitched_netlist.proofs.Cones.{IsAtRow, IsCoreInside, no_flop_row, no_control_row}

-- The core.

-- where each cell of the core stands under its number, with the core's library
pub record StandsIn (N M : NetlistView) (B : Boundary) : Type 0 where
  pub library : M.library ≡ N.library
  pub cells : (i : ℕ) (cell : CellView) → cell_at N i ≡ Some cell → cell_at M i ≡ Some (core_cell B cell)

mapped_there : (to : ℕ → ℕ) (feeds : List Feed) (place net : ℕ) → slice_get feeds place ≡ Some (Net (record { 0 = net }))
    → slice_get (map (renamed_feed to) feeds) place ≡ Some (Net (record { 0 = to net }))
mapped_there to [] place net e = absurd (cc)
mapped_there to (feed ∷ feeds) zero net e = ap (option_map (renamed_feed to)) e
mapped_there to (feed ∷ feeds) (suc place) net e = mapped_there to feeds place net e

-- a cell of the core that is no driver of a row reads what it did, behind the boundary cells
reads_there : (B : Boundary) (old : CellView) (place net : ℕ) → (IsAtRow B old → ⊥) → slice_get old.feeds place ≡ Some (Net (record { 0 = net }))
    → slice_get (core_cell B old).feeds place ≡ Some (Net (record { 0 = core_side B net }))
reads_there B old place net none e = by old.output refl
  where
    by : (o : Option NetId) → old.output ≡ o
        → slice_get (unwrap_or (option_and_then (feeds_behind B) o) (map (renamed_feed (core_side B)) old.feeds)) place ≡ Some (Net (record { 0 = core_side B net }))
    by None at = mapped_there (core_side B) old.feeds place net e
    by (Some id) at = elim (driven_or_not B id.0 B.first B.rows) [
      | inl free ↦ rw free (mapped_there (core_side B) old.feeds place net e)
      | inr d ↦ absurd (none (record { net = id.0; output = at; by = d }))
    ]

root_stays : (N M : NetlistView) (B : Boundary) (count : ℕ) → IsCoreInside N B count → StandsIn N M B → (place root : ℕ) → FlopReads N place root → FlopReads M place (core_side B root)
root_stays N M B count in_core stands place root f = record {
  number = f.number;
  cell = core_cell B f.cell;
  kind = f.kind;
  flop = ap (λ (l : List ListedCell). flop_of l f.cell.kind) stands.library ∙ f.flop;
  reads = record {
    live = stands.cells f.number f.cell f.reads.live;
    operand = reads_there B f.cell place root (no_flop_row N B count in_core f.number f.cell f.reads.live f.kind f.flop) f.reads.operand;
  };
}

operand_stays : (N M : NetlistView) (B : Boundary) (count : ℕ) → IsCoreInside N B count → StandsIn N M B → (root : ℕ) → FlopReads N 1 root ⊎ FlopReads N 2 root
    → FlopReads M 1 (core_side B root) ⊎ FlopReads M 2 (core_side B root)
operand_stays N M B count in_core stands root (inl f) = inl (root_stays N M B count in_core stands 1 root f)
operand_stays N M B count in_core stands root (inr f) = inr (root_stays N M B count in_core stands 2 root f)

gate_stays : (N M : NetlistView) (B : Boundary) (count : ℕ) → IsCoreInside N B count → StandsIn N M B → (net other : ℕ) → IsControlNet N net → GateReads N net other
    → GateReads M (core_side B net) (core_side B other)
gate_stays N M B count in_core stands net other c g = record {
  number = g.number;
  cell = core_cell B g.cell;
  place = g.place;
  gate = ap (λ (l : List ListedCell). is_flop l g.cell.kind) stands.library ∙ g.gate;
  drives = record { live = stands.cells g.number g.cell g.drives.live; output = ap (option_map (renamed_net (core_side B))) g.drives.output };
  reads = record {
    live = stands.cells g.number g.cell g.reads.live;
    operand = reads_there B g.cell g.place other (no_control_row N B count in_core g.number net g.cell g.drives c) g.reads.operand;
  };
}

cone_stays : (N M : NetlistView) (B : Boundary) (count : ℕ) → IsCoreInside N B count → StandsIn N M B → (root net : ℕ) → FlopReads N 1 root ⊎ FlopReads N 2 root → InCone N root net
    → InCone M (core_side B root) (core_side B net)
cone_stays N M B count in_core stands root net operand itself = itself
cone_stays N M B count in_core stands root net operand (behind {net = middle} back g) =
    behind (cone_stays N M B count in_core stands root middle operand back)
    (gate_stays N M B count in_core stands middle net (record { root = root; operand = operand; cone = back }) g)

-- what is in the cone of a clock, clear or preset of the core is in one behind the boundary cells
pub control_stays : (N M : NetlistView) (B : Boundary) (count : ℕ) → IsCoreInside N B count → StandsIn N M B → (net : ℕ) → IsControlNet N net → IsControlNet M (core_side B net)
control_stays N M B count in_core stands net c = record {
  root = core_side B c.root;
  operand = operand_stays N M B count in_core stands c.root c.operand;
  cone = cone_stays N M B count in_core stands c.root net c.operand c.cone;
}

-- The test access port: the controller's first flip-flop has TCK for its clock and TRST for its preset.

abbrev preset : FlopKind
preset = record { edge = Rise; reset = One }

-- the flip-flop of Test-Logic-Reset, whose nets these are
abbrev reset_cell : ℕ → Option Name → NetId → NetId → CellView
reset_cell first name tck trst = record {
  kind = Flop preset;
  name = name;
  feeds = Net (record { 0 = first + 17 }) ∷ Net tck ∷ Net trst ∷ [];
  output = Some (record { 0 = first });
}

flop_reads : (M : NetlistView) (first number : ℕ) (tck tms trst : NetId) → HasCells M (tap_cells first number tck tms trst) → FlopReads M 1 tck.0 × FlopReads M 2 trst.0
flop_reads M first number tck tms trst has =
    let cell = reset_cell first has.0.name tck trst in
    let live : cell_at M has.0.number ≡ Some cell = has.0.live in (
      record { number = has.0.number; cell = cell; kind = preset; flop = refl; reads = record { live = live; operand = refl } },
      record { number = has.0.number; cell = cell; kind = preset; flop = refl; reads = record { live = live; operand = refl } },
    )

tap_reads : (M N : NetlistView) (f : Fitted) → HoldsParts M N f → FlopReads M 1 (length N.nets) × FlopReads M 2 (length N.nets + 4)
tap_reads M N f parts =
    let port = port_of N in flop_reads M (first_net N f) (cell_count N) port.tck port.tms port.trst parts.controller

pub tap_steers : (M N : NetlistView) (f : Fitted) → HoldsParts M N f → (input : TapInput) → IsClockOrReset input → IsControlNet M (length N.nets + tap_place input)
tap_steers M N f parts input (inl is) =
    let e : length N.nets ≡ length N.nets + 0 = omega arith in
    let tck : IsControlNet M (length N.nets + 0) = subst (IsControlNet M) e (record { root = length N.nets; operand = inl (tap_reads M N f parts).0; cone = itself }) in
    subst (λ (i : TapInput). IsControlNet M (length N.nets + tap_place i)) (sym is) tck
tap_steers M N f parts input (inr is) =
    let trst : IsControlNet M (length N.nets + 4) = record { root = length N.nets + 4; operand = inr (tap_reads M N f parts).1; cone = itself } in
    subst (λ (i : TapInput). IsControlNet M (length N.nets + tap_place i)) (sym is) trst
