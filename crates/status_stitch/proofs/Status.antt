-- The netlist has what the law of netlists with registers asks for.
use Rattle.std.proofs.Common.{◌≡◌, ◌≢◌, ℕ, zero, suc, ◌+◌, ◌≤◌, ◌⊎◌, inl, inr, List, [], ◌∷◌, length, Some, None, refl, ap, sym, ◌∙◌, subst, arith}
use Rattle.std.specs.Prelude.{slice_get}
use Rattle.std.proofs.lemmas.Option.{same_Some, slice_get_within}
use Rattle.list_laws.proofs.Lists.{slice_get-append_left, slice_get-append_right}
use Rattle.list_laws.proofs.Options.{none_some}
use Rattle.cell_library.specs.declared.Kind.TheVariants.{Buf}
use Rattle.cell_library.specs.Gates.{flop_of}
use Rattle.netlist_model.specs.declared.Feed.TheVariants.{Net}
use Rattle.netlist_model.specs.Lists.{CellView, NetlistView, cell_at, Drives}
use Rattle.netlist_model.specs.Formed.{IsLaidOut, IsWellFormed}
use Rattle.netlist_model.specs.Contained.{HasCells, IsDense}
use Rattle.netlist_model.specs.LawsContained.{ContainedParts}
use Rattle.netlist_arena.specs.Moves.{with_feed}
use Rattle.netlist_link.specs.Linked.{LinkedView}
use Rattle.gate_parts.specs.PartLaws.{ContainedPartHasFlops}
use Rattle.gate_parts.proofs.LawProofs.{has_from}
use Rattle.test_logic.specs.declared.TapInput.TheVariants.{Tck, Trst}
use Rattle.wrapped_chip.specs.Legal.{HasControls}
use Rattle.plan_texts.specs.declared.plan.Plan.{Plan}
use Rattle.plan_fitting.specs.declared.fitted.Fitted.{Fitted}
use Rattle.plan_fitting.specs.Pins.{PinSeen}
use Rattle.plan_fitting.specs.Devices.{fitted_of, device_of}
use Rattle.plan_fitting.specs.FittingPlan.{IsFitting}
use Rattle.stitched_netlist.specs.declared.model.TapNames.{TapNames}
use Rattle.stitched_netlist.specs.ModelLogic.{bypass_at}
use Rattle.stitched_netlist.specs.Stitched.{first_net, stitched_cells_by, stitched_cells, stitched}
use Rattle.stitched_netlist.specs.Places.{StitchedHoldsParts}
use Rattle.stitched_netlist.proofs.PlacesLaws.{listed_at}
use Rattle.stitched_netlist.specs.InsidePlaces.{places_in}
use Rattle.stitched_netlist.specs.RanksLaws.{StitchedHasControls}
use Rattle.stitched_netlist.specs.FormedLaws.{StitchedIsFormed}
use Rattle.surrounded_core.specs.Surrounds.{SurroundsBy}
use Rattle.status_fitting.specs.declared.fitted.FittedRegister.{FittedRegister}
use Rattle.status_gates.specs.Opcodes.{inverses_cells}
use Rattle.status_gates.specs.declared.parts.SharedNets.{SharedNets}
use Rattle.status_gates.specs.Registers.{registers_cells}
use Rattle.status_build.specs.ControlPortsLaws.{IsTapClocked, IsRewired, Grows, GrownHasControls}
use Rattle.status_build.specs.CellsLaws.{RegistersAreClocked, RegistersDriveBehind}
use Rattle.open_stitch.specs.Connected.{shows}
use Rattle.open_stitch.proofs.Connected.{choice_at, opened_output}
use Rattle.open_stitch.specs.Open.{through_number, through_net, through_cell, open_cells, stitched_open, parts_at}
use Rattle.open_stitch.specs.Runs.{Extends}
use Rattle.status_stitch.specs.Stands.{shared_of, HoldsStatus}
use Rattle.status_stitch.proofs.RealisedOpened.{BuiltLaws, surrounds}
use Rattle.status_stitch.specs.Built.{first_behind, number_behind, cells_behind, shown_behind, IsBuilt}
use Rattle.status_stitch.specs.BuiltLaws.{BuiltHasStatus}
use Rattle.status_stitch.proofs.BuiltCells.{split_at, IsChosen, opened_at, open_nets, front_length, built_buffer, at_front, at_buffer, at_behind, IsBuffer, IsBehind, stands}
use Rattle.status_stitch.proofs.Bypass.{choice_reads_flop}

pub record StatusLaws : Type 0 where
  pub made : BuiltLaws
  pub formed : StitchedIsFormed
  pub controls : StitchedHasControls
  pub holds : StitchedHoldsParts
  pub parts : ContainedParts
  pub flops : ContainedPartHasFlops
  pub clocked : RegistersAreClocked
  pub behind : RegistersDriveBehind
  pub grown : GrownHasControls

-- It extends the open netlist.

-- the bypass bit's buffer, as the open netlist has it
abbrev plain_buffer : NetlistView → Fitted → CellView
plain_buffer N f = through_cell N f (Net (bypass_at (first_net N f) f))

open_front : (N : NetlistView) (names : TapNames) (f : Fitted) (k : ℕ) (cell : CellView) → slice_get (stitched_cells_by (through_net N f) N f) k ≡ Some cell
    → cell_at (stitched_open N names f) k ≡ Some cell
open_front N names f k cell at =
    let all : List CellView = stitched_cells_by (through_net N f) N f in
    listed_at (open_cells N f) k ∙ slice_get-append_left all (plain_buffer N f ∷ []) k (slice_get_within all k cell at) ∙ at

open_buffer : (M N : NetlistView) (names : TapNames) (f : Fitted) (registers : List FittedRegister) → IsBuilt M N names f registers
    → cell_at (stitched_open N names f) (through_number N f) ≡ Some (plain_buffer N f)
open_buffer M N names f registers built =
    let all : List CellView = stitched_cells_by (through_net N f) N f in
    let long = front_length N f in
    let is : through_number N f ≡ length all + 0 = omega (arith, long) in
    listed_at (open_cells N f) (through_number N f) ∙ slice_get-append_right all (plain_buffer N f ∷ []) (through_number N f) 0 is

-- a cell of the open netlist stands in front, or is the buffer
open_stands : (N : NetlistView) (names : TapNames) (f : Fitted) (k : ℕ) (cell : CellView) → cell_at (stitched_open N names f) k ≡ Some cell → k ≢ through_number N f
    → slice_get (stitched_cells_by (through_net N f) N f) k ≡ Some cell
open_stands N names f k cell live apart =
    elim (split_at all (plain_buffer N f ∷ []) k cell (sym (listed_at (open_cells N f) k) ∙ live)) [
      | inl a ↦ a.0
      | inr r ↦ by r.0 r.1 r.2
    ]
  where
    all : List CellView
    all = stitched_cells_by (through_net N f) N f

    by : (j : ℕ) → k ≡ length all + j → slice_get (plain_buffer N f ∷ []) j ≡ Some cell → slice_get all k ≡ Some cell
    by zero at e =
        let long : length all ≡ through_number N f = front_length N f in
        absurd (apart (omega (arith, at, long)))
    by (suc j) at e = none_some e

extends : StatusLaws → (M N : NetlistView) (names : TapNames) (f : Fitted) (registers : List FittedRegister) → IsBuilt M N names f registers
    → Extends (stitched_open N names f) M (through_number N f) (Net (shown_behind N f registers))
extends laws M N names f registers built = record {
  formed = built.formed;
  library = built.library;
  ports = built.ports;
  cells = λ k cell apart live.
      let at : slice_get (stitched_cells_by (through_net N f) N f) k ≡ Some cell = open_stands N names f k cell live apart in
      at_front M N names f registers built k (slice_get_within (stitched_cells_by (through_net N f) N f) k cell at) ∙ at;
  own = λ k cell net none drives. by k cell net none drives (stands M N names f registers built k cell drives.live);
  buffer = λ cell live.
      let same : plain_buffer N f ≡ cell
      = same_Some (plain_buffer N f) cell (sym (open_buffer M N names f registers built) ∙ live) in
      subst (λ (c : CellView). cell_at M (through_number N f) ≡ Some (with_feed 0 (Net (shown_behind N f registers)) c)) same (at_buffer M N names f registers built);
}
  where
    by : (k : ℕ) (cell : CellView) (net : ℕ) → cell_at (stitched_open N names f) k ≡ None → Drives M k cell net
        → (slice_get (stitched_cells_by (through_net N f) N f) k ≡ Some cell) ⊎ (IsBuffer N f registers k cell ⊎ IsBehind N f registers cell) → length (stitched_open N names f).nets ≤ net
    by k cell net none drives (inl front) = none_some (sym none ∙ open_front N names f k cell front)
    by k cell net none drives (inr (inl buffer)) =
        none_some (sym none ∙ ap (cell_at (stitched_open N names f)) buffer.0 ∙ open_buffer M N names f registers built)
    by k cell net none drives (inr (inr gate)) =
        let first = open_nets N names f in
        let low : first_behind N f ≤ net
        = laws.behind (first_behind N f) (number_behind N f) (shared_of (parts_at N f) (first_behind N f)) (parts_at N f).bypass f.codes.length registers gate.0 net cell gate.1 drives.output in
        omega (arith, first, low)

-- The gates of the registers are there.

holds_status : StatusLaws → (M N : NetlistView) (names : TapNames) (f : Fitted) (registers : List FittedRegister) → IsBuilt M N names f registers
    → HoldsStatus M (parts_at N f) f.codes.length (first_behind N f) (number_behind N f) registers
holds_status laws M N names f registers built =
    let first : ℕ = first_behind N f in
    let number : ℕ = number_behind N f in
    let shared : SharedNets = shared_of (parts_at N f) first in
    let bits : ℕ = f.codes.length in
    let has : HasCells M (cells_behind N f registers) = has_from M number (cells_behind N f registers) (λ k. at_behind M N names f registers built k) in
    let both = (laws.parts M (inverses_cells first number shared.opcode.0 bits) (registers_cells (first + bits) (number + bits) shared (parts_at N f).bypass registers)).parts has in
    record { inverses = both.0; gates = both.1 }

-- Its control ports.

buffer_clocked : (M N : NetlistView) (f : Fitted) (registers : List FittedRegister) (cell : CellView) → built_buffer N f registers ≡ cell → IsTapClocked M N cell
buffer_clocked M N f registers cell same =
    let plain : flop_of M.library Buf ≡ None = refl in
    let here : IsTapClocked M N (built_buffer N f registers) = record { controls = λ kind place net flop which at. none_some (sym plain ∙ flop) } in
    subst (IsTapClocked M N) same here

rewired : StatusLaws → (M N : NetlistView) (names : TapNames) (f : Fitted) (registers : List FittedRegister) → IsWellFormed (stitched N names f) → IsBuilt M N names f registers
    → (i : ℕ) (cell : CellView) → IsChosen N f (through_net N f) i cell → IsRewired (stitched N names f) M i cell
rewired laws M N names f registers formed built i cell chosen =
    let all : List CellView = stitched_cells_by (through_net N f) N f in
    let now : CellView = shows (through_net N f) (choice_at N f) in
    let here : IsRewired (stitched N names f) M i (choice_at N f) = record {
      gate = refl;
      flop = choice_reads_flop laws.holds laws.parts laws.flops N names f formed;
      other = now;
      live = at_front M N names f registers built i (slice_get_within all i now chosen.now) ∙ chosen.now;
      kind = refl;
      output = refl;
    } in
    subst (IsRewired (stitched N names f) M i) (sym chosen.is) here

grows : StatusLaws → (L : LinkedView) (p : Plan) (seen : List PinSeen) (names : TapNames) (M : NetlistView) (registers : List FittedRegister) → IsFitting L p seen → IsLaidOut L.arena.lists
    → IsDense L.arena.lists → IsBuilt M L.arena.lists names (fitted_of L p seen) registers → Grows (stitched L.arena.lists names (fitted_of L p seen)) M L.arena.lists
grows laws L p seen names M registers fits laid dense built = record {
  library = built.library;
  ports = built.ports;
  kept = λ i cell live. elim (opened_at N f (through_net N f) i cell (sym (listed_at (stitched_cells N f) i) ∙ live)) [
    | inl same ↦ inl (at_front M N names f registers built i (slice_get_within (stitched_cells_by (through_net N f) N f) i cell same) ∙ same)
    | inr chosen ↦ inr (rewired laws M N names f registers (laws.formed L p seen names fits laid dense) built i cell chosen)
  ];
  added = λ i cell none live. by i cell none (stands M N names f registers built i cell live);
}
  where
    N : NetlistView
    N = L.arena.lists

    f : Fitted
    f = fitted_of L p seen

    around : SurroundsBy M N (device_of L p seen) (places_in M N f) (through_net N f)
    around = surrounds laws.made L p seen names M (Net (shown_behind N f registers)) fits laid dense (extends laws M N names f registers built)

    by : (i : ℕ) (cell : CellView) → cell_at (stitched N names f) i ≡ None
        → (slice_get (stitched_cells_by (through_net N f) N f) i ≡ Some cell) ⊎ (IsBuffer N f registers i cell ⊎ IsBehind N f registers cell) → IsTapClocked M N cell
    by i cell none (inl front) =
        let there = opened_output N f (through_net N f) i cell front in
        none_some (sym none ∙ listed_at (stitched_cells N f) i ∙ there.at)
    by i cell none (inr (inl buffer)) = buffer_clocked M N f registers cell buffer.1
    by i cell none (inr (inr gate)) =
        laws.clocked M N (first_behind N f) (number_behind N f) (shared_of (parts_at N f) (first_behind N f)) (parts_at N f).bypass f.codes.length registers
        (around.ports.inputs Tck) (around.ports.inputs Trst) gate.0 cell gate.1

pub has_status : StatusLaws → BuiltHasStatus
has_status laws L p seen names M registers fits laid dense built =
    let N : NetlistView = L.arena.lists in
    let f : Fitted = fitted_of L p seen in
    let formed : IsWellFormed (stitched N names f) = laws.formed L p seen names fits laid dense in
    let controls : HasControls M N
    = laws.grown (stitched N names f) M N formed built.formed (grows laws L p seen names M registers fits laid dense built) (laws.controls L p seen names fits laid dense) in
    record {
      first = first_behind N f;
      number = number_behind N f;
      holds = holds_status laws M N names f registers built;
      extends = extends laws M N names f registers built;
      controls = controls;
    }
