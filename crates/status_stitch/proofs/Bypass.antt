-- The gate of TDO that chooses between the bits of the boundary and the bypass register reads a flip-flop.
use Rattle.std.proofs.Common.{◌≡◌, ℕ, ◌+◌, true, false, List, refl, ap, subst, arith}
use Rattle.cell_library.specs.declared.FlopKind.{FlopKind}
use Rattle.cell_library.specs.Gates.{is_flop}
use Rattle.netlist_model.specs.declared.NetId.{NetId}
use Rattle.netlist_model.specs.declared.Feed.{Feed}
use Rattle.netlist_model.specs.declared.Feed.TheVariants.{Const}
use Rattle.netlist_model.specs.Lists.{CellView, NetlistView, Drives}
use Rattle.netlist_model.specs.Formed.{IsWellFormed}
use Rattle.netlist_model.specs.LawsContained.{ContainedParts}
use Rattle.gate_parts.specs.Laws.{FlopOn}
use Rattle.gate_parts.specs.PartLaws.{ContainedPartHasFlops}
use Rattle.register_gates.specs.declared.bits.TheConstants.{SHIFT_BIT}
use Rattle.register_gates.specs.Bits.{shift_bit_given, shift_bit_cells}
use Rattle.register_gates.specs.Registers.{selected_cells, selected_steering}
use Rattle.status_build.specs.ReconnectedLaws.{ReadsFlop}
use Rattle.plan_fitting.specs.declared.fitted.Fitted.{Fitted}
use Rattle.stitched_netlist.specs.declared.model.TapNames.{TapNames}
use Rattle.stitched_netlist.specs.ModelLogic.{bypass_from, tap_at, instruction_at, bypass_at}
use Rattle.stitched_netlist.specs.Stitched.{first_net, stitched}
use Rattle.stitched_netlist.specs.PlacesLaws.{port_of, bypass_number}
use Rattle.stitched_netlist.specs.Places.{StitchedHoldsParts}
use Rattle.open_stitch.proofs.Connected.{choice_at}

-- a flip-flop that drives the net
record FlopOf (M : NetlistView) (net : ℕ) : Type 0 where
  number : ℕ
  cell : CellView
  is : is_flop M.library cell.kind ≡ true
  drives : Drives M number cell net

flop_of_on : (M : NetlistView) (net : ℕ) (kind : FlopKind) (feeds : List Feed) → FlopOn M kind feeds net → FlopOf M net
flop_of_on M net kind feeds on =
    let named : CellView = record on.cell { name = on.has.name } in
    record { number = on.has.number; cell = named; is = ap (is_flop M.library) on.kind_is; drives = record { live = on.has.live; output = on.output } }

bypass_flop : StitchedHoldsParts → ContainedParts → ContainedPartHasFlops → (N : NetlistView) (names : TapNames) (f : Fitted) → IsWellFormed (stitched N names f)
    → FlopOf (stitched N names f) (bypass_at (first_net N f) f).0
bypass_flop holds contained flops N names f formed =
    let S : NetlistView = stitched N names f in
    let first : ℕ = first_net N f + bypass_from f in
    let number : ℕ = bypass_number N f in
    let tap = tap_at (first_net N f) (port_of N) in
    let on : NetId = (instruction_at (first_net N f) (port_of N) f).bypass_on in
    let steering = selected_steering first tap in
    let given : List Feed = shift_bit_given steering (Const false) (port_of N).tdi in
    let parts = (contained S (selected_cells first number tap on) (shift_bit_cells (first + 2) (number + 2) steering (Const false) (port_of N).tdi)).parts (holds N names f).bypass in
    let flop = flops S SHIFT_BIT given (first + 2) (number + 2) formed parts.1 0 _ _ refl refl in
    let e : first + 2 + 0 ≡ first + 2 = omega arith in
    subst (FlopOf S) e (flop_of_on S (first + 2 + 0) _ _ flop)

pub choice_reads_flop : StitchedHoldsParts → ContainedParts → ContainedPartHasFlops → (N : NetlistView) (names : TapNames) (f : Fitted) → IsWellFormed (stitched N names f)
    → ReadsFlop (stitched N names f) (choice_at N f)
choice_reads_flop holds contained flops N names f formed =
    let flop = bypass_flop holds contained flops N names f formed in
    record {
      place = 1;
      source = (bypass_at (first_net N f) f).0;
      reads = refl;
      number = flop.number;
      flop = flop.cell;
      is = flop.is;
      drives = flop.drives;
    }
