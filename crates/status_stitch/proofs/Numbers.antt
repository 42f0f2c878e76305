-- Nets, cells and room.
use Rattle.std.proofs.Common.{◌≡◌, ℕ, ◌+◌, ◌*◌, ◌<◌, ◌≤◌, List, [], ◌∷◌, ◌++◌, length, length-append, refl, ap, ◌∙◌, arith}
use Rattle.std.specs.Prelude.{All}
use Rattle.std.proofs.lemmas.List.Elements.{All-head, All-tail}
use Rattle.std.proofs.lemmas.List.Sums.{sum_by-cons}
use Rattle.netlist_model.specs.Lists.{NetView, NetlistView}
use Rattle.netlist_arena.specs.Arena.{ArenaView}
use Rattle.gate_parts.specs.Parts.{added_nets}
use Rattle.gate_parts.proofs.Steps.{length-added_nets}
use Rattle.instruction_gates.specs.Register.{instruction_size, opcodes_size, matched_instructions, stages_size}
use Rattle.plan_fitting.specs.declared.fitted.Fitted.{Fitted}
use Rattle.stitched_netlist.specs.declared.model.TapNames.{TapNames}
use Rattle.stitched_netlist.specs.Sites.{sides_of}
use Rattle.stitched_netlist.specs.ModelRows.{nets_of_rows}
use Rattle.stitched_netlist.specs.ModelLogic.{logic_size, code_size, bypass_from}
use Rattle.stitched_netlist.specs.Stitched.{tap_net_views, boundary_at, first_net, test_logic_nets, stitched}
use Rattle.written_netlists.specs.Same.{IsSameNetlist}
use Rattle.status_room.specs.scan_stitch.Stitched.{HasStitchRoom}
use Rattle.open_stitch.specs.Open.{through_net, stitched_open, parts_at}
use Rattle.status_fitting.specs.declared.fitted.FittedRegister.{FittedRegister}
use Rattle.status_gates.specs.Registers.{registers_size}
use Rattle.status_build.specs.BuildLaws.{IsAddable, CanAdd}
use Rattle.status_stitch.specs.Stitched.{status_first, status_size, shared_at}
use Rattle.status_room.specs.Needed.{CanBeBuilt, AreBuildable}
use Rattle.status_room.specs.Ready.{bits_of, status_room, HasStatusRoom}

-- Nets.

stitched_nets : (N : NetlistView) (names : TapNames) (f : Fitted) → length (stitched N names f).nets ≡ first_net N f + test_logic_nets (boundary_at N f) f
stitched_nets N names f =
    let more : List NetView = added_nets (boundary_at N f).first (sides_of N.ports f.rows + test_logic_nets (boundary_at N f) f) in
    let five : length (tap_net_views names) ≡ 5 = refl in
    let many = length-added_nets (boundary_at N f).first (sides_of N.ports f.rows + test_logic_nets (boundary_at N f) f) in
    let both = length-append (tap_net_views names) more in
    let all = length-append N.nets (tap_net_views names ++ more) in
    let is : length (stitched N names f).nets ≡ length (N.nets ++ (tap_net_views names ++ more)) = refl in
    let start : first_net N f ≡ length N.nets + 5 + sides_of N.ports f.rows = refl in
    omega (arith, five, many, both, all, is, start)

pub open_nets : (N : NetlistView) (names : TapNames) (f : Fitted) → length (stitched_open N names f).nets ≡ status_first N f
open_nets N names f =
    let before = stitched_nets N names f in
    let both = length-append (stitched N names f).nets (added_nets (through_net N f).0 1) in
    let one : length (added_nets (through_net N f).0 1) ≡ 1 = refl in
    let is : length (stitched_open N names f).nets ≡ length ((stitched N names f).nets ++ added_nets (through_net N f).0 1) = refl in
    let at : (through_net N f).0 ≡ first_net N f + test_logic_nets (boundary_at N f) f = refl in
    omega (arith, before, both, one, is, at)

pub opened_nets : (N O : NetlistView) (names : TapNames) (f : Fitted) → IsSameNetlist O (stitched_open N names f) → length O.nets ≡ status_first N f
opened_nets N O names f same = ap (λ (views : List NetView). length views) same.nets ∙ open_nets N names f

-- the copies of the latched opcode end where the bypass register begins
pub opcode_end : (N : NetlistView) (f : Fitted) → (parts_at N f).instr.opcode.0 + f.codes.length ≡ first_net N f + bypass_from f
opcode_end N f =
    let size : instruction_size f.codes ≡ stages_size f.codes + (opcodes_size f.codes matched_instructions + (10 + f.codes.length)) = refl in
    let from : bypass_from f ≡ 49 + instruction_size f.codes = refl in
    let at : (parts_at N f).instr.opcode.0 ≡ first_net N f + 49 + stages_size f.codes + opcodes_size f.codes matched_instructions + 10 = refl in
    omega (arith, size, from, at)

-- where all of it stands
pub record Order (N : NetlistView) (f : Fitted) : Type 0 where
  pub port : length N.nets + 5 ≤ first_net N f
  pub bypass : first_net N f + bypass_from f + 5 ≤ (through_net N f).0
  pub capture : (parts_at N f).tap.capture_dr.0 ≡ first_net N f + 3
  pub shift : (parts_at N f).tap.shift_dr.0 ≡ first_net N f + 4
  pub bit : (parts_at N f).bypass.0 ≡ first_net N f + bypass_from f + 2

pub order_of : (N : NetlistView) (f : Fitted) → Order N f
order_of N f =
    let start : first_net N f ≡ length N.nets + 5 + sides_of N.ports f.rows = refl in
    let size : logic_size f ≡ bypass_from f + 5 + code_size f.usercode f.idcode = refl in
    let nets : test_logic_nets (boundary_at N f) f ≡ logic_size f + nets_of_rows (boundary_at N f).ports (boundary_at N f).rows + 6 = refl in
    let at : (through_net N f).0 ≡ first_net N f + test_logic_nets (boundary_at N f) f = refl in
    record { port = omega (arith, start); bypass = omega (arith, size, nets, at); capture = refl; shift = refl; bit = refl }

-- Room.

pub registers_few : (N : NetlistView) (f : Fitted) (rs : List FittedRegister) → f.codes.length ≤ 32 → All (CanBeBuilt N f) rs → registers_size rs ≤ 48 * length rs + 4 * bits_of rs
registers_few N f [] small all = omega arith
registers_few N f (r ∷ rs) small all =
    let this = (All-head (CanBeBuilt N f) r rs all).bits in
    let rest = registers_few N f rs small (All-tail (CanBeBuilt N f) r rs all) in
    let sum = sum_by-cons (λ (x : FittedRegister). length x.nets) r rs in
    omega (arith, small, this, rest, sum)

pub size_few : (N : NetlistView) (f : Fitted) (rs : List FittedRegister) → f.codes.length ≤ 32 → All (CanBeBuilt N f) rs → status_size f rs ≤ status_room rs
size_few N f rs small all = let few = registers_few N f rs small all in omega (arith, small, few)

pub stitch_room : (arena : ArenaView) (f : Fitted) (rs : List FittedRegister) → HasStatusRoom arena f rs → HasStitchRoom arena f
stitch_room arena f rs room =
    let nets = room.nets in
    let cells = room.cells in
    let fits = room.fits in
    record { nets = omega (arith, nets); cells = omega (arith, cells); port_bits = room.port_bits; fits = omega (arith, fits) }

-- What building in needs.

addable : (N : NetlistView) (f : Fitted) (nets : ℕ) → length N.nets ≤ nets → 0 < f.codes.length → (r : FittedRegister) → CanBeBuilt N f r → IsAddable nets f.codes.length r
addable N f nets more bits r can =
    let same = can.bits in
    record {
      some = omega (arith, same, bits);
      few = omega (arith, same);
      wires = can.few;
      captured = λ k d within. (let low = (can.wires k d within).low in omega (arith, low, more));
    }

pub can_add : (N : NetlistView) (f : Fitted) (rs : List FittedRegister) → f.codes.length ≤ 32 → AreBuildable N f rs → CanAdd (status_first N f) (shared_at N f) (parts_at N f).bypass f.codes.length rs
can_add N f rs small can =
    let o = order_of N f in
    let port = o.port in
    let bypass = o.bypass in
    let end = opcode_end N f in
    let capture = o.capture in
    let shift = o.shift in
    let bit = o.bit in
    record {
      clock = (omega (arith, port, bypass), omega (arith, port, bypass));
      steps = (omega (arith, bypass, capture), omega (arith, bypass, shift));
      tdi = omega (arith, port, bypass);
      opcode = omega (arith, end, bypass);
      inverses = refl;
      bit = omega (arith, bypass, bit);
      few = small;
      each = λ k d within. addable N f (status_first N f) (omega (arith, port, bypass)) can.bits _ (can.each k d within);
    }
