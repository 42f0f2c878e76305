-- The netlist with the test logic and registers passes no limit.
use Rattle.std.proofs.Common.{◌≡◌, ℕ, suc, ◌+◌, ◌*◌, ◌≤◌, List, ◌∷◌, ◌++◌, length, length-append, refl, ap, ◌∙◌, None, arith}
use Rattle.std.specs.Prelude.{All}
use Rattle.netlist_model.specs.declared.Feed.TheVariants.{Net}
use Rattle.netlist_model.specs.Lists.{PortView, NetView, CellView, NetlistView}
use Rattle.netlist_arena.specs.Arena.{bit_count}
use Rattle.netlist_arena.specs.Room.{too_many}
use Rattle.netlist_link.proofs.Rewrites.{few_cells, few_nets}
use Rattle.netlist_unlink.specs.Renumbered.{port_numbers}
use Rattle.register_gates.specs.Constants.{ConstantsAreBits}
use Rattle.gate_parts.specs.Parts.{added_nets}
use Rattle.gate_parts.proofs.Steps.{length-added_nets}
use Rattle.plan_fitting.specs.declared.fitted.Fitted.{Fitted}
use Rattle.stitched_netlist.specs.declared.model.TapNames.{TapNames}
use Rattle.stitched_netlist.specs.Stitched.{tap_port, tap_ports, stitched_cells_by, stitched_cells, stitched}
use Rattle.stitched_netlist.specs.Sizes.{StitchedHasCounts}
use Rattle.written_netlists.specs.Prepared.{room_of, ports_of}
use Rattle.written_netlists.specs.Same.{IsSameNetlist}
use Rattle.written_netlists.proofs.NamesLimits.{few_bits}
use Rattle.written_netlists.proofs.ModulesLists.{numbers_count, bits_append}
use Rattle.written_netlists.proofs.Sizes.{cells_few, nets_few}
use Rattle.written_netlists.proofs.ModulesLimits.{FitsLimits, tap_bits}
use Rattle.status_stitch.proofs.open_stitch.Connected.{opened_length}
use Rattle.status_stitch.specs.open_stitch.Open.{through_net, through_cell, stitched_open, parts_at}
use Rattle.status_fitting.specs.declared.fitted.FittedRegister.{FittedRegister}
use Rattle.status_gates.specs.Opcodes.{inverses_cells}
use Rattle.status_gates.specs.Registers.{registers_size, registers_cells}
use Rattle.status_gates.proofs.PartsAdded.{registers_length}
use Rattle.status_stitch.proofs.status_build.Built.{inverses_length}
use Rattle.status_stitch.specs.status_room.Needed.{CanBeBuilt}
use Rattle.status_stitch.specs.status_room.Ready.{bits_of, status_room, whole_room}
use Rattle.status_stitch.specs.Stitched.{status_first, status_number, status_size, shared_at, status_cells, status_shown, all_cells, stitched_status}
use Rattle.status_stitch.proofs.Numbers.{registers_few}
use Rattle.status_register.proofs.WrittenCells.{count_after, stitched_count}

-- The counts.

gates_length : ConstantsAreBits → (N : NetlistView) (f : Fitted) (rs : List FittedRegister) → length (status_cells N f rs) ≡ status_size f rs
gates_length constants N f rs =
    let first : ℕ = status_first N f in
    let number : ℕ = status_number N f in
    let front : List CellView = inverses_cells first number (shared_at N f).opcode.0 f.codes.length in
    let back : List CellView = registers_cells (first + f.codes.length) (number + f.codes.length) (shared_at N f) (parts_at N f).bypass rs in
    let both = length-append front back in
    let a = inverses_length first number (shared_at N f).opcode.0 f.codes.length in
    let b = registers_length constants (first + f.codes.length) (number + f.codes.length) (shared_at N f) (parts_at N f).bypass rs in
    let whole : length (status_cells N f rs) ≡ length (front ++ back) = refl in
    let size : status_size f rs ≡ f.codes.length + registers_size rs = refl in
    omega (arith, both, a, b, whole, size)

cells_length : ConstantsAreBits → (N : NetlistView) (f : Fitted) (rs : List FittedRegister) → length (all_cells N f rs) ≡ length (stitched_cells N f) + (1 + status_size f rs)
cells_length constants N f rs =
    let front : List CellView = stitched_cells_by (through_net N f) N f in
    let back : List CellView = through_cell N f (Net (status_shown N f rs)) ∷ status_cells N f rs in
    let both = length-append front back in
    let same = opened_length N f (through_net N f) in
    let gates = gates_length constants N f rs in
    let one : length back ≡ suc (length (status_cells N f rs)) = refl in
    let whole : length (all_cells N f rs) ≡ length (front ++ back) = refl in
    omega (arith, both, same, gates, one, whole)

nets_length : (N : NetlistView) (names : TapNames) (f : Fitted) (rs : List FittedRegister) → length (stitched_status N names f rs).nets ≡ length (stitched N names f).nets + (1 + status_size f rs)
nets_length N names f rs =
    let opened : List NetView = (stitched_open N names f).nets in
    let gates : List NetView = added_nets (status_first N f) (status_size f rs) in
    let buffer : List NetView = added_nets (through_net N f).0 1 in
    let a = length-append opened gates in
    let b = length-append (stitched N names f).nets buffer in
    let c = length-added_nets (status_first N f) (status_size f rs) in
    let d = length-added_nets (through_net N f).0 1 in
    let e : length (stitched_status N names f rs).nets ≡ length (opened ++ gates) = refl in
    let g : length opened ≡ length ((stitched N names f).nets ++ buffer) = refl in
    omega (arith, a, b, c, d, e, g)

-- The limits.

size_few : (N : NetlistView) (f : Fitted) (rs : List FittedRegister) → f.codes.length ≤ 32 → All (CanBeBuilt N f) rs → 1 + status_size f rs ≤ status_room rs
size_few N f rs small all =
    let few = registers_few N f rs small all in
    let size : status_size f rs ≡ f.codes.length + registers_size rs = refl in
    let room : status_room rs ≡ 64 + 48 * length rs + 4 * bits_of rs = refl in
    omega (arith, small, few, size, room)

pub status_fits : StitchedHasCounts → ConstantsAreBits → (A N : NetlistView) (names : TapNames) (f : Fitted) (rs : List FittedRegister) → IsSameNetlist A (stitched_status N names f rs)
    → f.codes.length ≤ 32 → All (CanBeBuilt N f) rs → too_many N (whole_room f rs) (whole_room f rs) (ports_of f) ≡ None → FitsLimits A
status_fits counts constants A N names f rs same small all room =
    let all_few = size_few N f rs small all in
    let whole : whole_room f rs ≡ room_of f + status_room rs = refl in
    let c = counts N names f in
    let base_cells = c.cells in
    let base_nets = c.nets in
    let few_gates = cells_few N f in
    let few_wires = nets_few N f in
    let many_cells = few_cells N (whole_room f rs) (whole_room f rs) (ports_of f) room in
    let many_nets = few_nets N (whole_room f rs) (whole_room f rs) (ports_of f) room in
    let many_bits = few_bits N (whole_room f rs) (whole_room f rs) (ports_of f) room in
    let counted = stitched_count N names f in
    let long = cells_length constants N f rs in
    let wide = nets_length N names f rs in
    record {
      cells = (let here = count_after A N names f rs same in omega (arith, all_few, whole, base_cells, few_gates, many_cells, counted, long, here));
      nets = (let here : length A.nets ≡ length (stitched_status N names f rs).nets = ap (λ (ns : List NetView). length ns) same.nets in
          omega (arith, all_few, whole, base_nets, few_wires, many_nets, wide, here));
      ports = (let here : length (port_numbers A.ports) ≡ bit_count (stitched_status N names f rs).ports = ap (λ (ps : List PortView). length (port_numbers ps)) same.ports ∙ numbers_count (stitched_status N names f rs).ports in
          let both : bit_count (stitched_status N names f rs).ports ≡ bit_count N.ports + bit_count (tap_ports names (tap_port (length N.nets))) = bits_append N.ports (tap_ports names (tap_port (length N.nets))) in
          let five = tap_bits names (length N.nets) in
          let more : ports_of f ≡ 5 + length f.linkage = refl in
          omega (arith, many_bits, here, both, five, more));
    }
