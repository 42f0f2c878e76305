-- The netlist with the test logic passes no limit.
use Rattle.std.proofs.Common.{◌≡◌, ℕ, ◌+◌, ◌≤◌, List, length, refl, ◌∙◌, ap, None, arith}
use Rattle.std.proofs.lemmas.Bool.{le-ltb}
use Rattle.netlist_model.specs.declared.What.{What}
use Rattle.netlist_model.specs.declared.What.TheVariants.{Cells, Nets, Ports}
use Rattle.netlist_model.specs.Lists.{PortView, NetView, NetlistView, cell_count}
use Rattle.netlist_arena.specs.Arena.{bit_count}
use Rattle.link_model.specs.Faults.{too_many}
use Rattle.netlist_link.specs.Linked.{LinkedView}
use Rattle.netlist_link.proofs.Rewrites.{few_cells, few_nets}
use Rattle.core_sides.specs.netlist_unlink.Renumbered.{port_numbers, passed_limit}
use Rattle.core_sides.specs.plan_fitting.declared.fitted.Fitted.{Fitted}
use Rattle.core_sides.specs.stitched_netlist.declared.model.TapNames.{TapNames}
use Rattle.core_sides.specs.stitched_netlist.Stitched.{tap_port, tap_ports, stitched}
use Rattle.core_sides.specs.stitched_netlist.Sizes.{StitchedHasCounts}
use Rattle.written_netlists.specs.Prepared.{room_of, ports_of}
use Rattle.written_netlists.proofs.NamesLimits.{few_bits}
use Rattle.written_netlists.specs.Written.{IsStitchedOf, HasStitchRoom}
use Rattle.written_netlists.specs.ModulesLaws.{StitchedKeepsLimits}
use Rattle.written_netlists.proofs.ModulesLists.{numbers_count, bits_append, same_count}
use Rattle.written_netlists.proofs.Sizes.{cells_few, nets_few}

-- Tests of limits.

not_passed : (what : What) (limit count : ℕ) → count ≤ limit → too_many what limit count ≡ None
not_passed what limit count low = rw (le-ltb limit count low) refl

-- The counts.

pub record FitsLimits (N : NetlistView) : Type 0 where
  pub cells : cell_count N ≤ 262144
  pub nets : length N.nets ≤ 524288
  pub ports : length (port_numbers N.ports) ≤ 4096

pub none_passed : (N : NetlistView) → FitsLimits N → passed_limit N ≡ None
none_passed N fits =
    rw (not_passed Cells 262144 (cell_count N) fits.cells, not_passed Nets 524288 (length N.nets) fits.nets, not_passed Ports 4096 (length (port_numbers N.ports)) fits.ports) refl

-- five bits more
pub tap_bits : (names : TapNames) (first : ℕ) → bit_count (tap_ports names (tap_port first)) ≡ 5
tap_bits names first = refl

stitched_fits : StitchedHasCounts → (L after : LinkedView) (f : Fitted) → HasStitchRoom L f → IsStitchedOf L f after → FitsLimits after.arena.lists
stitched_fits counts L after f room is =
    let N : NetlistView = L.arena.lists in
    let M : NetlistView = stitched N is.names f in
    let c = counts N is.names f in
    let many_cells = few_cells N (room_of f) (room_of f) (ports_of f) room in
    let many_nets = few_nets N (room_of f) (room_of f) (ports_of f) room in
    let many_bits = few_bits N (room_of f) (room_of f) (ports_of f) room in
    record {
      cells = (let same : cell_count after.arena.lists ≡ cell_count M = same_count after.arena.lists.cells M.cells is.same.cells in
          let few = cells_few N f in let e = c.cells in omega arith);
      nets = (let same : length after.arena.lists.nets ≡ length M.nets = ap (λ (ns : List NetView). length ns) is.same.nets in
          let few = nets_few N f in let e = c.nets in omega arith);
      ports = (let same : length (port_numbers after.arena.lists.ports) ≡ bit_count M.ports =
          ap (λ (ps : List PortView). length (port_numbers ps)) is.same.ports ∙ numbers_count M.ports in
          let both : bit_count M.ports ≡ bit_count N.ports + bit_count (tap_ports is.names (tap_port (length N.nets))) = bits_append N.ports (tap_ports is.names (tap_port (length N.nets))) in
          let five = tap_bits is.names (length N.nets) in
          let more : ports_of f ≡ 5 + length f.linkage = refl in
          omega arith);
    }

pub keeps_limits : StitchedHasCounts → StitchedKeepsLimits
keeps_limits counts m L p f after c = none_passed after.arena.lists (stitched_fits counts L after f c.room c.is)
