use Rattle.std.proofs.Common.{◌≡◌, ℕ, ◌+◌, ◌<◌, ◌≤◌, List, length, length-append, sym, ◌∙◌, ap, arith}
use Rattle.netlist_model.specs.Lists.{NetView, NetlistView}
use Rattle.gate_parts.specs.Parts.{added_nets}
use Rattle.gate_parts.proofs.Steps.{length-added_nets}
use Rattle.open_stitch.specs.declared.Parts.{Parts}
use Rattle.open_stitch.specs.Open.{parts_at}
use Rattle.status_build.specs.BuildLaws.{CanAdd, IsBuiltOn}
use Rattle.status_build.specs.Build.{IsOpenTo}
use Rattle.status_stitch.specs.Stitched.{status_first, status_size, shared_by}
use Rattle.status_stitch.proofs.Numbers.{opened_nets, size_few, stitch_room, can_add}
use Rattle.status_stitch.proofs.Opened.{OpenLaws, moved, operand_there, open_to, all_proper, all_read}
use Rattle.status_stitch.proofs.Same.{opened_count, status_same}
use Rattle.status_stitch.proofs.parts.status_netlist.Goals as goal

pub open_netlist-parts-requires-clause-room : goal.open_netlist-parts-requires-clause-room
open_netlist-parts-requires-clause-room c = stitch_room c.args.netlist.now c.args.fitted.now c.args.registers.now c.requires.room

pub build_registers-requires-clause-can : goal.build_registers-requires-clause-can
build_registers-requires-clause-can c =
    let N : NetlistView = c.args.netlist.now.lists in
    let O : NetlistView = c.open_netlist-parts.new.netlist.lists in
    let many = opened_nets N O c.args.names.now c.args.fitted.now c.open_netlist-parts.ensures.opened in
    let P : Parts → ℕ → ℕ → Type 0 = λ p k nets. CanAdd nets (shared_by p k) p.bypass c.args.fitted.now.codes.length c.args.registers.now in
    moved P c.open_netlist-parts.result (parts_at N c.args.fitted.now) c.net_count-first.result (length O.nets) (status_first N c.args.fitted.now) c.open_netlist-parts.ensures.parts (c.net_count-first.ensures ∙ many) many
    (can_add N c.args.fitted.now c.args.registers.now c.requires.can.small.bits c.requires.buildable)

pub build_registers-requires-clause-gate : goal.build_registers-requires-clause-gate
build_registers-requires-clause-gate c =
    operand_there c.args.netlist.now.lists c.open_netlist-parts.new.netlist.lists c.args.names.now c.args.fitted.now c.open_netlist-parts.result c.open_netlist-parts.ensures.parts c.open_netlist-parts.ensures.opened

pub build_registers-requires-clause-nets : goal.build_registers-requires-clause-nets
build_registers-requires-clause-nets c =
    let few = size_few c.args.netlist.now.lists c.args.fitted.now c.args.registers.now c.requires.can.small.bits c.requires.buildable.each in
    let sum = c.open_netlist-parts.ensures.net_room in
    let most = c.open_netlist-parts.ensures.nets in
    let room = c.requires.room.nets in
    omega (arith, few, sum, most, room)

pub build_registers-requires-clause-cells : goal.build_registers-requires-clause-cells
build_registers-requires-clause-cells c =
    let few = size_few c.args.netlist.now.lists c.args.fitted.now c.args.registers.now c.requires.can.small.bits c.requires.buildable.each in
    let sum = c.open_netlist-parts.ensures.cell_room in
    let most = c.open_netlist-parts.ensures.cells in
    let room = c.requires.room.cells in
    omega (arith, few, sum, most, room)

pub returns-clause-built : goal.returns-clause-built
returns-clause-built c =
    let N : NetlistView = c.args.netlist.now.lists in
    let O : NetlistView = c.open_netlist-parts.new.netlist.lists in
    let M : NetlistView = c.build_registers.new.netlist.lists in
    let many = opened_nets N O c.args.names.now c.args.fitted.now c.open_netlist-parts.ensures.opened in
    let P : Parts → ℕ → ℕ → Type 0 = λ p k nets. IsBuiltOn O M (shared_by p k) p.bypass c.args.fitted.now.codes.length p.through.0 c.args.registers.now in
    status_same N O M c.args.names.now c.args.fitted.now c.args.registers.now c.open_netlist-parts.ensures.opened
    (opened_count c.numbers_of_a_dense_netlist.ensures N O c.args.names.now c.args.fitted.now c.open_netlist-parts.ensures.dense c.open_netlist-parts.ensures.opened)
    (moved P (parts_at N c.args.fitted.now) c.open_netlist-parts.result (status_first N c.args.fitted.now) (status_first N c.args.fitted.now) c.net_count-first.result (sym c.open_netlist-parts.ensures.parts)
    (sym (c.net_count-first.ensures ∙ many)) (sym (c.net_count-first.ensures ∙ many)) c.build_registers.ensures.built)

pub returns-clause-formed : goal.returns-clause-formed
returns-clause-formed c = λ formed.
    (let N : NetlistView = c.args.netlist.now.lists in
    let O : NetlistView = c.open_netlist-parts.new.netlist.lists in
    let laws : OpenLaws = record {
      extension = c.extension_is_built_in.ensures;
      directions = c.stitched_directions.ensures;
      shared = c.shared_nets_stand.ensures;
      wires = c.wires_stand.ensures;
    } in
    let many = opened_nets N O c.args.names.now c.args.fitted.now c.open_netlist-parts.ensures.opened in
    let P : Parts → ℕ → ℕ → Type 0 = λ p k nets. IsOpenTo O (shared_by p k) p.bypass c.args.fitted.now.codes.length p.through.0 in
    let opened = moved P c.open_netlist-parts.result (parts_at N c.args.fitted.now) c.net_count-first.result c.net_count-first.result (status_first N c.args.fitted.now) c.open_netlist-parts.ensures.parts
    (c.net_count-first.ensures ∙ many) (c.net_count-first.ensures ∙ many)
    (open_to laws N O c.args.names.now c.args.fitted.now c.is_laid_out.ensures.laid_out c.requires.can.dense c.open_netlist-parts.ensures.opened) in
    c.build_registers.ensures.formed (c.open_netlist-parts.ensures.formed formed) opened c.requires.buildable.some (all_proper N c.args.fitted.now c.args.registers.now c.requires.buildable)
    (all_read laws N O c.args.names.now c.args.fitted.now c.args.registers.now c.is_laid_out.ensures.laid_out c.requires.can.dense c.open_netlist-parts.ensures.opened c.requires.buildable))

pub returns-clause-named : goal.returns-clause-named
returns-clause-named c = λ table named.
    (let N : NetlistView = c.args.netlist.now.lists in
    let O : NetlistView = c.open_netlist-parts.new.netlist.lists in
    let laws : OpenLaws = record {
      extension = c.extension_is_built_in.ensures;
      directions = c.stitched_directions.ensures;
      shared = c.shared_nets_stand.ensures;
      wires = c.wires_stand.ensures;
    } in
    let many = opened_nets N O c.args.names.now c.args.fitted.now c.open_netlist-parts.ensures.opened in
    let P : Parts → ℕ → ℕ → Type 0 = λ p k nets. IsOpenTo O (shared_by p k) p.bypass c.args.fitted.now.codes.length p.through.0 in
    let opened = moved P c.open_netlist-parts.result (parts_at N c.args.fitted.now) c.net_count-first.result c.net_count-first.result (status_first N c.args.fitted.now) c.open_netlist-parts.ensures.parts
    (c.net_count-first.ensures ∙ many) (c.net_count-first.ensures ∙ many)
    (open_to laws N O c.args.names.now c.args.fitted.now c.is_laid_out.ensures.laid_out c.requires.can.dense c.open_netlist-parts.ensures.opened) in
    c.build_registers.ensures.named table (c.open_netlist-parts.ensures.named table named) opened)

pub returns-clause-nets : goal.returns-clause-nets
returns-clause-nets c =
    let O : NetlistView = c.open_netlist-parts.new.netlist.lists in
    let size : ℕ = status_size c.args.fitted.now c.args.registers.now in
    let few = size_few c.args.netlist.now.lists c.args.fitted.now c.args.registers.now c.requires.can.small.bits c.requires.buildable.each in
    let most = c.open_netlist-parts.ensures.nets in
    let long = ap (λ (views : List NetView). length views) c.build_registers.ensures.built.nets in
    let both = length-append O.nets (added_nets (length O.nets) size) in
    let many = length-added_nets (length O.nets) size in
    omega (arith, few, most, long, both, many)

pub returns-clause-cells : goal.returns-clause-cells
returns-clause-cells c =
    let few = size_few c.args.netlist.now.lists c.args.fitted.now c.args.registers.now c.requires.can.small.bits c.requires.buildable.each in
    let most = c.open_netlist-parts.ensures.cells in
    let count = c.build_registers.ensures.built.count in
    omega (arith, few, most, count)
