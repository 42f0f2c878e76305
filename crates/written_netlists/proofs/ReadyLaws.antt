-- The core of a netlist that a plan fits can stand behind the plan's boundary cells.
use Rattle.std.proofs.Common.{◌≡◌, ℕ, List, slice_get, Option, Some, sym, subst, inl, inr, arith}
use Rattle.std.proofs.lemmas.List.{length-append}
use Rattle.std.proofs.lemmas.List.Elements.{All-from_recursion}
use Rattle.list_laws.proofs.Options.{some_same}
use Rattle.cell_library.specs.declared.codes.Function.{Function}
use Rattle.netlist_model.specs.declared.NetId.{NetId}
use Rattle.netlist_model.specs.declared.Feed.{Feed}
use Rattle.netlist_model.specs.Lists.{NetView}
use Rattle.netlist_model.proofs.Ports.{bit_has_direction}
use Rattle.netlist_model.proofs.Inside.{driver_found}
use Rattle.netlist_link.specs.Linked.{LinkedView}
use Rattle.plan_texts.specs.declared.plan.Plan.{Plan}
use Rattle.core_sides.specs.plan_fitting.declared.fitted.FitRow.{FitRow}
use Rattle.core_sides.specs.plan_fitting.Pins.{PinSeen}
use Rattle.core_sides.specs.plan_fitting.Rows.{rows, has_highz}
use Rattle.core_sides.specs.plan_fitting.FittingPlan.{IsFitting}
use Rattle.core_sides.proofs.plan_fitting.DevicesLists.{all_from_places, none_there}
use Rattle.core_sides.proofs.plan_fitting.Lined.{IsLined}
use Rattle.core_sides.proofs.plan_fitting.Rows.{IsDataRow, side_driver, data_function}
use Rattle.core_sides.proofs.plan_fitting.DevicesDrivers.{seen_direction, seen_driver}
use Rattle.core_sides.proofs.plan_fitting.DevicesFacts.{Facts, facts_of}
use Rattle.core_sides.specs.stitched_netlist.Sites.{row_net, site_of, site_by, is_own_net}
use Rattle.core_sides.specs.stitched_netlist.Stitched.{with_nets}
use Rattle.core_sides.specs.Pins.{IsPinThere}
use Rattle.core_sides.specs.Ready.{IsDrivenAt, HasControl}
use Rattle.written_netlists.specs.ReadyLaws.{FittedCanStandBehind}
use Rattle.written_netlists.proofs.Driven.{side_driven}
use Rattle.written_netlists.proofs.Rows.{row_bit, one_row_a_net, net_of_data_row, pin_is_there, control_is_there}

-- a data row at its own net
data_driven : (L : LinkedView) (p : Plan) (seen : List PinSeen) (more : List NetView) → IsFitting L p seen → (row : FitRow) (d : IsDataRow (IsLined L) (has_highz p.opcodes) (rows p seen) row)
    → IsDrivenAt (with_nets more L.arena.lists) (site_of L.arena.lists.ports row) d.one.net.0
data_driven L p seen more fits row d =
    let N = L.arena.lists in
    let driver = side_driver (has_highz p.opcodes) d.one d.one.side in
    let At : Function → Option NetId → Option Feed → Type 0 = λ does net core. IsDrivenAt (with_nets more N) (site_by does row.cell (is_own_net net core)) d.one.net.0 in
    let here = side_driven N more fits.formed (has_highz p.opcodes) d.one (λ i found drives. seen_driver driver_found L fits.formed d.line.port d.one d.on.seen i found drives) d.one.side
    (seen_direction bit_has_direction L fits.formed d.line.port d.one d.on.seen) row.cell in
    subst (λ (does : Function). At does (row_net N.ports row) row.core) (sym d.does)
    (subst (λ (net : Option NetId). At (data_function d.one.side d.one.clock driver) net row.core) (sym (net_of_data_row L p seen row d))
    (subst (λ (core : Option Feed). At (data_function d.one.side d.one.clock driver) (Some d.one.net) core) (sym d.core) here))

row_driven : (L : LinkedView) (p : Plan) (seen : List PinSeen) (more : List NetView) → IsFitting L p seen → Facts L p seen → (k : ℕ) (row : FitRow) (net : NetId) → slice_get (rows p seen) k ≡ Some row
    → row_net L.arena.lists.ports row ≡ Some net → IsDrivenAt (with_nets more L.arena.lists) (site_of L.arena.lists.ports row) net.0
row_driven L p seen more fits facts k row net at has = elim (facts.each k row at) [
  | inl d ↦ (
      let same = some_same d.one.net net (row_net L.arena.lists.ports row) (net_of_data_row L p seen row d) has in
      subst (λ (n : NetId). IsDrivenAt (with_nets more L.arena.lists) (site_of L.arena.lists.ports row) n.0) same (data_driven L p seen more fits row d))
  | inr c ↦ (
      let bit = row_bit L.arena.lists row net has in absurd (none_there row.pin bit.0 c.pin bit.1))
]

pub fitted_can_stand_behind : FittedCanStandBehind
fitted_can_stand_behind L p seen more fits laid few room counted =
    let facts = facts_of bit_has_direction driver_found L p seen fits in
    let pins : (k : ℕ) (row : FitRow) → slice_get (rows p seen) k ≡ Some row → IsPinThere L.arena.lists.ports row = λ k row at. pin_is_there L p seen facts k row at in
    let joined = length-append L.arena.lists.nets more in
    record {
      pins = All-from_recursion (IsPinThere L.arena.lists.ports) (rows p seen) (all_from_places (IsPinThere L.arena.lists.ports) (rows p seen) pins);
      few = few;
      apart = λ j k one other net at there has too. one_row_a_net L p seen fits j k one other net at there has too;
      driven = λ k row net at has. row_driven L p seen more fits facts k row net at has;
      controls = All-from_recursion (HasControl (rows p seen)) (rows p seen) (all_from_places (HasControl (rows p seen)) (rows p seen) (λ k row at. control_is_there L p seen k row at));
      sides = omega (arith, joined, room);
      fits = counted;
      ports_before = λ port bit net at. (let low = laid.port_nets port bit net at in omega (arith, low));
      outputs_before = λ i found net drives. (let low = laid.outputs i found net (record { live = drives.live; output = drives.output }) in omega (arith, low));
    }
