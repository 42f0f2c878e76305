use Rattle.std.proofs.Common.{◌≡◌, ℕ, ◌+◌, ◌-◌, List, length, sym, ◌∙◌, ap, subst, arith}
use Rattle.netlist_model.specs.Lists.{PortView, NetlistView}
use Rattle.netlist_arena.specs.Arena.{SpareView}
use Rattle.plan_fitting.specs.declared.fitted.FitRow.{FitRow}
use Rattle.stitched_netlist.specs.Sites.{sides_of}
use Rattle.stitched_netlist.specs.Stitched.{with_nets}
use Rattle.written_netlists.specs.core_sides.Pins.{ArePinsThere, AreFew}
use Rattle.scan_stitch.specs.Stitched.{nets_around}
use Rattle.scan_stitch.proofs.Joined.{nets_joined, first_is, can_stand, surrounded_is}
use Rattle.scan_stitch.proofs.parts.surround.Goals as goal

pub sides_of-count-requires-clause-pins : goal.sides_of-count-requires-clause-pins
sides_of-count-requires-clause-pins c =
    let P : List PortView → List FitRow → Type 0 = λ ps rs. ArePinsThere ps rs in
    subst (λ (ps : List PortView). P ps c.as_slice-rows.result.now) (sym (ap (λ (L : NetlistView). L.ports) c.add_port_nets-port.ensures.lists))
    (subst (λ (rs : List FitRow). P c.args.netlist.now.lists.ports rs) (sym c.as_slice-rows.ensures) c.requires.can.stands.pins)

pub sides_of-count-requires-clause-few : goal.sides_of-count-requires-clause-few
sides_of-count-requires-clause-few c = let P : List FitRow → Type 0 = λ rs. AreFew rs in subst P (sym c.as_slice-rows.ensures) c.requires.can.stands.few

pub add_sides-first-requires : goal.add_sides-first-requires
add_sides-first-requires c =
    let few = c.sides_of-count.ensures.few in
    let long : length c.as_slice-rows.result.now ≡ length c.args.fitted.now.rows = ap length c.as_slice-rows.ensures in
    let room = c.requires.room.nets in
    let spare = ap (λ (S : SpareView). S.nets) c.add_port_nets-port.ensures.spare in
    omega arith

pub stand_behind-requires : goal.stand_behind-requires
stand_behind-requires c =
    let counted : c.sides_of-count.result ≡ sides_of c.args.netlist.now.lists.ports c.args.fitted.now.rows
    = c.sides_of-count.ensures.value ∙ ap (λ (ps : List PortView). sides_of ps c.as_slice-rows.result.now) (ap (λ (L : NetlistView). L.ports) c.add_port_nets-port.ensures.lists) ∙ ap (λ (rs : List FitRow). sides_of c.args.netlist.now.lists.ports rs) c.as_slice-rows.ensures in
    let joined : c.add_sides-first.new.netlist.lists ≡ with_nets (nets_around c.args.netlist.now.lists c.args.names.now c.args.fitted.now.rows) c.args.netlist.now.lists
    = nets_joined c.args.netlist.now.lists c.add_port_nets-port.new.netlist.lists c.add_sides-first.new.netlist.lists c.args.names.now c.args.fitted.now.rows c.sides_of-count.result c.add_port_nets-port.ensures.lists counted c.add_sides-first.ensures.lists in
    let at : c.add_sides-first.result.0 ≡ length c.args.netlist.now.lists.nets + 5 = first_is c.args.netlist.now.lists c.add_port_nets-port.new.netlist.lists c.args.names.now c.add_sides-first.result c.add_port_nets-port.ensures.lists c.add_sides-first.ensures.first in
    can_stand c.args.netlist.now.lists c.add_sides-first.new.netlist.lists c.args.names.now c.args.fitted.now c.as_slice-rows.result.now c.add_sides-first.result c.requires.can c.as_slice-rows.ensures joined at

pub overflow_add-end : goal.overflow_add-end
overflow_add-end c =
    let counted : c.sides_of-count.result ≡ sides_of c.args.netlist.now.lists.ports c.args.fitted.now.rows
    = c.sides_of-count.ensures.value ∙ ap (λ (ps : List PortView). sides_of ps c.as_slice-rows.result.now) (ap (λ (L : NetlistView). L.ports) c.add_port_nets-port.ensures.lists) ∙ ap (λ (rs : List FitRow). sides_of c.args.netlist.now.lists.ports rs) c.as_slice-rows.ensures in
    let joined : c.add_sides-first.new.netlist.lists ≡ with_nets (nets_around c.args.netlist.now.lists c.args.names.now c.args.fitted.now.rows) c.args.netlist.now.lists
    = nets_joined c.args.netlist.now.lists c.add_port_nets-port.new.netlist.lists c.add_sides-first.new.netlist.lists c.args.names.now c.args.fitted.now.rows c.sides_of-count.result c.add_port_nets-port.ensures.lists counted c.add_sides-first.ensures.lists in
    let at : c.add_sides-first.result.0 ≡ length c.args.netlist.now.lists.nets + 5 = first_is c.args.netlist.now.lists c.add_port_nets-port.new.netlist.lists c.args.names.now c.add_sides-first.result c.add_port_nets-port.ensures.lists c.add_sides-first.ensures.first in
    let few = c.sides_of-count.ensures.few in
    let long : length c.as_slice-rows.result.now ≡ length c.args.fitted.now.rows = ap length c.as_slice-rows.ensures in
    let fits = c.requires.can.stands.fits in
    omega arith

pub returns-clause-first : goal.returns-clause-first
returns-clause-first c =
    first_is c.args.netlist.now.lists c.add_port_nets-port.new.netlist.lists c.args.names.now c.add_sides-first.result c.add_port_nets-port.ensures.lists c.add_sides-first.ensures.first

pub returns-clause-end : goal.returns-clause-end
returns-clause-end c =
    let counted : c.sides_of-count.result ≡ sides_of c.args.netlist.now.lists.ports c.args.fitted.now.rows
    = c.sides_of-count.ensures.value ∙ ap (λ (ps : List PortView). sides_of ps c.as_slice-rows.result.now) (ap (λ (L : NetlistView). L.ports) c.add_port_nets-port.ensures.lists) ∙ ap (λ (rs : List FitRow). sides_of c.args.netlist.now.lists.ports rs) c.as_slice-rows.ensures in
    ap (λ (n : ℕ). c.add_sides-first.result.0 + n) counted

pub returns-clause-lists : goal.returns-clause-lists
returns-clause-lists c =
    let counted : c.sides_of-count.result ≡ sides_of c.args.netlist.now.lists.ports c.args.fitted.now.rows
    = c.sides_of-count.ensures.value ∙ ap (λ (ps : List PortView). sides_of ps c.as_slice-rows.result.now) (ap (λ (L : NetlistView). L.ports) c.add_port_nets-port.ensures.lists) ∙ ap (λ (rs : List FitRow). sides_of c.args.netlist.now.lists.ports rs) c.as_slice-rows.ensures in
    let joined : c.add_sides-first.new.netlist.lists ≡ with_nets (nets_around c.args.netlist.now.lists c.args.names.now c.args.fitted.now.rows) c.args.netlist.now.lists
    = nets_joined c.args.netlist.now.lists c.add_port_nets-port.new.netlist.lists c.add_sides-first.new.netlist.lists c.args.names.now c.args.fitted.now.rows c.sides_of-count.result c.add_port_nets-port.ensures.lists counted c.add_sides-first.ensures.lists in
    let at : c.add_sides-first.result.0 ≡ length c.args.netlist.now.lists.nets + 5 = first_is c.args.netlist.now.lists c.add_port_nets-port.new.netlist.lists c.args.names.now c.add_sides-first.result c.add_port_nets-port.ensures.lists c.add_sides-first.ensures.first in
    surrounded_is c.args.netlist.now.lists c.add_sides-first.new.netlist.lists c.stand_behind.new.netlist.lists c.args.names.now c.args.fitted.now.rows c.as_slice-rows.result.now c.add_sides-first.result c.as_slice-rows.ensures joined at c.stand_behind.ensures.lists

pub returns-clause-nets : goal.returns-clause-nets
returns-clause-nets c =
    let counted : c.sides_of-count.result ≡ sides_of c.args.netlist.now.lists.ports c.args.fitted.now.rows
    = c.sides_of-count.ensures.value ∙ ap (λ (ps : List PortView). sides_of ps c.as_slice-rows.result.now) (ap (λ (L : NetlistView). L.ports) c.add_port_nets-port.ensures.lists) ∙ ap (λ (rs : List FitRow). sides_of c.args.netlist.now.lists.ports rs) c.as_slice-rows.ensures in
    let few = c.sides_of-count.ensures.few in
    let long : length c.as_slice-rows.result.now ≡ length c.args.fitted.now.rows = ap length c.as_slice-rows.ensures in
    let room = c.requires.room.nets in
    let one = ap (λ (S : SpareView). S.nets) c.add_port_nets-port.ensures.spare in
    let two = ap (λ (S : SpareView). S.nets) c.add_sides-first.ensures.spare in
    let three = ap (λ (S : SpareView). S.nets) c.stand_behind.ensures.spare in
    omega arith

pub returns-clause-cells : goal.returns-clause-cells
returns-clause-cells c =
    ap (λ (S : SpareView). S.cells) c.stand_behind.ensures.spare ∙ ap (λ (S : SpareView). S.cells) c.add_sides-first.ensures.spare
    ∙ ap (λ (S : SpareView). S.cells) c.add_port_nets-port.ensures.spare

pub returns-clause-port_bits : goal.returns-clause-port_bits
returns-clause-port_bits c =
    ap (λ (S : SpareView). S.port_bits) c.stand_behind.ensures.spare ∙ ap (λ (S : SpareView). S.port_bits) c.add_sides-first.ensures.spare
    ∙ ap (λ (S : SpareView). S.port_bits) c.add_port_nets-port.ensures.spare
