use Rattle.std.proofs.Common.{sym, ◌∙◌}
use Rattle.netlist_link.specs.Linked.{hidden_ports}
use Rattle.box_links.specs.ThreeState.{first_hidden, flag_at, output_bit}
use Rattle.box_links.proofs.Firsts.{first_found, first_passed}
use Rattle.box_links.proofs.OutputBits.{hidden_bit}
use Rattle.box_links.proofs.three_state.flagged_hidden.Goals as goal

pub returns-in-Some : goal.returns-in-Some
returns-in-Some c =
    let L = c.args.linked.now in
    let test = output_bit L.names (flag_at c.args.flags.now) in
    let bit = hidden_bit L (flag_at c.args.flags.now) c.straight-straight.result c.loop-place.place c.in_ok-bit.field-0 c.straight-straight.ensures c.loop-place-test.true c.requires c.in_ok-bit.ensures in
    sym (first_found test (hidden_ports L) c.loop-place.place bit.0 c.in-Some.bit (first_hidden L (flag_at c.args.flags.now)) bit.1 (bit.2 ∙ c.in-Some.is) c.loop-place.invariant)

pub loop-place-preserved : goal.loop-place-preserved
loop-place-preserved c =
    let L = c.args.linked.now in
    let test = output_bit L.names (flag_at c.args.flags.now) in
    let bit = hidden_bit L (flag_at c.args.flags.now) c.straight-straight.result c.loop-place.place c.in_ok-bit.field-0 c.straight-straight.ensures c.loop-place-test.true c.requires c.in_ok-bit.ensures in
    first_passed test (hidden_ports L) c.loop-place.place bit.0 (first_hidden L (flag_at c.args.flags.now)) bit.1 (bit.2 ∙ c.in-None.is) c.loop-place.invariant
