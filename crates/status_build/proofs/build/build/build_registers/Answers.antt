use Rattle.std.proofs.Common.{◌≡◌, ℕ, ◌+◌, length, ap, ◌∙◌, arith}
use Rattle.netlist_model.specs.declared.NetId.{NetId}
use Rattle.netlist_model.specs.declared.Feed.TheVariants.{Net}
use Rattle.netlist_arena.specs.Moves.{connected}
use Rattle.status_gates.proofs.PartsAdded.{shown_below}
use Rattle.status_build.proofs.Built.{operand_stays, built_on}
use Rattle.status_build.proofs.build.build.build_registers.Goals as goal

pub connect-requires-clause-operand : goal.connect-requires-clause-operand
connect-requires-clause-operand c =
    operand_stays c.appended_grows.ensures c.args.netlist.now c.add_status-shown.new.netlist _ _ c.args.through.0 c.add_status-shown.ensures.added c.requires.gate

pub connect-requires-clause-feed : goal.connect-requires-clause-feed
connect-requires-clause-feed c =
    let many = c.appended_count.ensures c.args.netlist.now c.add_status-shown.new.netlist _ _ c.add_status-shown.ensures.added in
    let bit = c.requires.can.bit in
    shown_below (length c.args.netlist.now.lists.nets + c.args.bits) (length c.add_status-shown.new.netlist.lists.nets) c.args.bypass c.args.registers.now c.add_status-shown.result
    c.add_status-shown.ensures.shown (omega (arith, many, bit)) (omega (arith, many))

pub returns-clause-built : goal.returns-clause-built
returns-clause-built c =
    built_on c.constants_are_bits.ensures c.appended_grows.ensures c.numbers_of_a_dense_netlist.ensures c.args.netlist.now c.add_status-shown.new.netlist c.connect.new.self.lists c.args.shared.now c.args.bypass
    c.add_status-shown.result c.args.bits c.args.through.0 c.args.registers.now c.requires.dense c.requires.gate c.add_status-shown.ensures.added c.add_status-shown.ensures.shown c.connect.ensures.lists

pub returns-clause-formed : goal.returns-clause-formed
returns-clause-formed c = λ formed opened some proper read.
    (let is = c.connect.ensures.lists
    ∙ ap (λ (n : NetId). connected c.args.through.0 0 (Net n) c.add_status-shown.new.netlist.lists) c.add_status-shown.ensures.shown in
    c.status_is_formed.ensures c.args.netlist.now c.add_status-shown.new.netlist c.connect.new.self.lists c.args.shared.now c.args.bypass c.args.bits c.args.through.0 c.args.registers.now
    c.add_status-shown.ensures.laid_out formed c.add_status-shown.ensures.driven_once c.add_status-shown.ensures.added c.requires.can.inverses opened some proper read is)

pub returns-clause-named : goal.returns-clause-named
returns-clause-named c = λ table named opened.
    (let is = c.connect.ensures.lists
    ∙ ap (λ (n : NetId). connected c.args.through.0 0 (Net n) c.add_status-shown.new.netlist.lists) c.add_status-shown.ensures.shown in
    c.status_is_named.ensures table c.args.netlist.now c.add_status-shown.new.netlist c.connect.new.self.lists c.args.shared.now c.args.bypass c.args.bits c.args.through.0 c.args.registers.now
    c.add_status-shown.ensures.laid_out named c.add_status-shown.ensures.added opened is)
