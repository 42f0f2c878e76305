use Rattle.status_fitting.proofs.WireWords.{entered_if, none_entered}
use Rattle.status_fitting.proofs.wires.enter_net.Goals as goal

pub returns-in-Some : goal.returns-in-Some
returns-in-Some c =
    entered_if c.args.linked.now.arena.lists c.args.net c.in-Some.key c.args.nets.now.entries c.enter_key.new.nets.entries c.enter_key.result c.in-Some.ensures c.requires.before c.enter_key.ensures

pub returns-in-None : goal.returns-in-None
returns-in-None c = none_entered c.args.linked.now.arena.lists c.args.net.0 c.args.nets.now.entries c.in-None.ensures c.requires.before
