use Rattle.std.proofs.Common.{◌∙◌, refl}
use Rattle.verilog_tree.specs.Trees.{range_eq}
use Rattle.box_tables.proofs.Wires.{one_declared, none_declared}
use Rattle.box_tables.proofs.declarations.Declarations.has_one_wire.Goals as goal

pub returns-in-None : goal.returns-in-None
returns-in-None c = none_declared c.args.self.now c.args.name.now c.args.range c.in-None.ensures

pub returns-in-Some : goal.returns-in-Some
returns-in-Some c =
    c.is_one.ensures ∙ one_declared c.args.self.now c.args.name.now c.args.range c.in-Some.wire.now c.times.result (range_eq c.in-Some.wire.now.range c.args.range) c.in-Some.ensures c.times.ensures refl
