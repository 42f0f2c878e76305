use Rattle.std.proofs.Common.{position, ◌∙◌, ap}
use Rattle.std.specs.Str.{bytes_eq}
use Rattle.verilog_tree.specs.declared.tree.Wire.{Wire}
use Rattle.verilog_tree.specs.declared.tree.Module.{Module}
use Rattle.hier_flatten.proofs.nets.NetTable.wire_place.Goals as goal

pub returns : goal.returns
returns c =
    c.copied.ensures ∙ c.get.ensures.value ∙ c.self.invariant.wires_are c.args.name.now
    ∙ ap (λ (m : Module). position (λ (w : Wire). bytes_eq c.args.name.now w.name) m.wires) c.self.view_is
