use Rattle.std.proofs.Common.{position, ◌∙◌, ap}
use Rattle.std.specs.Str.{bytes_eq}
use Rattle.verilog_tree.specs.declared.tree.Port.{Port}
use Rattle.verilog_tree.specs.declared.tree.Module.{Module}
use Rattle.hier_flatten.proofs.nets.NetTable.port_place.Goals as goal

pub returns : goal.returns
returns c =
    c.copied.ensures ∙ c.get.ensures.value ∙ c.self.invariant.ports_are c.args.name.now
    ∙ ap (λ (m : Module). position (λ (p : Port). bytes_eq c.args.name.now p.name) m.ports) c.self.view_is
