use Rattle.std.proofs.Common.{◌∙◌, ap, count_by}
use Rattle.std.specs.Str.{bytes_eq}
use Rattle.verilog_tree.specs.declared.tree.Module.{Module}
use Rattle.box_tables.specs.Nets.{times_declared}
use Rattle.box_tables.proofs.declarations.Declarations.times.Goals as goal

pub returns : goal.returns
returns c =
    c.times.ensures ∙ ap (count_by (bytes_eq c.args.name.now)) c.self.invariant.counts_are
    ∙ ap (λ (m : Module). times_declared m c.args.name.now) c.self.view_is
