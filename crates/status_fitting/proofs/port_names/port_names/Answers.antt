use Rattle.std.proofs.Common.{ℕ, false, ◌∙◌, ap}
use Rattle.std.specs.Prelude.{replicate}
use Rattle.status_fitting.proofs.PortNames.{no_port_noted}
use Rattle.status_fitting.proofs.port_names.port_names.Goals as goal

pub loop-number-init : goal.loop-number-init
loop-number-init c =
    no_port_noted c.args.linked.now.names c.args.linked.now.arena.lists c.in_ok-flags.flags.items (c.in_ok-flags.ensures ∙ ap (λ (n : ℕ). replicate n false) c.name_count.ensures)
