use Rattle.std.proofs.Common.{ℕ, false, ◌∙◌, ap, arith}
use Rattle.std.specs.Prelude.{replicate}
use Rattle.status_fitting.proofs.DrivenNets.{all_driven, no_driven}
use Rattle.status_fitting.proofs.driven.driven_nets.Goals as goal

pub loop-number-init : goal.loop-number-init
loop-number-init c = no_driven c.args.netlist.now.lists c.in_ok-driven.driven.items (c.in_ok-driven.ensures ∙ ap (λ (n : ℕ). replicate n false) c.net_count.ensures)

pub returns : goal.returns
returns c =
    all_driven c.args.netlist.now.lists c.loop-number.number c.loop-number.driven.items
    (λ i live. let low = c.cell_bound-number-end.ensures i live in omega (arith, low, c.loop-number-test.false)) c.loop-number.invariant
