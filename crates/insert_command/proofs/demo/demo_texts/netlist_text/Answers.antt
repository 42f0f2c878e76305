use Rattle.std.proofs.Common.{◌≡◌, IfOk, subst}
use Rattle.verilog_tree.specs.declared.tree.Module.{Module}
use Rattle.verilog_tree.specs.Canonical.{canonical}
use Rattle.insert_command.proofs.demo.demo_texts.netlist_text.Goals as goal

pub returns : goal.returns
returns c = subst (λ (m : Module). IfOk c.print_module.result (λ text. text ≡ canonical m)) c.in_ok-tree.ensures c.print_module.ensures.text
