use Rattle.plan_texts.proofs.Printed.{head_text, on_ok}
use Rattle.plan_texts.proofs.printer.put_head.Goals as goal

pub returns : goal.returns
returns c = on_ok c.put_registers.result c.put_registers.ensures
    (λ h. head_text c.args.text.now c.put_names.new.text c.put_tap_lines.new.text c.put_registers.new.text c.args.plan.now c.in_ok-put_names.ensures c.in_ok-put_tap_lines.ensures h)
