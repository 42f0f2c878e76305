use Rattle.plan_texts.proofs.Printed.{plan_text, on_ok}
use Rattle.plan_texts.proofs.printer.put_plan.Goals as goal

pub returns : goal.returns
returns c = on_ok c.put_linkage.result c.put_linkage.ensures
    (λ h. plan_text c.args.text.now c.put_head.new.text c.put_opcodes.new.text c.put_idcode.new.text c.put_usercode.new.text c.put_two.new.text c.put_pins.new.text c.put_linkage.new.text c.args.plan.now
    c.in_ok-put_head.ensures (rw c.as_slice.ensures at c.in_ok-put_opcodes.ensures) c.in_ok-put_idcode.ensures c.in_ok-put_usercode.ensures (rw c.cell_word.ensures at c.in_ok-put_two.ensures)
    (rw c.as_slice-2.ensures at c.in_ok-put_pins.ensures) (rw c.as_slice-3.ensures at h))
