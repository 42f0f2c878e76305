use Rattle.std.proofs.Common.{◌≡◌, ℕ, ◌∙◌, Bool, false, List, length, drop, replicate, ap, sym, subst}
use Rattle.list_laws.proofs.Lists.{front_of}
use Rattle.pin_plan.specs.Marks.{MarksHidden}
use Rattle.pin_plan.proofs.Marks.{marks_hidden}
use Rattle.pin_plan.proofs.hidden.hidden_marks.Goals as goal

pub returns : goal.returns
returns c =
    let L = c.args.linked.now in
    let marks = c.mark_ports.new.marks in
    let count : c.net_count.result ≡ length L.arena.lists.nets = rw c.netlist.ensures.netlist at c.net_count.ensures in
    let start : c.as_mut_slice.result.now ≡ replicate (length L.arena.lists.nets) false = c.as_mut_slice.ensures.value ∙ c.in_ok-marks.ensures.items_if_clones_equal (λ y h. h) ∙ ap (λ (n : ℕ). replicate n false) count in
    let are : MarksHidden L marks = marks_hidden L c.as_mut_slice.result.now marks start c.mark_ports.ensures in
    subst (MarksHidden L) (sym (front_of marks (drop (length marks) c.in_ok-marks.marks.items) c.in_ok-marks.marks.len (c.in_ok-marks.ensures.len ∙ count ∙ sym are.long))) are
