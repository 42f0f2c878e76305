use Rattle.std.proofs.Common.{◌≡◌, ◌∙◌, ◌++◌, ℕ, List, true, false, length, Some, None, refl, ap, sym, append-nil}
use Rattle.std.specs.Prelude.{slice_get}
use Rattle.std.proofs.lemmas.Option.{slice_get_read}
use Rattle.verilog_tree.specs.declared.tree.Link.{Link}
use Rattle.verilog_tree.specs.declared.tree.Port.{Port}
use Rattle.verilog_tree.specs.declared.tree.Item.{Item}
use Rattle.link_model.specs.Cells.{linked_operand}
use Rattle.hier_model.specs.Walks.{texts}
use Rattle.hier_model.specs.Entries.{Place, place, inwards, is_in}
use Rattle.hier_flatten.specs.Joins.{input_items}
use Rattle.hier_flatten.proofs.Joined.{links_next, port_skipped, port_empty, port_linked}
use Rattle.hier_flatten.proofs.joins.push_inputs.Goals.{then-is_input+in-Some+in_ok-push_inwards, then-is_input+in_default, else-is_input}
use Rattle.hier_flatten.proofs.joins.push_inputs.Goals as goal

pub loop-port-preserved : goal.loop-port-preserved
loop-port-preserved c =
    let outer : Place = place (texts c.args.sides.outer.now) c.args.sides.nets.now in
    let inner : Place = place (texts c.args.sides.inner.now) c.args.sides.child.now in
    let m = c.args.sides.nets.now in
    let i = c.args.instance.now in
    let ports = c.args.sides.child.now.ports in
    let listed = c.as_slice-port-items.result.now in
    let k = c.loop-port.port-index in
    let p : Port = c.port-item.result in
    let old = c.loop-port.items in
    let at : slice_get ports k ≡ Some p = ap (λ (l : List Port). slice_get l k) (sym c.as_slice-port-items.ensures) ∙ slice_get_read listed (length listed) k p refl c.loop-port-test.true c.port-item.is in
    let made = links_next is_in (inwards outer inner) m i ports k p old c.if-is_input.items (c.args.items.now ++ input_items outer inner i) at c.loop-port.invariant in
    let links = c.in_ok-links.ensures in
    let own = c.as_slice.ensures in
    let view = c.links.view_is in
    elim c.if-is_input.branch [
      | then-is_input+in-Some+in_ok-push_inwards w ↦
          let passes : is_in p.dir ≡ true = sym c.is_input.ensures ∙ w.if-is_input.true in
          let name = w.as_bytes.ensures in
          let told = w.in-Some.ensures in
          let some : linked_operand i.links p.name ≡ Some w.in-Some.operand.now = cc in
          made (w.items-is ∙ w.in_ok-push_inwards.ensures ∙ ap (λ (l : List Item). old ++ l) (sym (port_linked is_in (inwards outer inner) m i p w.in-Some.operand.now passes some)))
      | then-is_input+in_default w ↦
          let name = w.as_bytes.ensures in
          let none : linked_operand i.links p.name ≡ None =
          ap (λ (n : List ℕ). linked_operand i.links n) (sym name) ∙ ap (λ (ls : List Link). linked_operand ls w.as_bytes.result.now) (sym own ∙ sym links) ∙ sym w.in_default.ensures in
          made (w.items-is ∙ sym (append-nil old) ∙ ap (λ (l : List Item). old ++ l) (sym (port_empty is_in (inwards outer inner) m i p none)))
      | else-is_input w ↦
          let barred : is_in p.dir ≡ false = sym c.is_input.ensures ∙ w.if-is_input.false in
          made (w.items-is ∙ sym (append-nil old) ∙ ap (λ (l : List Item). old ++ l) (sym (port_skipped is_in (inwards outer inner) m i p barred)))
    ]
