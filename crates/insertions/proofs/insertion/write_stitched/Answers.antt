use Rattle.std.proofs.Common.{subst, ap, ◌∙◌}
use Rattle.netlist_model.specs.Formed.{IsLaidOut}
use Rattle.netlist_arena.specs.Arena.{ArenaView}
use Rattle.netlist_link.specs.declared.straight.Straight.{Straight}
use Rattle.netlist_link.specs.Linked.{LinkedView}
use Rattle.insertions.proofs.Made.{can_stitch, free_prefix, device_kept, insertions_made}
use Rattle.insertions.proofs.insertion.write_stitched.Goals as goal

pub stitch-requires : goal.stitch-requires
stitch-requires c =
    let r = c.requires in
    let made = c.args.fitting.now in
    can_stitch c.fitted_is_fitting.ensures r.library r.net r.text r.before c.args.linked.now made.plan made.fitted made.device r.netlist r.fitting

pub write_texts-requires-clause-prefix : goal.write_texts-requires-clause-prefix
write_texts-requires-clause-prefix c =
    let r = c.requires in
    let made = c.args.fitting.now in
    free_prefix c.stitched_can_be_written.ensures r.library r.net r.text r.before c.args.linked.now c.stitch.new.linked made.plan made.fitted made.device r.netlist r.laid r.fitting c.stitch.ensures.stitched

pub write_texts-requires-clause-device : goal.write_texts-requires-clause-device
write_texts-requires-clause-device c =
    let r = c.requires in
    let made = c.args.fitting.now in
    device_kept r.text r.before c.args.linked.now made.plan made.fitted made.device r.fitting

pub write_texts-requires-clause-open : goal.write_texts-requires-clause-open
write_texts-requires-clause-open c =
    let r = c.requires in
    ap (λ (s : Straight). s.count)
    (c.stitch.ensures.stitched.marks.straight ∙ ap (λ (L : LinkedView). L.straight) r.fitting.prepares.after_is ∙ r.netlist.hides.straight)

pub returns : goal.returns
returns c = λ library net text before is laid fitting.
    let made = c.args.fitting.now in
    let laid_after = subst (λ (a : ArenaView). IsLaidOut a.lists) c.netlist.ensures.netlist c.is_laid_out.ensures.laid_out in
    insertions_made c.texts_of_plans_are_spelled_or_at_fault.ensures.once c.stitched_is_written.ensures c.written_realises.ensures c.written_is_alone.ensures c.written_has_controls.ensures c.written_finds_home.ensures c.written_is_alone_from_home.ensures library net text c.write_texts.result
    before c.args.linked.now c.stitch.new.linked made.plan made.fitted made.device is laid laid_after fitting c.stitch.ensures.stitched
    c.write_texts.ensures.netlist c.write_texts.ensures.bsdl c.write_texts.ensures.report
