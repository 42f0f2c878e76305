use Rattle.std.proofs.Common.{subst, ap, ◌∙◌}
use Rattle.netlist_model.specs.Formed.{IsLaidOut}
use Rattle.netlist_arena.specs.Arena.{ArenaView}
use Rattle.netlist_link.specs.declared.straight.Straight.{Straight}
use Rattle.netlist_link.specs.Linked.{LinkedView}
use Rattle.status_insertions.proofs.Made.{Laws, can_stitch, free_prefix, extended_kept, insertions_made}
use Rattle.status_insertions.proofs.insertion.write_stitched.Goals as goal

pub stitch_status-requires : goal.stitch_status-requires
stitch_status-requires c =
    let r = c.requires in
    let made = c.args.fitting.now in
    can_stitch c.fitted_is_fitting.ensures r.library r.net r.text r.lines r.before c.args.linked.now made.plan made.fitted made.registers made.extended r.netlist r.fitting

pub write_texts-requires-clause-prefix : goal.write_texts-requires-clause-prefix
write_texts-requires-clause-prefix c =
    let r = c.requires in
    let made = c.args.fitting.now in
    free_prefix c.status_can_be_written.ensures r.library r.net r.text r.lines r.before c.args.linked.now c.stitch_status.new.linked made.plan made.fitted made.registers made.extended r.netlist r.laid r.fitting
    c.stitch_status.ensures.stitched

pub write_texts-requires-clause-extended : goal.write_texts-requires-clause-extended
write_texts-requires-clause-extended c =
    let r = c.requires in
    let made = c.args.fitting.now in
    extended_kept r.text r.lines r.before c.args.linked.now made.plan made.fitted made.registers made.extended r.fitting

pub write_texts-requires-clause-open : goal.write_texts-requires-clause-open
write_texts-requires-clause-open c =
    let r = c.requires in
    ap (λ (s : Straight). s.count)
    (c.stitch_status.ensures.stitched.marks.straight ∙ ap (λ (L : LinkedView). L.straight) r.fitting.prepares.after_is ∙ r.netlist.hides.straight)

pub returns : goal.returns
returns c = λ library net plan lines before is laid fitting.
    let made = c.args.fitting.now in
    let laid_after = subst (λ (a : ArenaView). IsLaidOut a.lists) c.netlist.ensures.netlist c.is_laid_out.ensures.laid_out in
    let laws : Laws = record {
      plans_once = c.texts_of_plans_are_spelled_or_at_fault.ensures.once;
      lines_once = c.texts_of_registers_are_spelled_or_at_fault.ensures.once;
      writes = c.status_is_written.ensures;
      realise = c.written_status_realises.ensures;
      single = c.written_status_is_alone.ensures;
      steer = c.written_status_has_controls.ensures;
      find = c.written_status_finds_home.ensures;
      stay = c.written_status_is_alone_from_home.ensures;
    } in
    insertions_made laws library net plan lines c.write_texts.result before c.args.linked.now c.stitch_status.new.linked made.plan made.fitted made.registers made.extended is laid laid_after fitting
    c.stitch_status.ensures.stitched c.write_texts.ensures.netlist c.write_texts.ensures.bsdl c.write_texts.ensures.report
