use Rattle.std.proofs.Common.{◌≡◌, sym, ap, ◌∙◌, subst}
use Rattle.netlist_unlink.specs.Prefixes.{IsFreePrefix}
use Rattle.netlist_unlink.specs.Trees.{tree_of}
use Rattle.scan_strip.specs.Stripped.{IsMadeAgain}
use Rattle.scan_strip.proofs.MadeAgain.{can_stitch, free_prefix, made_again}
use Rattle.scan_strip.proofs.Whole.{ok_with}
use Rattle.scan_strip.proofs.again.insert_again.Goals as goal

pub stitch-requires : goal.stitch-requires
stitch-requires c =
    let r = c.requires in
    let made = c.args.fitting.now in
    can_stitch c.fitted_is_fitting.ensures r.text r.before c.args.linked.now made.plan made.fitted made.device r.tree r.fitting

pub unlink-requires : goal.unlink-requires
unlink-requires c =
    let r = c.requires in
    let made = c.args.fitting.now in
    subst (IsFreePrefix c.stitch.new.linked) (sym c.as_bytes.ensures)
    (free_prefix c.stitched_can_be_written.ensures c.link_view_is_laid_out.ensures r.text r.before c.args.linked.now c.stitch.new.linked made.plan made.fitted made.device r.tree r.fitting c.stitch.ensures.stitched)

pub returns : goal.returns
returns c = λ text before is fitting.
    let made = c.args.fitting.now in
    ok_with c.unlink.result (λ tree. tree ≡ tree_of c.stitch.new.linked c.as_bytes.result.now) (IsMadeAgain before made.plan made.fitted)
    (λ tree told. made_again text before c.args.linked.now c.stitch.new.linked made.plan made.fitted made.device tree fitting c.stitch.ensures.stitched
    (told ∙ ap (tree_of c.stitch.new.linked) c.as_bytes.ensures)) c.unlink.ensures.written
