use Rattle.std.proofs.Common.{◌≡◌, ◌+◌, Bool, List, length, take, drop, refl, sym, ◌∙◌, subst}
use Rattle.std.proofs.lemmas.Option.{slice_get_read}
use Rattle.list_laws.proofs.Lists.{front_of}
use Rattle.scan_vectors.specs.declared.lines.Line.{Line}
use Rattle.scan_vectors.proofs.Flags.{take_push}
use Rattle.default_starts.specs.Found.{AreStarted}
use Rattle.default_starts.proofs.started.started_nets.Goals as goal

pub loop-line-preserved : goal.loop-line-preserved
loop-line-preserved c =
    let L = c.args.linked.now in
    let lines = c.args.lines.now in
    let k = c.loop-line.line-index in
    let flags = c.mark_line.new.flags in
    let old : AreStarted L (take k lines) c.as_mut_slice.result.now = subst (λ (f : List Bool). AreStarted L (take k lines) f) (sym c.as_mut_slice.ensures.value) c.loop-line.invariant in
    let next = c.mark_line.ensures (take k lines) old in
    let there = slice_get_read lines (length lines) k c.line-item.result refl c.loop-line-test.true c.line-item.is in
    let len : c.loop-line.flags.len ≡ length flags = sym c.as_mut_slice.ensures.len ∙ old.count ∙ sym next.count in
    subst (λ (f : List Bool). AreStarted L (take (k + 1) lines) f) (sym (front_of flags (drop (length flags) c.loop-line.flags.items) c.loop-line.flags.len len))
    (subst (λ (l : List Line). AreStarted L l flags) (sym (take_push lines k c.line-item.result there)) next)
