use Rattle.std.proofs.Common.{◌+◌, ◌++◌, ◌∷◌, [], ℕ, List, not, if◌then◌else◌, drop, ap, ◌∙◌}
use Rattle.texts.specs.Repeated.{has_name, seen}
use Rattle.box_tables.proofs.Steps.{left_next}
use Rattle.box_trees.proofs.FitLinks.{bad_next, bad_here}
use Rattle.box_trees.proofs.link_faults.bad_link.Goals as goal

pub loop-link-preserved : goal.loop-link-preserved
loop-link-preserved c =
    let links = c.args.links.now in
    let i = c.loop-link.link-index in
    let link = c.link-item.result in
    let old = seen c.loop-link.had in
    let name = c.as_bytes-name.ensures in
    bad_next c.args.nets.now c.args.ports.now c.args.whole c.in_ok-is_new.is_new c.is_bad_link.result old (seen c.note.new.table) link (drop i links) (drop (i + 1) links) (left_next links i link c.loop-link-test.true c.link-item.is)
    (c.in_ok-is_new.ensures.0 ∙ ap (λ (n : List ℕ). not (has_name old n)) name)
    (c.in_ok-is_new.ensures.1 ∙ ap (λ (n : List ℕ). if c.in_ok-is_new.is_new then old ++ n ∷ [] else old) name)
    c.is_bad_link.ensures c.if-is_bad_link.false
    ∙ c.loop-link.invariant

pub returns-then-is_bad_link : goal.returns-then-is_bad_link
returns-then-is_bad_link c =
    let links = c.args.links.now in
    let i = c.loop-link.link-index in
    let link = c.link-item.result in
    let old = seen c.loop-link.had in
    let name = c.as_bytes-name.ensures in
    bad_here c.args.nets.now c.args.ports.now c.args.whole c.in_ok-is_new.is_new c.is_bad_link.result old link (drop i links) (drop (i + 1) links) c.as_bytes-name.result.now (left_next links i link c.loop-link-test.true c.link-item.is)
    (c.in_ok-is_new.ensures.0 ∙ ap (λ (n : List ℕ). not (has_name old n)) name)
    c.is_bad_link.ensures c.if-is_bad_link.true name
    ∙ c.loop-link.invariant
