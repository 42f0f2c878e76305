use Rattle.std.proofs.Common.{◌≡◌, ◌<◌, arith, length, ap, ◌∙◌, List}
use Rattle.cell_order.specs.declared.walk.Mark.{Mark}
use Rattle.cell_order.specs.Walk.{mark_at}
use Rattle.cell_order.proofs.Steps.{path_short}
use Rattle.cell_order.proofs.WalkSteps.{step_enter, top_inside, waits_unseen}
use Rattle.cell_order.proofs.order.wait_for.Goals as goal

pub look-requires : goal.look-requires
look-requires c =
    let w = c.args.walk.now in
    let low = top_inside c.args.netlist.now.lists w c.requires.last.place c.args.cell.0 c.requires.walk c.requires.last.there in
    let len = c.requires.walk.seen_len in
    omega (arith, low, len)

pub enter-requires-clause-short : goal.enter-requires-clause-short
enter-requires-clause-short c =
    let w = c.args.walk.now in
    let len = c.requires.walk.marks_len in
    let inside : c.args.wait.on.0 < length w.marks.items = omega (arith, len, c.requires.inside) in
    let told : c.mark_of.result ≡ mark_at w.marks.items c.args.wait.on.0 = c.mark_of.ensures ∙ ap (λ (m : List Mark). mark_at m c.args.wait.on.0) c.as_slice.ensures.value in
    rw (c.look.ensures.path, c.look.ensures.marks)
    (path_short c.args.netlist.now.lists w.marks.items w.seen.items w.path.items w.order.items c.requires.walk c.args.wait.on.0 inside
    (waits_unseen c.args.netlist.now.lists w.marks.items c.args.cell.0 c.args.wait c.requires.waits (λ e. c.in_default.not-OnPath (told ∙ e))))

pub returns-clause-found : goal.returns-clause-found
returns-clause-found c =
    let w = c.args.walk.now in
    let len = c.requires.walk.marks_len in
    let inside : c.args.wait.on.0 < length w.marks.items = omega (arith, len, c.requires.inside) in
    let told : c.mark_of.result ≡ mark_at w.marks.items c.args.wait.on.0 = c.mark_of.ensures ∙ ap (λ (m : List Mark). mark_at m c.args.wait.on.0) c.as_slice.ensures.value in
    step_enter c.args.netlist.now.lists w c.enter.new.self c.args.cell c.args.wait c.requires.walk c.requires.last c.requires.waits (λ e. c.in_default.not-OnPath (told ∙ e)) inside
    (rw c.look.ensures.marks at c.enter.ensures.marks) (c.enter.ensures.seen ∙ c.look.ensures.seen) (rw c.look.ensures.path at c.enter.ensures.path) (c.enter.ensures.order ∙ c.look.ensures.order)
