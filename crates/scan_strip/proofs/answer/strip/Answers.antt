use Rattle.std.proofs.Common.{◌≡◌, List, ap, ◌∙◌, subst}
use Rattle.list_laws.proofs.Options.{err_is}
use Rattle.cell_library.specs.declared.listed.ListedCell.{ListedCell}
use Rattle.netlist_arena.specs.Arena.{ArenaView}
use Rattle.strip_model.specs.Answer.{IsNotInserted}
use Rattle.scan_strip.specs.declared.fault.StripFault.TheVariants.{NotInserted}
use Rattle.scan_strip.specs.Stripped.{IsStripped}
use Rattle.scan_strip.proofs.Whole.{stripped, tree_links}
use Rattle.scan_strip.proofs.answer.strip.Goals as goal

pub link_core-requires : goal.link_core-requires
link_core-requires c = c.in_ok-stripped.ensures.stripped.gives.is

pub returns-in_err-stripped-clause-refused : goal.returns-in_err-stripped-clause-refused
returns-in_err-stripped-clause-refused c =
    let same = c.library-library.ensures ∙ ap (λ (a : ArenaView). a.lists.library) c.netlist.ensures.netlist in
    err_is c.from_residual.result c.in_err-stripped.field-0.0 (λ f. f ≡ NotInserted → IsNotInserted c.args.linked.now.arena.lists.library c.args.inserted.now c.args.device.now)
    c.from_residual.ensures.1
    (λ told. subst (λ (library : List ListedCell). IsNotInserted library c.args.inserted.now c.args.device.now) same (c.in_err-stripped.ensures.refused told))

pub returns-in_err-core-clause-refused : goal.returns-in_err-core-clause-refused
returns-in_err-core-clause-refused c =
    let found = c.in_ok-stripped.stripped in
    err_is c.from_residual-in_err-core.result c.in_err-core.field-0.0 (λ f. f ≡ NotInserted → IsNotInserted c.args.linked.now.arena.lists.library c.args.inserted.now c.args.device.now)
    c.from_residual-in_err-core.ensures.1
    (λ told. absurd (c.in_err-core.ensures.fault told (tree_links _ found.module found.plan c.args.inserted.now c.args.device.now c.in_ok-stripped.ensures.stripped)))

pub returns-clause-stripped : goal.returns-clause-stripped
returns-clause-stripped c =
    let found = c.in_ok-stripped.stripped in
    let same = c.library-library.ensures ∙ ap (λ (a : ArenaView). a.lists.library) c.netlist.ensures.netlist in
    subst (λ (library : List ListedCell). IsStripped library c.args.inserted.now c.args.device.now c.in_ok-core.core found.plan) same
    (stripped c.link_views_agree.ensures c.gives_by_the_view.ensures _ found.module found.plan c.in_ok-core.core c.args.inserted.now c.args.device.now c.in_ok-stripped.ensures.stripped
    c.in_ok-core.ensures.linked c.in_ok-core.ensures.library c.in_ok-core.ensures.hides)
