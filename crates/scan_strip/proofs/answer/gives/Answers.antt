use Rattle.std.proofs.Common.{◌≡◌}
use Rattle.list_laws.proofs.Options.{err_is}
use Rattle.strip_model.specs.Answer.{IsNotInserted}
use Rattle.scan_strip.specs.declared.fault.StripFault.TheVariants.{NotInserted}
use Rattle.scan_strip.specs.Stripped.{GivesBy}
use Rattle.scan_strip.proofs.Whole.{is_found, link_told, give_told, given_by, told_by}
use Rattle.scan_strip.proofs.answer.gives.Goals as goal

pub give_again-requires : goal.give_again-requires
give_again-requires c =
    is_found c.args.library.now c.args.core.now c.args.plan.now c.in_ok-linked.linked c.args.inserted.now c.args.device.now c.requires.core c.count-count.ensures.library c.in_ok-linked.ensures.linked
    c.in_ok-linked.ensures.library c.in_ok-linked.ensures.hides c.requires.found

pub returns-in_err-linked-clause-refused : goal.returns-in_err-linked-clause-refused
returns-in_err-linked-clause-refused c =
    err_is c.from_residual.result c.in_err-linked.field-0.0 (λ f. f ≡ NotInserted → IsNotInserted c.args.library.now c.args.inserted.now c.args.device.now) c.from_residual.ensures.1
    (link_told c.refused_by_all.ensures c.args.library.now c.args.core.now c.args.plan.now c.args.inserted.now c.args.device.now c.in_err-linked.field-0.0 c.requires.tree c.requires.found c.in_err-linked.ensures.fault)

pub returns-clause-gives : goal.returns-clause-gives
returns-clause-gives c =
    given_by c.give_again.result c.args.library.now c.args.core.now c.args.plan.now c.in_ok-linked.linked c.args.inserted.now c.args.device.now c.in_ok-linked.ensures.linked c.in_ok-linked.ensures.library
    c.in_ok-linked.ensures.hides c.give_again.ensures.gives

pub returns-clause-refused : goal.returns-clause-refused
returns-clause-refused c =
    told_by c.give_again.result (λ f. f ≡ NotInserted → GivesBy c.in_ok-linked.linked c.args.plan.now c.args.inserted.now c.args.device.now → ⊥)
    (λ f. f ≡ NotInserted → IsNotInserted c.args.library.now c.args.inserted.now c.args.device.now)
    (λ f. give_told c.refused_by_all.ensures c.link_views_agree.ensures c.gives_by_the_view.ensures c.args.library.now c.args.core.now c.args.plan.now c.in_ok-linked.linked c.args.inserted.now c.args.device.now
    f c.requires.tree c.requires.found c.in_ok-linked.ensures.linked c.in_ok-linked.ensures.library c.in_ok-linked.ensures.hides)
    c.give_again.ensures.fault
