use Rattle.std.proofs.Common.{◌≡◌, ◌∙◌, Option, None, ap, sym}
use Rattle.std.proofs.lemmas.Result.{IfOk-weaker}
use Rattle.list_laws.specs.Options.{or_else}
use Rattle.hier_model.specs.declared.fault.HierFault.{HierFault}
use Rattle.hier_model.specs.Faults.{bad_link_in, bad_name_in}
use Rattle.hier_flatten.specs.Flattened.{late_fault}
use Rattle.hier_flatten.proofs.flattened.find_late_fault.Goals as goal

pub returns-in-Some : goal.returns-in-Some
returns-in-Some c = ap (λ (o : Option HierFault). or_else o (bad_name_in c.args.tables.now c.args.top.now)) (sym c.in-Some.is ∙ c.in_ok-fault.ensures)

pub returns : goal.returns
returns c =
    let modules = c.args.tables.now in
    let top = c.args.top.now in
    let none : None ≡ bad_link_in modules top = sym c.in-None.is ∙ c.in_ok-fault.ensures in
    IfOk-weaker c.find_bad_name.result (λ f. f ≡ bad_name_in modules top) (λ f. f ≡ late_fault modules top) (λ f is. is ∙ ap (λ (o : Option HierFault). or_else o (bad_name_in modules top)) none) c.find_bad_name.ensures
