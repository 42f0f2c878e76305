use Rattle.std.proofs.Common.{◌≡◌, [], ◌∷◌, ℕ, List, inl, inr, sym, subst}
use Rattle.list_laws.proofs.Options.{err_is}
use Rattle.command_faults.specs.declared.status.Status.TheVariants as status
use Rattle.command_faults.specs.Statuses.{status_of}
use Rattle.text_command.specs.FlattenTasks.{AreFlattenable, HaveFault}
use Rattle.text_command.proofs.FlattenComplete.{Laws, all_memory}
use Rattle.text_command.proofs.flatten.command.FlattenTextCommand.make.Goals as goal

-- of the library's text
pub returns-in_err-text-clause-fault : goal.returns-in_err-text-clause-fault
returns-in_err-text-clause-fault c =
    let bad = c.in_err-text.ensures.fault in
    err_is c.from_residual.result c.in_err-text.field-0.0 (HaveFault c.args.self.top.now c.args.texts.now) c.from_residual.ensures.1
    (subst (λ (ts : List (List ℕ)). HaveFault c.args.self.top.now ts c.in_err-text.field-0.0) (sym bad.are) (inl bad.stands))

pub returns-in_err-text-clause-free : goal.returns-in_err-text-clause-free
returns-in_err-text-clause-free c =
    let bad = c.in_err-text.ensures.fault in
    let laws : Laws = record {
      one_library = c.texts_of_boxes_are_spelled_or_at_fault.ensures.once;
      no_library_fault = c.texts_of_boxes_are_spelled_or_at_fault.ensures.faultless;
    } in
    err_is c.from_residual.result c.in_err-text.field-0.0 (λ f. AreFlattenable c.args.self.top.now c.args.texts.now → status_of f ≡ status.Memory) c.from_residual.ensures.1
    (λ free. all_memory laws c.args.self.top.now c.in_err-text.field-0.0 c.args.texts.now free
    (subst (λ (ts : List (List ℕ)). HaveFault c.args.self.top.now ts c.in_err-text.field-0.0) (sym bad.are) (inl bad.stands)))

-- of the modules
pub returns-in_err-printed-clause-fault : goal.returns-in_err-printed-clause-fault
returns-in_err-printed-clause-fault c =
    let taken = c.in_ok-text.ensures.taken in
    err_is c.from_residual-in_err-printed.result c.in_err-printed.field-0.0 (HaveFault c.args.self.top.now c.args.texts.now) c.from_residual-in_err-printed.ensures.1
    (subst (λ (ts : List (List ℕ)). HaveFault c.args.self.top.now ts c.in_err-printed.field-0.0) (sym taken.are) (inr (c.in_ok-text.library, (taken.is, c.in_err-printed.ensures.fault))))

pub returns-in_err-printed-clause-free : goal.returns-in_err-printed-clause-free
returns-in_err-printed-clause-free c =
    let taken = c.in_ok-text.ensures.taken in
    let laws : Laws = record {
      one_library = c.texts_of_boxes_are_spelled_or_at_fault.ensures.once;
      no_library_fault = c.texts_of_boxes_are_spelled_or_at_fault.ensures.faultless;
    } in
    err_is c.from_residual-in_err-printed.result c.in_err-printed.field-0.0 (λ f. AreFlattenable c.args.self.top.now c.args.texts.now → status_of f ≡ status.Memory) c.from_residual-in_err-printed.ensures.1
    (λ free. all_memory laws c.args.self.top.now c.in_err-printed.field-0.0 c.args.texts.now free
    (subst (λ (ts : List (List ℕ)). HaveFault c.args.self.top.now ts c.in_err-printed.field-0.0) (sym taken.are) (inr (c.in_ok-text.library, (taken.is, c.in_err-printed.ensures.fault)))))
