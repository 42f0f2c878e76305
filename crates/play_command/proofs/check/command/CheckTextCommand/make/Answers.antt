use Rattle.std.proofs.Common.{◌≡◌, ◌∷◌, ℕ, List, inl, inr, sym, subst}
use Rattle.list_laws.proofs.Options.{err_is}
use Rattle.command_faults.specs.declared.status.Status.TheVariants as status
use Rattle.command_faults.specs.Statuses.{status_of}
use Rattle.play_command.specs.CheckTasks.{AreChecked, AreCheckableTexts, HaveFault}
use Rattle.play_command.proofs.CheckComplete.{Laws, all_memory}
use Rattle.play_command.proofs.check.command.CheckTextCommand.make.Goals as goal

-- of the library's text
pub returns-in_err-net-clause-fault : goal.returns-in_err-net-clause-fault
returns-in_err-net-clause-fault c =
    let bad = c.in_err-net.ensures.fault in
    err_is c.from_residual.result c.in_err-net.field-0.0 (HaveFault c.args.texts.now) c.from_residual.ensures.1
    (subst (λ (ts : List (List ℕ)). HaveFault ts c.in_err-net.field-0.0) (sym bad.are) (inl bad.stands))

pub returns-in_err-net-clause-free : goal.returns-in_err-net-clause-free
returns-in_err-net-clause-free c =
    let bad = c.in_err-net.ensures.fault in
    let laws : Laws = record {
      links = c.faults_forbid_links.ensures;
      once = c.texts_of_events_are_spelled_or_at_fault.ensures.once;
      faultless = c.texts_of_events_are_spelled_or_at_fault.ensures.faultless;
      one_library = c.texts_of_libraries_are_spelled_or_at_fault.ensures.once;
      no_library_fault = c.texts_of_libraries_are_spelled_or_at_fault.ensures.faultless;
    } in
    err_is c.from_residual.result c.in_err-net.field-0.0 (λ f. AreCheckableTexts c.args.texts.now → status_of f ≡ status.Memory) c.from_residual.ensures.1
    (λ free. all_memory laws c.in_err-net.field-0.0 c.args.texts.now free
    (subst (λ (ts : List (List ℕ)). HaveFault ts c.in_err-net.field-0.0) (sym bad.are) (inl bad.stands)))

-- of the others
pub returns-in_err-checked-clause-fault : goal.returns-in_err-checked-clause-fault
returns-in_err-checked-clause-fault c =
    let taken = c.in_ok-net.ensures.taken in
    err_is c.from_residual-in_err-checked.result c.in_err-checked.field-0.0 (HaveFault c.args.texts.now) c.from_residual-in_err-checked.ensures.1
    (subst (λ (ts : List (List ℕ)). HaveFault ts c.in_err-checked.field-0.0) (sym taken.are) (inr (c.in_ok-net.library, (taken.is, c.in_err-checked.ensures.fault))))

pub returns-in_err-checked-clause-free : goal.returns-in_err-checked-clause-free
returns-in_err-checked-clause-free c =
    let taken = c.in_ok-net.ensures.taken in
    let laws : Laws = record {
      links = c.faults_forbid_links.ensures;
      once = c.texts_of_events_are_spelled_or_at_fault.ensures.once;
      faultless = c.texts_of_events_are_spelled_or_at_fault.ensures.faultless;
      one_library = c.texts_of_libraries_are_spelled_or_at_fault.ensures.once;
      no_library_fault = c.texts_of_libraries_are_spelled_or_at_fault.ensures.faultless;
    } in
    err_is c.from_residual-in_err-checked.result c.in_err-checked.field-0.0 (λ f. AreCheckableTexts c.args.texts.now → status_of f ≡ status.Memory) c.from_residual-in_err-checked.ensures.1
    (λ free. all_memory laws c.in_err-checked.field-0.0 c.args.texts.now free
    (subst (λ (ts : List (List ℕ)). HaveFault ts c.in_err-checked.field-0.0) (sym taken.are) (inr (c.in_ok-net.library, (taken.is, c.in_err-checked.ensures.fault)))))

pub returns-clause-made : goal.returns-clause-made
returns-clause-made c =
    let taken = c.in_ok-net.ensures.taken in
    let checked = c.in_ok-checked.checked in
    subst (λ (ts : List (List ℕ)). AreChecked ts c.new.result checked.text c.status_after.result) (sym taken.are)
    (c.in_ok-net.library, (taken.is, (checked.missed, (c.in_ok-checked.ensures.checked, c.status_after.ensures.status))))
