use Rattle.std.proofs.Common.{◌≡◌, ◌∷◌, ℕ, List, IfErr, IfOk, inl, inr, sym, subst}
use Rattle.list_laws.proofs.Options.{err_is}
use Rattle.command_edges.proofs.Results.{err_weaker}
use Rattle.command_faults.specs.declared.status.Status.TheVariants as status
use Rattle.command_faults.specs.Statuses.{status_of}
use Rattle.strip_command.specs.Faults.{StandsInInputs}
use Rattle.strip_command.specs.Tasks.{AreStripped, AreStrippable, HaveFault, IsStrippedTexts}
use Rattle.strip_command.proofs.Complete.{Laws, all_memory, ok_with}
use Rattle.strip_command.proofs.command.StripTextCommand.make.Goals as goal

-- of the library's text
pub returns-in_err-net-clause-fault : goal.returns-in_err-net-clause-fault
returns-in_err-net-clause-fault c =
    let bad = c.in_err-net.ensures.fault in
    err_is c.from_residual.result c.in_err-net.field-0.0 (HaveFault c.args.texts.now) c.from_residual.ensures.1
    (subst (λ (ts : List (List ℕ)). HaveFault ts c.in_err-net.field-0.0) (sym bad.are) (inl bad.stands))

pub returns-in_err-net-clause-free : goal.returns-in_err-net-clause-free
returns-in_err-net-clause-free c =
    let bad = c.in_err-net.ensures.fault in
    let laws : Laws = record {
      links = c.stripping_faults_stand_apart.ensures.links;
      one_library = c.stripping_faults_stand_apart.ensures.one_library;
      no_library_fault = c.stripping_faults_stand_apart.ensures.no_library_fault;
    } in
    err_is c.from_residual.result c.in_err-net.field-0.0 (λ f. AreStrippable c.args.texts.now → status_of f ≡ status.Memory) c.from_residual.ensures.1
    (λ free. all_memory laws c.in_err-net.field-0.0 c.args.texts.now free
    (subst (λ (ts : List (List ℕ)). HaveFault ts c.in_err-net.field-0.0) (sym bad.are) (inl bad.stands)))

-- of the others
pub returns-clause-made : goal.returns-clause-made
returns-clause-made c =
    let taken = c.in_ok-net.ensures.taken in
    subst (λ (ts : List (List ℕ)). IfOk c.stripped.result (λ made. AreStripped ts made.outputs made.put made.status)) (sym taken.are)
    (ok_with c.stripped.result (λ made. IsStrippedTexts c.in_ok-net.library c.in_ok-net.net c.in_ok-net.bsdl made.outputs made.put made.status)
    (λ made. AreStripped (c.in_ok-net.net ∷ c.in_ok-net.bsdl ∷ taken.more) made.outputs made.put made.status)
    (λ made is. (c.in_ok-net.library, (taken.is, is))) c.stripped.ensures.made)

pub returns-clause-fault : goal.returns-clause-fault
returns-clause-fault c =
    let taken = c.in_ok-net.ensures.taken in
    subst (λ (ts : List (List ℕ)). IfErr c.stripped.result (HaveFault ts)) (sym taken.are)
    (err_weaker c.stripped.result (StandsInInputs c.in_ok-net.library c.in_ok-net.net c.in_ok-net.bsdl)
    (HaveFault (c.in_ok-net.net ∷ c.in_ok-net.bsdl ∷ taken.more)) (λ f bad. inr (c.in_ok-net.library, (taken.is, bad))) c.stripped.ensures.fault)

pub returns-clause-free : goal.returns-clause-free
returns-clause-free c =
    let taken = c.in_ok-net.ensures.taken in
    let laws : Laws = record {
      links = c.stripping_faults_stand_apart.ensures.links;
      one_library = c.stripping_faults_stand_apart.ensures.one_library;
      no_library_fault = c.stripping_faults_stand_apart.ensures.no_library_fault;
    } in
    err_weaker c.stripped.result (StandsInInputs c.in_ok-net.library c.in_ok-net.net c.in_ok-net.bsdl) (λ f. AreStrippable c.args.texts.now → status_of f ≡ status.Memory)
    (λ f bad free. all_memory laws f c.args.texts.now free
    (subst (λ (ts : List (List ℕ)). HaveFault ts f) (sym taken.are) (inr (c.in_ok-net.library, (taken.is, bad))))) c.stripped.ensures.fault
