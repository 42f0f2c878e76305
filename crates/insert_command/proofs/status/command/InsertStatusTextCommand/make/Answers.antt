use Rattle.std.proofs.Common.{◌≡◌, ◌∷◌, ℕ, List, IfErr, IfOk, inl, inr, sym, subst}
use Rattle.list_laws.proofs.Options.{err_is}
use Rattle.command_edges.proofs.Results.{err_weaker}
use Rattle.command_faults.specs.declared.status.Status.TheVariants as status
use Rattle.command_faults.specs.Statuses.{status_of}
use Rattle.insert_command.specs.StatusFaults.{StandsInInputs}
use Rattle.insert_command.specs.StatusTasks.{AreInserted, AreInsertable, HaveFault, IsInserted}
use Rattle.insert_command.proofs.Complete.{ok_with}
use Rattle.insert_command.proofs.StatusComplete.{Laws, all_memory}
use Rattle.insert_command.proofs.status.command.InsertStatusTextCommand.make.Goals as goal

-- of the library's text
pub returns-in_err-net-clause-fault : goal.returns-in_err-net-clause-fault
returns-in_err-net-clause-fault c =
    let bad = c.in_err-net.ensures.fault in
    err_is c.from_residual.result c.in_err-net.field-0.0 (HaveFault c.args.texts.now) c.from_residual.ensures.1
    (subst (λ (ts : List (List ℕ)). HaveFault ts c.in_err-net.field-0.0) (sym bad.are) (inl bad.stands))

pub returns-in_err-net-clause-free : goal.returns-in_err-net-clause-free
returns-in_err-net-clause-free c =
    let bad = c.in_err-net.ensures.fault in
    let laws : Laws = record {
      links = c.status_faults_stand_apart.ensures.links;
      once = c.status_faults_stand_apart.ensures.once;
      faultless = c.status_faults_stand_apart.ensures.faultless;
      registers_once = c.status_faults_stand_apart.ensures.registers_once;
      registers_faultless = c.status_faults_stand_apart.ensures.registers_faultless;
      one_library = c.status_faults_stand_apart.ensures.one_library;
      no_library_fault = c.status_faults_stand_apart.ensures.no_library_fault;
    } in
    err_is c.from_residual.result c.in_err-net.field-0.0 (λ f. AreInsertable c.args.texts.now → status_of f ≡ status.Memory) c.from_residual.ensures.1
    (λ free. all_memory laws c.in_err-net.field-0.0 c.args.texts.now free
    (subst (λ (ts : List (List ℕ)). HaveFault ts c.in_err-net.field-0.0) (sym bad.are) (inl bad.stands)))

-- of the others
pub returns-clause-made : goal.returns-clause-made
returns-clause-made c =
    let taken = c.in_ok-net.ensures.taken in
    subst (λ (ts : List (List ℕ)). IfOk c.inserted.result (λ made. AreInserted ts made.outputs made.put made.status)) (sym taken.are)
    (ok_with c.inserted.result (λ made. IsInserted c.in_ok-net.library c.in_ok-net.net c.in_ok-net.plan c.in_ok-net.registers made.outputs made.put made.status)
    (λ made. AreInserted (c.in_ok-net.net ∷ c.in_ok-net.plan ∷ c.in_ok-net.registers ∷ taken.more) made.outputs made.put made.status)
    (λ made is. (c.in_ok-net.library, (taken.is, is))) c.inserted.ensures.made)

pub returns-clause-fault : goal.returns-clause-fault
returns-clause-fault c =
    let taken = c.in_ok-net.ensures.taken in
    subst (λ (ts : List (List ℕ)). IfErr c.inserted.result (HaveFault ts)) (sym taken.are)
    (err_weaker c.inserted.result (StandsInInputs c.in_ok-net.library c.in_ok-net.net c.in_ok-net.plan c.in_ok-net.registers)
    (HaveFault (c.in_ok-net.net ∷ c.in_ok-net.plan ∷ c.in_ok-net.registers ∷ taken.more)) (λ f bad. inr (c.in_ok-net.library, (taken.is, bad))) c.inserted.ensures.fault)

pub returns-clause-free : goal.returns-clause-free
returns-clause-free c =
    let taken = c.in_ok-net.ensures.taken in
    let laws : Laws = record {
      links = c.status_faults_stand_apart.ensures.links;
      once = c.status_faults_stand_apart.ensures.once;
      faultless = c.status_faults_stand_apart.ensures.faultless;
      registers_once = c.status_faults_stand_apart.ensures.registers_once;
      registers_faultless = c.status_faults_stand_apart.ensures.registers_faultless;
      one_library = c.status_faults_stand_apart.ensures.one_library;
      no_library_fault = c.status_faults_stand_apart.ensures.no_library_fault;
    } in
    err_weaker c.inserted.result (StandsInInputs c.in_ok-net.library c.in_ok-net.net c.in_ok-net.plan c.in_ok-net.registers) (λ f. AreInsertable c.args.texts.now → status_of f ≡ status.Memory)
    (λ f bad free. all_memory laws f c.args.texts.now free
    (subst (λ (ts : List (List ℕ)). HaveFault ts f) (sym taken.are) (inr (c.in_ok-net.library, (taken.is, bad))))) c.inserted.ensures.fault
