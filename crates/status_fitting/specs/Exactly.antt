-- own: how spelling and faults belong together.
use Rattle.std.specs.Prelude.{◌≡◌, ℕ, List}
use Rattle.status_fitting.specs.declared.register_texts.plan.StatusPlan.{StatusPlan}
use Rattle.status_fitting.specs.declared.register_texts.fault.StatusFault.{StatusFault}
use Rattle.status_fitting.specs.Grammar.{SpellsStatus}
use Rattle.status_fitting.specs.RegisterTextsFaults.{HasFault, HasNoFault}

-- bytes spell registers once at most
abbrev pub SpelledOnce : Type 0
SpelledOnce = (bytes : List ℕ) (one other : StatusPlan) → SpellsStatus bytes one → SpellsStatus bytes other → one ≡ other

-- where bytes spell registers, they have no fault
abbrev pub SpelledIsFaultless : Type 0
SpelledIsFaultless = (bytes : List ℕ) (plan : StatusPlan) → SpellsStatus bytes plan → HasNoFault bytes

-- where they have none, they spell registers
abbrev pub FaultlessIsSpelled : Type 0
FaultlessIsSpelled = (bytes : List ℕ) → HasNoFault bytes → (plan : StatusPlan) × SpellsStatus bytes plan

-- they have one fault at most
abbrev pub AtFaultOnce : Type 0
AtFaultOnce = (bytes : List ℕ) (one other : StatusFault) → HasFault bytes one → HasFault bytes other → one ≡ other
