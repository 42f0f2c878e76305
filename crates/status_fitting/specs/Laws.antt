-- own: a word names one net, and no port's; and of right answers there is one.
use Rattle.std.specs.Prelude.{◌≡◌, ℕ, List, Some, Result, Ok, Err}
use Rattle.netlist_model.specs.declared.NetId.{NetId}
use Rattle.netlist_model.specs.Lists.{bit_net}
use Rattle.netlist_model.specs.Formed.{IsWellFormed}
use Rattle.netlist_link.specs.Linked.{LinkedView}
use Rattle.netlist_link.specs.WellNamed.{IsWellNamed}
use Rattle.plan_texts.specs.declared.plan.Plan.{Plan}
use Rattle.status_fitting.specs.declared.register_texts.fault.StatusFault.{StatusFault}
use Rattle.status_fitting.specs.declared.register_texts.plan.StatusPlan.{StatusPlan}
use Rattle.status_fitting.specs.declared.fitted.FittedStatus.{FittedStatus}
use Rattle.status_fitting.specs.Faults.{HasFault, HasNoFault}
use Rattle.status_fitting.specs.Fitted.{IsFitted}
use Rattle.status_fitting.specs.Wires.{NamesWire}

-- so it is in each well-named netlist
abbrev pub WordsNameOneNet : Type 0
WordsNameOneNet = (L : LinkedView) (word : List ℕ) (one other : ℕ) → IsWellNamed L.names L.arena.lists → NamesWire L word one → NamesWire L word other → one ≡ other

-- in each well-formed netlist a word that names a wire's bit names no bit of a port, hidden or not
abbrev pub WordsNameNoPorts : Type 0
WordsNameNoPorts = (L : LinkedView) (word : List ℕ) (number bit : ℕ) (net : NetId) → IsWellFormed L.arena.lists → bit_net L.arena.lists number bit ≡ Some net → NamesWire L word net.0 → ⊥

-- what is fitted, where no fault stands; else the first fault
abbrev pub IsRight : LinkedView → Plan → StatusPlan → Result FittedStatus StatusFault → Type 0
IsRight L base plan (Ok fitted) = IsFitted L plan fitted × HasNoFault L base plan
IsRight L base plan (Err f) = HasFault L base plan f

-- so it is in each well-named netlist
abbrev pub RightAnswersAreOne : Type 0
RightAnswersAreOne = (L : LinkedView) (base : Plan) (plan : StatusPlan) (one other : Result FittedStatus StatusFault) → IsWellNamed L.names L.arena.lists
    → IsRight L base plan one → IsRight L base plan other → one ≡ other
