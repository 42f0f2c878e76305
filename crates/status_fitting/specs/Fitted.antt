-- What fitting registers of a design's own gives.
-- IEEE Std 1149.1-2001: test data registers. That they capture nets of the core is own.
use Rattle.std.specs.Prelude.{◌≡◌, ℕ, List, length}
use Rattle.list_laws.specs.Lists.{AreAll}
use Rattle.netlist_model.specs.declared.NetId.{NetId}
use Rattle.netlist_link.specs.Linked.{LinkedView}
use Rattle.status_fitting.specs.declared.register_texts.plan.StatusRow.{StatusRow}
use Rattle.status_fitting.specs.declared.register_texts.plan.StatusPlan.{StatusPlan}
use Rattle.status_fitting.specs.declared.fitted.FittedRegister.{FittedRegister}
use Rattle.status_fitting.specs.declared.fitted.FittedStatus.{FittedStatus}
use Rattle.status_fitting.specs.Wires.{NamesDriven}

-- the word names the net
abbrev pub IsNetOf : LinkedView → List ℕ → NetId → Type 0
IsNetOf L word net = NamesDriven L word net.0

-- the line's register: a bit for each word, in order
pub record IsRegister (L : LinkedView) (row : StatusRow) (r : FittedRegister) : Type 0 where
  pub name : r.register.name ≡ row.name
  pub instr : r.register.instr ≡ row.instr
  pub bits : r.register.bits ≡ row.bits
  pub count : r.register.length ≡ length row.words
  pub nets : AreAll (IsNetOf L) row.words r.nets

-- the registers of the lines, in order
abbrev pub IsFitted : LinkedView → StatusPlan → FittedStatus → Type 0
IsFitted L plan fitted = AreAll (IsRegister L) plan.registers fitted.registers
