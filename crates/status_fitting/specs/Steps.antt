-- own: what the parts of fitting answer.
use Rattle.std.specs.Prelude.{◌≡◌, ℕ, ◌≤◌, Bool, List, [], ◌∷◌, ◌++◌, length, Option, Some, None, MatchOption, if◌then◌else◌}
use Rattle.std.specs.List.{AllByRecursion}
use Rattle.netlist_model.specs.declared.NetId.{NetId}
use Rattle.netlist_link.specs.Linked.{LinkedView}
use Rattle.status_fitting.specs.declared.register_texts.fault.StatusFault.{StatusFault}
use Rattle.status_fitting.specs.declared.register_texts.fault.StatusFault.TheVariants as fault
use Rattle.status_fitting.specs.declared.register_texts.plan.StatusRow.{StatusRow}
use Rattle.status_fitting.specs.Wires.{NamesDriven, IsUnnamed}
use Rattle.status_fitting.specs.Names.{Given, name_of}

-- the first that can't stand behind those before it, as a fault
abbrev pub fault_behind : {A : Type 0} → (List A → A → Bool) → (A → StatusFault) → List A → List A → Option StatusFault
fault_behind cannot told before [] = None
fault_behind cannot told before (x ∷ xs) = if cannot before x then Some (told x) else fault_behind cannot told (before ++ x ∷ []) xs

abbrev pub name_fault : Given → StatusFault
name_fault given = fault.StatusName (name_of given)

abbrev pub opcode_fault : StatusRow → StatusFault
opcode_fault row = fault.StatusOpcode row.instr

-- a net is found exactly where there is one
abbrev pub Finds : (ℕ → Type 0) → Option NetId → Type 0
Finds IsSo found = MatchOption found ((net : ℕ) → IsSo net → ⊥) (λ (net : NetId). IsSo net.0)

-- the word names no bit of a wire that is driven, or memory was refused
pub record IsUnnamedWord (L : LinkedView) (word told : List ℕ) : Type 0 where
  pub is : told ≡ word
  pub unnamed : (net : ℕ) → NamesDriven L word net → ⊥

abbrev pub IsWordFault : LinkedView → List ℕ → StatusFault → Type 0
IsWordFault L word (fault.StatusNet told) = IsUnnamedWord L word told
IsWordFault L word fault.OutOfMemory = Unit {0}
IsWordFault L word _ = ⊥

-- the first word that names none, or memory was refused
abbrev pub IsNetFault : LinkedView → List (List ℕ) → StatusFault → Type 0
IsNetFault L words (fault.StatusNet told) = IsUnnamed L words told
IsNetFault L words fault.OutOfMemory = Unit {0}
IsNetFault L words _ = ⊥

-- 256 words at most
abbrev pub HasFewWords : StatusRow → Type 0
HasFewWords row = length row.words ≤ 256

abbrev pub HaveFewWords : List StatusRow → Type 0
HaveFewWords rows = AllByRecursion HasFewWords rows
