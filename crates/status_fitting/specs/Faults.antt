-- When registers of a design's own fit a plan and a netlist, and what they are refused for: names, then wires, then
-- opcodes, each along all lines.
-- IEEE Std 1149.1-2001: test data registers, instructions, the annex on BSDL. The order is own.
use Rattle.std.specs.Prelude.{ℕ, List, flat_map}
use Rattle.std.specs.List.{AllByRecursion}
use Rattle.netlist_link.specs.Linked.{LinkedView}
use Rattle.plan_texts.specs.declared.plan.Plan.{Plan}
use Rattle.status_fitting.specs.declared.register_texts.fault.StatusFault.{StatusFault}
use Rattle.status_fitting.specs.declared.register_texts.fault.StatusFault.TheVariants as fault
use Rattle.status_fitting.specs.declared.register_texts.plan.StatusRow.{StatusRow}
use Rattle.status_fitting.specs.declared.register_texts.plan.StatusPlan.{StatusPlan}
use Rattle.status_fitting.specs.Grammar.{SpellsStatus}
use Rattle.status_fitting.specs.First.{Stands, IsFirst}
use Rattle.status_fitting.specs.Wires.{IsNamed, IsUnnamed}
use Rattle.status_fitting.specs.Names.{Given, name_of, all_given, is_barred}
use Rattle.status_fitting.specs.Opcodes.{is_taken}

-- some text spells the registers
abbrev pub IsSpelled : StatusPlan → Type 0
IsSpelled plan = (bytes : List ℕ) × SpellsStatus bytes plan

abbrev pub words_of : List StatusRow → List (List ℕ)
words_of rows = flat_map (λ (row : StatusRow). row.words) rows

-- this fault stands, and none before it
pub data HasFault (L : LinkedView) (base : Plan) (plan : StatusPlan) : StatusFault → Type 0 where
  in_name : {given : Given} → IsFirst is_barred (all_given plan) given → HasFault L base plan (fault.StatusName (name_of given))
  in_wire : {word : List ℕ} → Stands is_barred (all_given plan) → IsUnnamed L (words_of plan.registers) word → HasFault L base plan (fault.StatusNet word)
  in_opcode : {row : StatusRow} → Stands is_barred (all_given plan) → AllByRecursion (IsNamed L) (words_of plan.registers) → IsFirst (is_taken base) plan.registers row
      → HasFault L base plan (fault.StatusOpcode row.instr)

abbrev pub HasNoFault : LinkedView → Plan → StatusPlan → Type 0
HasNoFault L base plan = (f : StatusFault) → HasFault L base plan f → ⊥

-- what a fault says; want of memory says nothing, and lines are told where the text is read
abbrev pub IsFault : LinkedView → Plan → StatusPlan → StatusFault → Type 0
IsFault L base plan (fault.StatusLine line) = ⊥
IsFault L base plan (fault.StatusName word) = HasFault L base plan (fault.StatusName word)
IsFault L base plan (fault.StatusNet word) = HasFault L base plan (fault.StatusNet word)
IsFault L base plan (fault.StatusOpcode word) = HasFault L base plan (fault.StatusOpcode word)
IsFault L base plan fault.OutOfMemory = Unit {0}
