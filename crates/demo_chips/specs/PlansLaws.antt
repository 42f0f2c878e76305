-- Laws of the demonstration netlists and their plan: the plan's text spells it, and it fits each of the netlists.
-- IEEE Std 1149.1-2001: boundary-scan register; the netlists and the plan are own.
use Rattle.std.specs.Prelude.{◌≡◌, ℕ, ◌+◌, ◌^◌, ◌<◌, ◌≤◌, List, length, slice_get, Some, None}
use Rattle.verilog_tree.specs.IsTree.{IsTree}
use Rattle.verilog_tree.specs.Canonical.{canonical}
use Rattle.netlist_model.specs.declared.PinBit.{PinBit}
use Rattle.netlist_arena.specs.Arena.{bit_count}
use Rattle.cell_library.specs.Sound.{IsLibrary}
use Rattle.netlist_link.specs.Linked.{LinkedView, HidesNone}
use Rattle.netlist_link.specs.Links.{IsLinkOf}
use Rattle.plan_texts.specs.declared.plan.Plan.{Plan}
use Rattle.plan_texts.specs.declared.plan.PinLine.{PinLine}
use Rattle.plan_texts.specs.Grammar.{SpellsPlan}
use Rattle.plan_texts.specs.Canonical.{canonical_plan}
use Rattle.plan_fitting.specs.Pins.{PinSeen, NamesBit, AreSeen}
use Rattle.plan_fitting.specs.Rows.{rows}
use Rattle.plan_fitting.specs.Fits.{fault_with}
use Rattle.demo_chips.specs.Netlists.{demo_module, gate_count}
use Rattle.demo_chips.specs.Plans.{demo_plan}

-- The plan's text.

-- the canonical text of the plan spells it
abbrev pub PlanIsSpelled : Type 0
PlanIsSpelled = SpellsPlan (canonical_plan demo_plan) demo_plan

-- and no other plan
abbrev pub PlanIsAlone : Type 0
PlanIsAlone = (other : Plan) → SpellsPlan (canonical_plan demo_plan) other → other ≡ demo_plan

-- The plan at a netlist.

-- own: each pin line names a bit, and no other fault of fitting stands
pub record HasNoFitFault (linked : LinkedView) : Type 0 where
  pub named : (place : ℕ) (line : PinLine) → slice_get demo_plan.pins place ≡ Some line → (pin : PinBit) × NamesBit linked line.port pin
  pub faultless : (seen : List PinSeen) → AreSeen linked demo_plan.pins seen → fault_with linked demo_plan seen ≡ None

abbrev pub PlanFits : Type 0
PlanFits = (number : ℕ) (linked : LinkedView) → IsTree (demo_module number) → IsLibrary linked.arena.lists.library → IsLinkOf (demo_module number) linked → HidesNone linked → HasNoFitFault linked

-- Counts.

-- own: the nets of a netlist: those of 34 bits of ports, of 32 flip-flops, and of its gates
abbrev pub net_count : ℕ → ℕ
net_count number = gate_count number + 66

-- own: the boundary cells of each: one for each of 34 bits, and one that controls the outputs
abbrev pub boundary_cells : ℕ
boundary_cells = 35

-- own: so many there are where the netlist is of this number
pub record IsCounted (number : ℕ) (linked : LinkedView) : Type 0 where
  pub nets : length linked.arena.lists.nets ≡ net_count number
  pub bits : bit_count linked.arena.lists.ports ≡ 34
  pub boundary : (seen : List PinSeen) → AreSeen linked demo_plan.pins seen → length (rows demo_plan seen) ≡ boundary_cells

abbrev pub ChipsAreCounted : Type 0
ChipsAreCounted = (number : ℕ) (linked : LinkedView) → IsTree (demo_module number) → IsLibrary linked.arena.lists.library → IsLinkOf (demo_module number) linked → IsCounted number linked

-- The netlists' texts.

-- own: the canonical text of a netlist has at most 2^24 bytes
abbrev pub ChipsAreShort : Type 0
ChipsAreShort = (number : ℕ) → number < 10000 → length (canonical (demo_module number)) ≤ 2 ^ 24

-- own: and so has that of the plan
abbrev pub PlanIsShort : Type 0
PlanIsShort = length (canonical_plan demo_plan) ≤ 2 ^ 24
