-- The controller and the registers are added one behind the other.
use Rattle.std.proofs.Common.{◌≡◌, ℕ, ◌+◌, ◌*◌, ◌<◌, ◌≤◌, List, [], ◌∷◌, ◌++◌, length, refl, sym, ◌∙◌, ap, subst, arith, Option, Some, None}
use Rattle.std.specs.Option.{option_map, option_map_or}
use Rattle.netlist_model.specs.declared.NetId.{NetId}
use Rattle.netlist_model.specs.declared.Feed.{Feed}
use Rattle.netlist_model.specs.Contained.{IsDense}
use Rattle.netlist_model.specs.Lists.{CellView, cell_count}
use Rattle.netlist_arena.specs.Arena.{ArenaView}
use Rattle.netlist_arena.specs.Adds.{IsFree}
use Rattle.gate_parts.specs.Appended.{Appended}
use Rattle.gate_parts.specs.Laws.{AppendedNone, AppendedCount, AppendedMore, FreeStays}
use Rattle.test_logic.specs.declared.Codes.{Codes}
use Rattle.test_logic.specs.declared.TapNets.{TapNets}
use Rattle.test_logic.specs.declared.InstrNets.{InstrNets}
use Rattle.tap_gates.specs.Controller.{tap_cells, tap_nets}
use Rattle.register_gates.specs.Bits.{AreNetsBelow}
use Rattle.register_gates.specs.Chains.{chain_last}
use Rattle.register_gates.specs.Constants.{ConstantsAreBits}
use Rattle.register_gates.specs.Registers.{bypass_cells, user_size, captured_feeds, ident_size, ident_cells, ident_last}
use Rattle.register_gates.specs.Tdo.{AreIdentBelow}
use Rattle.boundary_cells.specs.Cells.{AreScanNetsBelow}
use Rattle.instruction_gates.specs.Register.{pattern_bits, instruction_size, instruction_cells, instruction_nets}
use Rattle.plan_fitting.specs.declared.fitted.Fitted.{Fitted}
use Rattle.core_sides.specs.stitched_netlist.declared.model.TapPort.{TapPort}
use Rattle.core_sides.specs.stitched_netlist.declared.model.Logic.{Logic}
use Rattle.core_sides.specs.stitched_netlist.ModelRows.{behind}
use Rattle.core_sides.specs.stitched_netlist.ModelLogic.{instruction_from, bypass_from, ident_from, code_size, logic_size, tap_at, instruction_at, bypass_at, ident_at, logic_at, controller_part, instruction_part, bypass_part, ident_part, logic_cells}
use Rattle.core_sides.proofs.stitched_netlist.Few.{captured_counted, ident_few}
use Rattle.test_logic_parts.specs.Logic.{IsPortBelow, IsLogicBelow}
use Rattle.test_logic_parts.proofs.Outputs.{DrivesFrom, drives_none, drives_both, controller_drives, instruction_drives, bypass_drives, ident_drives, free_before}
use Rattle.test_logic_parts.proofs.Sizes.{instruction_length, ident_length}

-- What one part hands to the next is there.

pub record TapBelow (n : ℕ) (tap : TapNets) : Type 0 where
  pub clock : AreNetsBelow n tap.tck tap.trst
  pub ir : AreNetsBelow n tap.capture_ir tap.shift_ir
  pub loads : AreNetsBelow n tap.update_ir tap.in_reset
  pub dr : AreNetsBelow n tap.capture_dr tap.shift_dr
  pub shifts : AreNetsBelow n tap.shift_dr tap.shift_ir
  pub update : tap.update_dr.0 < n

nets_below : (first n : ℕ) (tck trst : NetId) → tck.0 < first → trst.0 < first → first + 49 ≤ n → TapBelow n (tap_nets first tck trst)
nets_below first n tck trst a b more = record {
  clock = (omega arith, omega arith);
  ir = (omega arith, omega arith);
  loads = (omega arith, omega arith);
  dr = (omega arith, omega arith);
  shifts = (omega arith, omega arith);
  update = omega arith;
}

pub tap_below : (first n : ℕ) (port : TapPort) (tap : TapNets) → IsPortBelow first port → tap ≡ tap_nets first port.tck port.trst → first + 49 ≤ n → TapBelow n tap
tap_below first n port tap below is more =
    let P : TapNets → Type 0 = λ t. TapBelow n t in
    subst P (sym is) (nets_below first n port.tck port.trst below.tck below.trst more)

pub record InstructionBelow (n : ℕ) (instruction : InstrNets) : Type 0 where
  pub bypass_on : instruction.bypass_on.0 < n
  pub ident_on : instruction.ident_on.0 < n
  pub user_on : instruction.user_on.0 < n
  pub last : instruction.last.0 < n
  pub scan : AreScanNetsBelow n instruction.scan

last_below : (first n : ℕ) (tdi : NetId) (captured : List Feed) → tdi.0 < n → first + 3 * length captured ≤ n → (chain_last first tdi captured).0 < n
last_below first n tdi [] low more = low
last_below first n tdi (c ∷ rest) low more = omega arith

handed_below : ConstantsAreBits → (first n : ℕ) (tap : TapNets) (tdi : NetId) (codes : Codes) → TapBelow first tap → tdi.0 < first → first + instruction_size codes ≤ n
    → InstructionBelow n (instruction_nets first tap tdi codes)
handed_below constants first n tap tdi codes below low more =
    let a = below.clock.0 in
    let b = below.clock.1 in
    let counted = (constants codes.length codes.capture.value).counted in
    record {
      bypass_on = omega arith;
      ident_on = omega arith;
      user_on = omega arith;
      last = last_below (first + 1) n tdi (pattern_bits codes codes.capture) (omega arith) (omega arith);
      scan = ((omega arith, omega arith), (omega arith, omega arith), (omega arith, omega arith), (omega arith, omega arith), omega arith);
    }

pub instruction_below : ConstantsAreBits → (first n : ℕ) (tap : TapNets) (tdi : NetId) (codes : Codes) (instruction : InstrNets) → TapBelow first tap → tdi.0 < first
    → instruction ≡ instruction_nets first tap tdi codes → first + instruction_size codes ≤ n → InstructionBelow n instruction
instruction_below constants first n tap tdi codes instruction below low is more =
    let P : InstrNets → Type 0 = λ i. InstructionBelow n i in
    subst P (sym is) (handed_below constants first n tap tdi codes below low more)

scan_more : (n m : ℕ) (instruction : InstrNets) → n ≤ m → InstructionBelow n instruction → InstructionBelow m instruction
scan_more n m instruction more below =
    let a = below.scan.0.0 in
    let b = below.scan.0.1 in
    let c = below.scan.1.0 in
    let d = below.scan.1.1 in
    let e = below.scan.2.0 in
    let f = below.scan.2.1 in
    let g = below.scan.3.0 in
    let h = below.scan.3.1 in
    let i = below.scan.4 in
    let j = below.bypass_on in
    let k = below.ident_on in
    let k' = below.user_on in
    let l = below.last in
    record {
      bypass_on = omega arith;
      ident_on = omega arith;
      user_on = omega arith;
      last = omega arith;
      scan = ((omega arith, omega arith), (omega arith, omega arith), (omega arith, omega arith), (omega arith, omega arith), omega arith);
    }

pub ident_below : (first n : ℕ) (user_on tdi : NetId) (user : Option ℕ) (code : ℕ) (last : NetId) → tdi.0 < n → last ≡ ident_last first user_on tdi user code
    → first + ident_size user ≤ n → last.0 < n
ident_below first n user_on tdi user code last low is more =
    let captured : List Feed = captured_feeds first user_on user code in
    let counted = captured_counted first user_on user code in
    let there = last_below (first + user_size user + 2) n tdi captured low (omega arith) in
    let same : last.0 ≡ (chain_last (first + user_size user + 2) tdi captured).0 = ap (λ (net : NetId). net.0) is in
    omega arith

-- The room that is left.

pub tap_room : (old new : ArenaView) (tck tms trst : NetId) → Appended old new 49 (tap_cells (length old.lists.nets) (cell_count old.lists) tck tms trst) → new.spare.cells + 49 ≡ old.spare.cells
tap_room old new tck tms trst added =
    let long : length (tap_cells (length old.lists.nets) (cell_count old.lists) tck tms trst) ≡ 49 = refl in
    let room = added.cell_room in
    omega arith

pub instruction_room : ConstantsAreBits → (old new : ArenaView) (tap : TapNets) (tdi : NetId) (codes : Codes)
    → Appended old new (instruction_size codes) (instruction_cells (length old.lists.nets) (cell_count old.lists) tap tdi codes) → new.spare.cells + instruction_size codes ≡ old.spare.cells
instruction_room constants old new tap tdi codes added =
    let long = instruction_length constants (length old.lists.nets) (cell_count old.lists) tap tdi codes in
    let room = added.cell_room in
    ap (λ (n : ℕ). new.spare.cells + n) (sym long) ∙ room

pub bypass_room : (old new : ArenaView) (tap : TapNets) (on tdi : NetId) → Appended old new 5 (bypass_cells (length old.lists.nets) (cell_count old.lists) tap on tdi)
    → new.spare.cells + 5 ≡ old.spare.cells
bypass_room old new tap on tdi added =
    let long : length (bypass_cells (length old.lists.nets) (cell_count old.lists) tap on tdi) ≡ 5 = refl in
    let room = added.cell_room in
    omega arith

pub ident_room : (old new : ArenaView) (tap : TapNets) (on user_on tdi : NetId) (user : Option ℕ) (code : ℕ)
    → Appended old new (ident_size user) (ident_cells (length old.lists.nets) (cell_count old.lists) tap on user_on tdi user code) → old.spare.cells ≤ new.spare.cells + 99
ident_room old new tap on user_on tdi user code added =
    let long = ident_length (length old.lists.nets) (cell_count old.lists) tap on user_on tdi user code in
    let few = ident_few user in
    let room = added.cell_room in
    omega arith

-- One part behind another.

pub behind_added : AppendedMore → (old middle new : ArenaView) (count more : ℕ) (part : List CellView) (rest : ℕ → List CellView) → Appended old middle count part
    → Appended middle new more (rest (cell_count middle.lists)) → Appended old new (count + more) (behind (cell_count old.lists) part rest)
behind_added join old middle new count more part rest first then =
    let P : ℕ → Type 0 = λ n. Appended middle new more (rest n) in
    join old middle new count more part (rest (cell_count old.lists + length part)) first (subst P first.counted then)

-- so many nets are added where they are as many
pub counted_as : (old new : ArenaView) (count count' : ℕ) (part : List CellView) → count ≡ count' → Appended old new count part → Appended old new count' part
counted_as old new count count' part e h = let P : ℕ → Type 0 = λ n. Appended old new n part in subst P e h

handed_is : AppendedCount → (old a : ArenaView) (port : TapPort) (f : Fitted) (tap : TapNets) (instruction : InstrNets) (part : List CellView)
    → tap ≡ tap_nets (length old.lists.nets) port.tck port.trst → instruction ≡ instruction_nets (length a.lists.nets) tap port.tdi f.codes → Appended old a 49 part
    → instruction ≡ instruction_at (length old.lists.nets) port f
handed_is count old a port f tap instruction part tap_is instruction_is one =
    let first : ℕ = length old.lists.nets in
    let la : length a.lists.nets ≡ first + instruction_from = count old a 49 part one in
    instruction_is ∙ ap (λ (t : TapNets). instruction_nets (length a.lists.nets) t port.tdi f.codes) tap_is
    ∙ ap (λ (n : ℕ). instruction_nets n (tap_at first port) port.tdi f.codes) la

numbered : ℕ → NetId
numbered n = record { 0 = n }

pub logic_is : AppendedCount → (old a b c : ArenaView) (port : TapPort) (f : Fitted) (tap : TapNets) (instruction : InstrNets) (bypass : NetId) (ident : Option NetId) (one two three : List CellView)
    → tap ≡ tap_nets (length old.lists.nets) port.tck port.trst → instruction ≡ instruction_nets (length a.lists.nets) tap port.tdi f.codes
    → bypass.0 ≡ length b.lists.nets + 2 → ident ≡ option_map (ident_last (length c.lists.nets) instruction.user_on port.tdi f.usercode) f.idcode
    → Appended old a 49 one → Appended a b (instruction_size f.codes) two → Appended b c 5 three
    → record { tap = tap; instruction = instruction; bypass = bypass; ident = ident } ≡ logic_at (length old.lists.nets) port f
unfolding numbered
logic_is count old a b c port f tap instruction bypass ident one two three tap_is instruction_is bypass_is ident_is x y z =
    let first : ℕ = length old.lists.nets in
    let la0 = count old a 49 one x in
    let lb0 = count a b (instruction_size f.codes) two y in
    let lc0 = count b c 5 three z in
    let lc : length c.lists.nets ≡ first + ident_from f = omega arith in
    let at : bypass.0 ≡ first + bypass_from f + 2 = omega arith in
    let handed = handed_is count old a port f tap instruction one tap_is instruction_is x in
    let bit : bypass ≡ bypass_at first f = ap numbered at in
    let last : ident ≡ ident_at first port f
    = ident_is ∙ ap (λ (i : InstrNets). option_map (ident_last (length c.lists.nets) i.user_on port.tdi f.usercode) f.idcode) handed
    ∙ ap (λ (n : ℕ). option_map (ident_last n (instruction_at first port f).user_on port.tdi f.usercode) f.idcode) lc in
    let P : TapNets → InstrNets → NetId → Option NetId → Logic = λ t i n d. record { tap = t; instruction = i; bypass = n; ident = d } in
    ap (λ (t : TapNets). P t instruction bypass ident) tap_is ∙ ap (λ (i : InstrNets). P (tap_at first port) i bypass ident) handed
    ∙ ap (λ (n : NetId). P (tap_at first port) (instruction_at first port f) n ident) bit
    ∙ ap (λ (d : Option NetId). P (tap_at first port) (instruction_at first port f) (bypass_at first f) d) last

pub logic_added : AppendedCount → AppendedMore → (old a b c new : ArenaView) (port : TapPort) (f : Fitted) (tap : TapNets) (instruction : InstrNets)
    → tap ≡ tap_nets (length old.lists.nets) port.tck port.trst → instruction ≡ instruction_nets (length a.lists.nets) tap port.tdi f.codes
    → Appended old a 49 (tap_cells (length old.lists.nets) (cell_count old.lists) port.tck port.tms port.trst)
    → Appended a b (instruction_size f.codes) (instruction_cells (length a.lists.nets) (cell_count a.lists) tap port.tdi f.codes)
    → Appended b c 5 (bypass_cells (length b.lists.nets) (cell_count b.lists) tap instruction.bypass_on port.tdi)
    → Appended c new (code_size f.usercode f.idcode)
    (option_map_or (ident_cells (length c.lists.nets) (cell_count c.lists) tap instruction.ident_on instruction.user_on port.tdi f.usercode) f.idcode [])
    → Appended old new (logic_size f) (logic_cells (length old.lists.nets) (cell_count old.lists) port f)
logic_added count join old a b c new port f tap instruction tap_is instruction_is one two three four =
    let first : ℕ = length old.lists.nets in
    let size : ℕ = instruction_size f.codes in
    let la : length a.lists.nets ≡ first + instruction_from = count old a 49 _ one in
    let lb0 = count a b size _ two in
    let lc0 = count b c 5 _ three in
    let lb : length b.lists.nets ≡ first + bypass_from f = omega arith in
    let lc : length c.lists.nets ≡ first + ident_from f = omega arith in
    let handed : instruction ≡ instruction_at first port f = handed_is count old a port f tap instruction _ tap_is instruction_is one in
    let P2 : TapNets → ℕ → Type 0 = λ t n. Appended a b size (instruction_cells n (cell_count a.lists) t port.tdi f.codes) in
    let two' : Appended a b size (instruction_part first port f (cell_count a.lists))
    = subst (λ (n : ℕ). P2 (tap_at first port) n) la (subst (λ (t : TapNets). P2 t (length a.lists.nets)) tap_is two) in
    let P3 : TapNets → InstrNets → ℕ → Type 0 = λ t i n. Appended b c 5 (bypass_cells n (cell_count b.lists) t i.bypass_on port.tdi) in
    let three' : Appended b c 5 (bypass_part first port f (cell_count b.lists))
    = subst (λ (n : ℕ). P3 (tap_at first port) (instruction_at first port f) n) lb
    (subst (λ (i : InstrNets). P3 (tap_at first port) i (length b.lists.nets)) handed (subst (λ (t : TapNets). P3 t instruction (length b.lists.nets)) tap_is three)) in
    let P4 : TapNets → InstrNets → ℕ → Type 0
    = λ t i n. Appended c new (code_size f.usercode f.idcode) (option_map_or (ident_cells n (cell_count c.lists) t i.ident_on i.user_on port.tdi f.usercode) f.idcode []) in
    let four' : Appended c new (code_size f.usercode f.idcode) (ident_part first port f (cell_count c.lists))
    = subst (λ (n : ℕ). P4 (tap_at first port) (instruction_at first port f) n) lc
    (subst (λ (i : InstrNets). P4 (tap_at first port) i (length c.lists.nets)) handed (subst (λ (t : TapNets). P4 t instruction (length c.lists.nets)) tap_is four)) in
    let to_b = behind_added join old a b 49 size (controller_part first port (cell_count old.lists)) (instruction_part first port f) one two' in
    let to_c = behind_added join old b c (49 + size) 5 _ (bypass_part first port f) to_b three' in
    behind_added join old c new (49 + size + 5) (code_size f.usercode f.idcode) _ (ident_part first port f) to_c four'

-- Nets that were free stay so.

code_drives : (first start number : ℕ) (tap : TapNets) (on user_on tdi : NetId) (user code : Option ℕ) → first ≤ start
    → DrivesFrom first (option_map_or (ident_cells start number tap on user_on tdi user) code [])
code_drives first start number tap on user_on tdi user None low = drives_none first
code_drives first start number tap on user_on tdi user (Some code) low = ident_drives first start number tap on user_on tdi user code low

behind_drives : (first number : ℕ) (part : List CellView) (rest : ℕ → List CellView) → DrivesFrom first part → ((n : ℕ) → DrivesFrom first (rest n))
    → DrivesFrom first (behind number part rest)
behind_drives first number part rest a b = drives_both first part (rest (number + length part)) a (b (number + length part))

logic_drives : (first number : ℕ) (port : TapPort) (f : Fitted) → DrivesFrom first (logic_cells first number port f)
logic_drives first number port f =
    let one : List CellView = controller_part first port number in
    let two : List CellView = behind number one (instruction_part first port f) in
    let three : List CellView = behind number two (bypass_part first port f) in
    behind_drives first number three (ident_part first port f)
    (behind_drives first number two (bypass_part first port f)
    (behind_drives first number one (instruction_part first port f) (controller_drives first first number port.tck port.tms port.trst (omega arith))
    (λ n. instruction_drives first (first + instruction_from) n (tap_at first port) port.tdi f.codes (omega arith)))
    (λ n. bypass_drives first (first + bypass_from f) n (tap_at first port) (instruction_at first port f).bypass_on port.tdi (omega arith)))
    (λ n. code_drives first (first + ident_from f) n (tap_at first port) (instruction_at first port f).ident_on (instruction_at first port f).user_on port.tdi f.usercode f.idcode (omega arith))

pub logic_leaves_free : FreeStays → (old new : ArenaView) (port : TapPort) (f : Fitted)
    → Appended old new (logic_size f) (logic_cells (length old.lists.nets) (cell_count old.lists) port f)
    → (net : ℕ) → net < length old.lists.nets → IsFree old.lists net → IsFree new.lists net
logic_leaves_free stays old new port f added =
    free_before stays old new (logic_size f) (length old.lists.nets) (logic_cells (length old.lists.nets) (cell_count old.lists) port f) added
    (logic_drives (length old.lists.nets) (cell_count old.lists) port f)

-- a device without a code gets no cells
pub no_code : AppendedNone → (old : ArenaView) (tap : TapNets) (on user_on tdi : NetId) (user code : Option ℕ) → code ≡ None → IsDense old.lists
    → Appended old old (code_size user code) (option_map_or (ident_cells (length old.lists.nets) (cell_count old.lists) tap on user_on tdi user) code [])
no_code none old tap on user_on tdi user code is dense =
    let P : Option ℕ → Type 0
    = λ o. Appended old old (code_size user o) (option_map_or (ident_cells (length old.lists.nets) (cell_count old.lists) tap on user_on tdi user) o []) in
    subst P (sym is) (none old dense)

-- What is handed on.

pub handed_on : (n m : ℕ) (tap : TapNets) (instruction : InstrNets) (bypass : NetId) (ident : Option NetId) → n ≤ m → TapBelow n tap → InstructionBelow n instruction
    → bypass.0 < m → AreIdentBelow m ident → IsLogicBelow m (record { tap = tap; instruction = instruction; bypass = bypass; ident = ident })
handed_on n m tap instruction bypass ident more t i low there =
    let a = t.clock.0 in
    let b = t.clock.1 in
    let c = t.shifts.0 in
    let d = t.shifts.1 in
    let on = scan_more n m instruction more i in
    record {
      clock = (omega arith, omega arith);
      shifts = (omega arith, omega arith);
      scan = on.scan;
      last = on.last;
      selections = (on.bypass_on, on.ident_on);
      bypass = low;
      ident = there;
    }
