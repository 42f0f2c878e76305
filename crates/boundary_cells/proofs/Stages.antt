-- A shift bit and an update bit among the cells of a netlist.
use Rattle.std.proofs.Common.{◌≡◌, ℕ, suc, ◌+◌, false, List, [], ◌∷◌, refl, ap, ◌∙◌, arith, Some}
use Rattle.signal_values.specs.declared.Sig.{Sig}
use Rattle.signal_values.specs.declared.Sig.TheVariants.{Zero}
use Rattle.signal_values.specs.Values.{sig_mux}
use Rattle.cell_library.specs.declared.Kind.TheVariants.{Flop, Mux2}
use Rattle.cell_library.specs.declared.Edge.TheVariants.{Fall}
use Rattle.cell_library.specs.declared.ResetTo.TheVariants.{Zero as ToZero}
use Rattle.cell_library.specs.declared.codes.Instr.{Instr}
use Rattle.netlist_model.specs.declared.NetId.{NetId}
use Rattle.netlist_model.specs.declared.Feed.{Feed}
use Rattle.netlist_model.specs.declared.Feed.TheVariants.{Net}
use Rattle.netlist_model.specs.Lists.{CellView, NetlistView}
use Rattle.netlist_model.specs.Settled.{feed_value, Meets}
use Rattle.netlist_model.specs.Formed.{IsWellFormed}
use Rattle.netlist_model.specs.Contained.{Has, HasCells}
use Rattle.netlist_model.specs.Drivers.{DrivenIsInside}
use Rattle.gate_parts.specs.Parts.{feed_of}
use Rattle.test_logic.specs.declared.ScanNets.{ScanNets}
use Rattle.test_logic.specs.Controller.{act}
use Rattle.test_logic.specs.Rows.{CellAt}
use Rattle.register_gates.specs.Bits.{shift_bit_cells, held_bit_cells}
use Rattle.register_gates.specs.BitsLaws.{bit_after, ShiftBitsFollow, HeldBitsFollow}
use Rattle.boundary_cells.specs.declared.tables.Choice.{Choice}
use Rattle.boundary_cells.specs.Cells.{steering_of, holding_of, choice_cell}
use Rattle.boundary_cells.specs.Laws.{CarriesMode, ShiftLaws, UpdateLaws}

abbrev pub net_feed : ℕ → Feed
net_feed n = Net (record { 0 = n })

-- a cell is there where one with its kind, operands and output is
has_as : (N : NetlistView) (a b : CellView) → a.kind ≡ b.kind → a.feeds ≡ b.feeds → a.output ≡ b.output → Has N a → Has N b
has_as N a b kind feeds output has = record { number = has.number; name = has.name; live = rw (← kind, ← feeds, ← output) has.live }

-- the update bit's two cells, by the numbers that a table counts
pub held_has : (N : NetlistView) (first : ℕ) (scan : ScanNets) (a b : CellView)
    → a.kind ≡ Flop (record { edge = Fall; reset = ToZero }) → a.feeds ≡ Net (record { 0 = first + 4 }) ∷ Net scan.tck ∷ Net scan.trst ∷ []
    → a.output ≡ Some (record { 0 = suc (suc (suc first)) })
    → b.kind ≡ Mux2 → b.feeds ≡ Net (record { 0 = first + 3 }) ∷ Net (record { 0 = first + 0 }) ∷ Net scan.update ∷ []
    → b.output ≡ Some (record { 0 = suc (suc (suc (suc first))) })
    → Has N a → Has N b → HasCells N (held_bit_cells (first + 3) 0 (holding_of scan) false (Net (record { 0 = first })))
held_has N first scan a b ka fa oa kb fb ob has has' =
    let e3 : suc (suc (suc first)) ≡ first + 3 = omega arith in
    let e4 : suc (suc (suc (suc first))) ≡ suc (first + 3) = omega arith in
    let own : first + 4 ≡ first + 3 + 1 = omega arith in
    let own' : first + 3 ≡ first + 3 + 0 = omega arith in
    let zero' : first + 0 ≡ first = omega arith in
    let feeds : (n : ℕ) → List Feed = λ n. Net (record { 0 = n }) ∷ Net scan.tck ∷ Net scan.trst ∷ [] in
    let feeds' : (n k : ℕ) → List Feed = λ n k. Net (record { 0 = n }) ∷ Net (record { 0 = k }) ∷ Net scan.update ∷ [] in (
      has_as N a _ ka (fa ∙ ap feeds own) (oa ∙ ap (λ (n : ℕ). let net : NetId = record { 0 = n } in Some net) e3) has,
      (has_as N b _ kb (fb ∙ ap (λ (n : ℕ). feeds' n (first + 0)) own' ∙ ap (feeds' (first + 3 + 0)) zero') (ob ∙ ap (λ (n : ℕ). let net : NetId = record { 0 = n } in Some net) e4) has', tt),
    )

-- the net that a choice drives
pub choice_value : DrivenIsInside → (N : NetlistView) (first : ℕ) (given : List Feed) (number : ℕ) (into : NetId) (choice : Choice) (rule : (ℕ → Sig) → ℕ → Sig) (state value : ℕ → Sig)
    → IsWellFormed N → Has N (choice_cell first given number into choice) → Meets N rule state value
    → value into.0 ≡ sig_mux (feed_value value (feed_of first given choice.select)) (feed_value value (feed_of first given choice.usual)) (feed_value value (feed_of first given choice.other))
choice_value inside N first given number into choice rule state value formed has meets =
    let cell : CellView = record (choice_cell first given number into choice) { name = has.name } in
    meets.cells has.number cell into.0 (record { live = has.live; output = refl })
    (inside N formed has.number cell into.0 (record { live = has.live; output = refl }) refl)

-- what is wanted of a cell's captured operand
abbrev pub Captures : List CellView → ScanNets → Feed → (Instr → CellAt → Sig) → (Instr → (ℕ → Sig) → CellAt → Type 0) → Type 0
Captures cells scan operand captured Stands = (N : NetlistView) (rule : (ℕ → Sig) → ℕ → Sig) (state value : ℕ → Sig) (instruction : Instr) (c : CellAt) → IsWellFormed N → HasCells N cells
    → Meets N rule state value → CarriesMode scan instruction value → Stands instruction value c → feed_value value operand ≡ captured instruction c

pub shift_laws : ShiftBitsFollow → (cells : List CellView) (scan : ScanNets) (first number : ℕ) (next : NetId) (operand : Feed) (captured : Instr → CellAt → Sig)
    (Stands : Instr → (ℕ → Sig) → CellAt → Type 0)
    → ((N : NetlistView) → HasCells N cells → HasCells N (shift_bit_cells first number (steering_of scan) operand next))
    → Captures cells scan operand captured Stands → ShiftLaws cells scan first next captured Stands
shift_laws bits cells scan first number next operand captured Stands has captures = record {
  start = λ N given levels m formed there start carried low.
      (bits first number (steering_of scan) operand next).start N given levels m formed (has N there) start carried low;
  step = λ N event action instruction c before after m m' formed there settled step carried carried' steers mode stands.
      let taken : feed_value m.value operand ≡ captured instruction c = captures N _ _ _ instruction c formed there settled mode stands in
      let h : m'.value first ≡ bit_after before after Zero (act action (feed_value m.value operand) (m.value next.0) (m.value first)) (m.value first) (m.value first)
      = (bits first number (steering_of scan) operand next).step N event action before after m m' formed (has N there) settled step carried carried' steers in
      rw taken at h;
}

pub update_laws : HeldBitsFollow → (cells : List CellView) (scan : ScanNets) (shift update number : ℕ)
    → ((N : NetlistView) → HasCells N cells → HasCells N (held_bit_cells update number (holding_of scan) false (Net (record { 0 = shift }))))
    → UpdateLaws cells scan shift update
update_laws bits cells scan shift update number has = record {
  start = λ N given levels m formed there start carried low.
      (bits update number (holding_of scan) false (net_feed shift)).start N given levels m formed (has N there) start carried low;
  step = λ N event updates before after m m' formed there settled step carried carried' load.
      (bits update number (holding_of scan) false (net_feed shift)).step N event updates before after m m' formed (has N there) settled step carried carried' load;
}
