-- What the parts are handed is there.
use Rattle.std.proofs.Common.{◌≡◌, ℕ, zero, suc, ◌+◌, ◌*◌, ◌<◌, ◌≤◌, ◌⊎◌, ◌||◌, not, Bool, true, false, IsTrue, List, [], ◌∷◌, ◌++◌, length, Option, Some, None, refl, sym, ap, subst, ◌∙◌, arith, inl, inr}
use Rattle.std.specs.Prelude.{slice_get, All, ⊤}
use Rattle.std.specs.List.{list_all}
use Rattle.std.proofs.lemmas.List.Elements.{All-head, All-tail}
use Rattle.list_laws.proofs.Lists.{test_at}
use Rattle.list_laws.proofs.Tests.{then_holds}
use Rattle.netlist_model.specs.declared.NetId.{NetId}
use Rattle.netlist_model.specs.declared.Feed.{Feed}
use Rattle.netlist_model.specs.declared.Feed.TheVariants.{Net, Const}
use Rattle.netlist_model.specs.Lists.{CellView, NetlistView, cell_count}
use Rattle.gate_parts.specs.declared.Pin.{Pin}
use Rattle.gate_parts.specs.declared.Pin.TheVariants.{Given}
use Rattle.gate_parts.specs.declared.Gate.{Gate}
use Rattle.gate_parts.specs.Parts.{is_flop_kind, pins_of}
use Rattle.gate_parts.specs.Appended.{Appended}
use Rattle.test_logic.specs.declared.TapNets.{TapNets}
use Rattle.register_gates.specs.declared.bits.Steering.{Steering}
use Rattle.register_gates.specs.declared.bits.TheConstants.{SHIFT_BIT}
use Rattle.register_gates.specs.Bits.{shift_bit_given}
use Rattle.register_gates.specs.Chains.{chain_last}
use Rattle.register_gates.specs.declared.TheConstants.{SELECTED}
use Rattle.register_gates.specs.Constants.{ConstantsAreBits}
use Rattle.register_gates.specs.Registers.{selected_given, selected_steering}
use Rattle.instruction_gates.specs.Rows.{is_one}
use Rattle.netlist_link.specs.Readable.{IsPure}
use Rattle.netlist_link.specs.DraftLawsTables.{IsPartTable, IsControl}
use Rattle.netlist_link.specs.Parts.{Part, parts_size, parts_cells, IsThere, IsHanded, AreHanded, PartsAreFormed}
use Rattle.status_fitting.specs.declared.fitted.FittedRegister.{FittedRegister}
use Rattle.register_gates.specs.declared.ident.TheConstants.{INVERSE}
use Rattle.status_gates.specs.declared.TheConstants.{BOTH, SHOWN}
use Rattle.status_gates.specs.Opcodes.{inverses_cells, literal, told_feed}
use Rattle.status_gates.specs.Shown.{shown_given}
use Rattle.status_gates.specs.Wires.{net_feeds}
use Rattle.status_gates.proofs.Feeds.{net_feeds_length}
use Rattle.status_gates.specs.declared.parts.SharedNets.{SharedNets}
use Rattle.status_gates.specs.Registers.{wanted_feeds, net_in, bits_size, on_at, near_at, registers_size, shown_of, registers_cells}
use Rattle.status_build.specs.Handed.{inverse_parts, both_part, opcode_parts, bit_part, chain_parts, data_parts, shown_part, register_parts, registers_parts}
use Rattle.status_build.specs.FormedLaws.{IsReadNet, CanShare, CanCapture, RegistersAreFormed}
use Rattle.status_build.proofs.FormedCells.{both_behind, size_append, inverse_size, inverse_cells_are, opcode_size, chain_size, data_size, registers_parts_size, registers_cells_are}

-- Nets that are there.

abbrev AllThere : NetlistView → ℕ → List Feed → Type 0
AllThere N at [] = ⊤
AllThere N at (Net net ∷ feeds) = IsThere N at net.0 × AllThere N at feeds
AllThere N at (Const b ∷ feeds) = AllThere N at feeds

later : (N : NetlistView) (at more net : ℕ) → at ≤ more → IsThere N at net → IsThere N more net
later N at more net h (inl low) = inl low
later N at more net h (inr own) = let a = own.1 in inr (own.0, omega (arith, h, a))

all_later : (N : NetlistView) (at more : ℕ) (feeds : List Feed) → at ≤ more → AllThere N at feeds → AllThere N more feeds
all_later N at more [] h all = tt
all_later N at more (Net net ∷ feeds) h all = (later N at more net.0 h all.0, all_later N at more feeds h all.1)
all_later N at more (Const b ∷ feeds) h all = all_later N at more feeds h all

same_id : (a b : NetId) → ◌≡◌ {A = Option Feed} (Some (Net a)) (Some (Net b)) → a ≡ b
same_id a b e = cc

there_given : (N : NetlistView) (at : ℕ) (given : List Feed) → AllThere N at given → (k net : ℕ) → slice_get given k ≡ Some (Net (record { 0 = net })) → IsThere N at net
there_given N at [] all k net e = absurd (let no : ◌≡◌ {A = Option Feed} None (Some (Net (record { 0 = net }))) = e in cc)
there_given N at (Net n ∷ feeds) all zero net e = subst (IsThere N at) (ap (λ (x : NetId). x.0) (same_id n (record { 0 = net }) e)) all.0
there_given N at (Const b ∷ feeds) all zero net e = absurd (let no : ◌≡◌ {A = Option Feed} (Some (Const b)) (Some (Net (record { 0 = net }))) = e in cc)
there_given N at (Net n ∷ feeds) all (suc k) net e = there_given N at feeds all.1 k net e
there_given N at (Const b ∷ feeds) all (suc k) net e = there_given N at feeds all k net e

-- Parts without flip-flops.

abbrev is_gate : Gate → Bool
is_gate gate = not (is_flop_kind gate.kind)

no_flop : (gates : List Gate) (k : ℕ) → IsTrue (list_all is_gate gates) → IsControl gates k → ⊥
no_flop gates k all c = differ (is_flop_kind c.gate.kind) c.flop (test_at is_gate gates c.place c.gate all c.at)
  where
    differ : (b : Bool) → b ≡ true → IsTrue (not b) → ⊥
    differ true e h = let no : false ≡ true = h in cc
    differ false e h = cc

handed_gates : (N : NetlistView) (at : ℕ) (gates : List Gate) (levels : List ℕ) (given : List Feed) → IsPartTable gates levels (length given) → IsTrue (list_all is_gate gates) → AllThere N at given
    → IsHanded N at (record { gates = gates; levels = levels; given = given })
handed_gates N at gates levels given table plain all = record {
  table = table;
  read = λ k net e. there_given N at given all k net e;
  control = λ k net c e. absurd (no_flop gates k plain c);
}

-- A bit of a shift stage.

abbrev clock_pin : Pin → Bool
clock_pin (Given zero) = true
clock_pin (Given (suc zero)) = true
clock_pin _ = false

abbrev rest_is_clock : List Pin → Bool
rest_is_clock [] = true
rest_is_clock (pin ∷ pins) = list_all clock_pin pins

abbrev is_clocked : Gate → Bool
is_clocked gate = not (is_flop_kind gate.kind) || rest_is_clock (pins_of gate.pins)

clock_at : (pins : List Pin) (p : ℕ) (pin : Pin) → IsTrue (rest_is_clock pins) → slice_get pins (suc p) ≡ Some pin → IsTrue (clock_pin pin)
clock_at [] p pin h e = absurd (let no : ◌≡◌ {A = Option Pin} None (Some pin) = e in cc)
clock_at (first ∷ pins) p pin h e = test_at clock_pin pins p pin h e

one_or_two : (k : ℕ) → IsTrue (clock_pin (Given k)) → (k ≡ 0) ⊎ (k ≡ 1)
one_or_two zero h = inl refl
one_or_two (suc zero) h = inr refl
one_or_two (suc (suc k)) h = absurd (let no : false ≡ true = h in cc)

bit_control : (k : ℕ) → IsControl SHIFT_BIT k → (k ≡ 0) ⊎ (k ≡ 1)
bit_control k c =
    let test = test_at is_clocked SHIFT_BIT c.place c.gate refl c.at in
    let rest = then_holds (is_flop_kind c.gate.kind) (rest_is_clock (pins_of c.gate.pins)) test c.flop in
    one_or_two k (clock_at (pins_of c.gate.pins) c.pin (Given k) rest c.has)

-- what steers a shift stage is there, and what clocks and clears it is pure
record Steers (N : NetlistView) (at : ℕ) (by : Steering) : Type 0 where
  tck : IsThere N at by.tck.0
  trst : IsThere N at by.trst.0
  capture : IsThere N at by.capture.0
  shift : IsThere N at by.shift.0
  clock : IsPure N by.tck.0
  clear : IsPure N by.trst.0

handed_bit : (N : NetlistView) (at first : ℕ) (by : Steering) (tdi : NetId) (captured : Feed) (rest : List Feed) → Steers N at by → AllThere N at (captured ∷ []) → IsThere N at (chain_last first tdi rest).0
    → IsHanded N at (bit_part first by tdi captured rest)
handed_bit N at first by tdi captured rest s there next =
    let given : List Feed = shift_bit_given by captured (chain_last first tdi rest) in
    record {
      table = record { sound = refl; leveled = refl; plain = refl; controls = refl };
      read = λ k net e. there_given N at given (s.tck, (s.trst, (s.capture, (s.shift, behind captured there)))) k net e;
      control = λ k net c e. elim (bit_control k c) [
        | inl zero_is ↦ subst (IsPure N) (ap (λ (x : NetId). x.0) (same_id by.tck (record { 0 = net }) (subst (λ (j : ℕ). slice_get given j ≡ Some (Net (record { 0 = net }))) zero_is e))) s.clock
        | inr one_is ↦ subst (IsPure N) (ap (λ (x : NetId). x.0) (same_id by.trst (record { 0 = net }) (subst (λ (j : ℕ). slice_get given j ≡ Some (Net (record { 0 = net }))) one_is e))) s.clear
      ];
    }
  where
    behind : (f : Feed) → AllThere N at (f ∷ []) → AllThere N at (f ∷ Net (chain_last first tdi rest) ∷ [])
    behind (Net net) h = (h.0, (next, tt))
    behind (Const b) h = (next, tt)

-- Lists of parts.

handed_append : (N : NetlistView) (at : ℕ) (ps qs : List Part) → AreHanded N at ps → AreHanded N (at + parts_size ps) qs → AreHanded N at (ps ++ qs)
handed_append N at [] qs a b = let e : at + 0 ≡ at = omega arith in subst (λ (k : ℕ). AreHanded N k qs) e b
handed_append N at (p ∷ ps) qs a b =
    let e : at + (length p.gates + parts_size ps) ≡ at + length p.gates + parts_size ps = omega arith in
    (a.0, handed_append N (at + length p.gates) ps qs a.1 (subst (λ (k : ℕ). AreHanded N k qs) e b))

-- one part behind others, of which the size is known
handed_behind : (N : NetlistView) (at count : ℕ) (ps : List Part) (p : Part) → parts_size ps ≡ count → AreHanded N at ps → IsHanded N (at + count) p → AreHanded N at (ps ++ p ∷ [])
handed_behind N at count ps p size a b = handed_append N at ps (p ∷ []) a (subst (λ (k : ℕ). AreHanded N (at + k) (p ∷ [])) (sym size) (b, tt))

inverses_handed : (N : NetlistView) (at opcode count : ℕ) → ((k : ℕ) → k < count → IsReadNet N (opcode + k)) → AreHanded N at (inverse_parts opcode count)
inverses_handed N at opcode zero all = tt
inverses_handed N at opcode (suc behind) all =
    let e : opcode + 0 ≡ opcode = omega arith in
    let this : IsReadNet N opcode = subst (IsReadNet N) e (all 0 (omega arith)) in (
      handed_gates N at INVERSE (1 ∷ []) (Net (record { 0 = opcode }) ∷ []) (record { sound = refl; leveled = refl; plain = refl; controls = refl }) refl (inl this, tt),
      inverses_handed N (at + 1) (suc opcode) behind (λ k low. (let f : opcode + suc k ≡ suc opcode + k = omega arith in subst (IsReadNet N) f (all (suc k) (omega (arith, low))))),
    )

-- what tells of the bits behind is there
told_there : (N : NetlistView) (first : ℕ) (rest : List Feed) → length N.nets ≤ first → AllThere N (first + length rest) (told_feed first rest ∷ [])
told_there N first [] from = tt
told_there N first (w ∷ rest) from = (inr (omega (arith, from), omega arith), tt)

literal_there : (N : NetlistView) (at : ℕ) (b : Bool) (opcode inverse : ℕ) (rest : List Feed) → IsThere N at opcode → IsThere N at inverse → AllThere N at rest → AllThere N at (literal b opcode inverse ∷ rest)
literal_there N at true opcode inverse rest a b all = (a, all)
literal_there N at false opcode inverse rest a b all = (b, all)

opcode_handed : (N : NetlistView) (first opcode inverses : ℕ) (wanted : List Feed) → length N.nets ≤ first → ((k : ℕ) → k < length wanted → IsThere N first (opcode + k))
    → ((k : ℕ) → k < length wanted → IsThere N first (inverses + k)) → AreHanded N first (opcode_parts first opcode inverses wanted)
opcode_handed N first opcode inverses [] from a b = tt
opcode_handed N first opcode inverses (w ∷ rest) from a b =
    let here : opcode + 0 ≡ opcode = omega arith in
    let there : inverses + 0 ≡ inverses = omega arith in
    let x : IsThere N first opcode = subst (IsThere N first) here (a 0 (omega arith)) in
    let y : IsThere N first inverses = subst (IsThere N first) there (b 0 (omega arith)) in
    let n : ℕ = length rest in
    let given : List Feed = literal (is_one w) opcode inverses ∷ told_feed first rest ∷ [] in
    let gate : IsHanded N (first + n) (both_part first opcode inverses w rest)
    = handed_gates N (first + n) BOTH (1 ∷ []) given (record { sound = refl; leveled = refl; plain = refl; controls = refl }) refl
    (literal_there N (first + n) (is_one w) opcode inverses (told_feed first rest ∷ []) (later N first (first + n) opcode (omega arith) x) (later N first (first + n) inverses (omega arith) y) (told_there N first rest from)) in
    handed_behind N first n (opcode_parts first (suc opcode) (suc inverses) rest) (both_part first opcode inverses w rest) (opcode_size first (suc opcode) (suc inverses) rest)
    (opcode_handed N first (suc opcode) (suc inverses) rest from
    (λ k low. (let e : opcode + suc k ≡ suc opcode + k = omega arith in subst (IsThere N first) e (a (suc k) (omega (arith, low)))))
    (λ k low. (let e : inverses + suc k ≡ suc inverses + k = omega arith in subst (IsThere N first) e (b (suc k) (omega (arith, low))))))
    gate

-- the next bit towards TDI is there
last_there : (N : NetlistView) (first : ℕ) (tdi : NetId) (rest : List Feed) → length N.nets ≤ first → IsThere N first tdi.0 → IsThere N (first + 3 * length rest) (chain_last first tdi rest).0
last_there N first tdi [] from there = later N first (first + 0) tdi.0 (omega arith) there
last_there N first tdi (c ∷ rest) from there = inr (omega (arith, from), omega arith)

steers_later : (N : NetlistView) (at more : ℕ) (by : Steering) → at ≤ more → Steers N at by → Steers N more by
steers_later N at more by h s = record {
  tck = later N at more by.tck.0 h s.tck;
  trst = later N at more by.trst.0 h s.trst;
  capture = later N at more by.capture.0 h s.capture;
  shift = later N at more by.shift.0 h s.shift;
  clock = s.clock;
  clear = s.clear;
}

head_there : (N : NetlistView) (at : ℕ) (f : Feed) (fs : List Feed) → AllThere N at (f ∷ fs) → AllThere N at (f ∷ [])
head_there N at (Net net) fs all = (all.0, tt)
head_there N at (Const b) fs all = tt

tail_there : (N : NetlistView) (at : ℕ) (f : Feed) (fs : List Feed) → AllThere N at (f ∷ fs) → AllThere N at fs
tail_there N at (Net net) fs all = all.1
tail_there N at (Const b) fs all = all

chain_handed : (N : NetlistView) (first : ℕ) (by : Steering) (tdi : NetId) (captured : List Feed) → length N.nets ≤ first → Steers N first by → IsThere N first tdi.0 → AllThere N first captured
    → AreHanded N first (chain_parts first by tdi captured)
chain_handed N first by tdi [] from s there all = tt
chain_handed N first by tdi (c ∷ rest) from s there all =
    let n : ℕ = 3 * length rest in
    handed_behind N first n (chain_parts first by tdi rest) (bit_part first by tdi c rest) (chain_size first by tdi rest)
    (chain_handed N first by tdi rest from s there (tail_there N first c rest all))
    (handed_bit N (first + n) first by tdi c rest (steers_later N first (first + n) by (omega arith) s) (all_later N first (first + n) (c ∷ []) (omega arith) (head_there N first c rest all))
    (last_there N first tdi rest from there))

data_handed : (N : NetlistView) (first : ℕ) (tap : TapNets) (on tdi : NetId) (captured : List Feed) → length N.nets ≤ first → IsThere N first tap.tck.0 → IsThere N first tap.trst.0 → IsPure N tap.tck.0
    → IsPure N tap.trst.0 → IsThere N first tap.capture_dr.0 → IsThere N first tap.shift_dr.0 → IsThere N first on.0 → IsThere N first tdi.0 → AllThere N first captured
    → AreHanded N first (data_parts first tap on tdi captured)
data_handed N first tap on tdi captured from tck trst clock clear capture shift on_is tdi_is all =
    let more : first ≤ first + 2 = omega arith in
    let steers : Steers N (first + 2) (selected_steering first tap) = record {
      tck = later N first (first + 2) tap.tck.0 more tck;
      trst = later N first (first + 2) tap.trst.0 more trst;
      capture = inr (from, omega arith);
      shift = inr (omega (arith, from), omega arith);
      clock = clock;
      clear = clear;
    } in (
      handed_gates N first SELECTED (1 ∷ 1 ∷ []) (selected_given tap on) (record { sound = refl; leveled = refl; plain = refl; controls = refl }) refl (capture, (shift, (on_is, tt))),
      chain_handed N (first + 2) (selected_steering first tap) tdi captured (omega (arith, from)) steers (later N first (first + 2) tdi.0 more tdi_is) (all_later N first (first + 2) captured more all),
    )

-- A register, and all.

-- what a register is handed, where the parts begin at `first`
record CanStandAt (N : NetlistView) (first : ℕ) (shared : SharedNets) (r : FittedRegister) : Type 0 where
  from : length N.nets ≤ first
  some : 0 < r.register.bits.len
  tck : IsThere N first shared.tap.tck.0
  trst : IsThere N first shared.tap.trst.0
  clock : IsPure N shared.tap.tck.0
  clear : IsPure N shared.tap.trst.0
  capture : IsThere N first shared.tap.capture_dr.0
  shift : IsThere N first shared.tap.shift_dr.0
  tdi : IsThere N first shared.tdi.0
  opcode : (k : ℕ) → k < r.register.bits.len → IsThere N first (shared.opcode.0 + k)
  inverses : (k : ℕ) → k < r.register.bits.len → IsThere N first (shared.inverses.0 + k)
  wires : AllThere N first (net_feeds r.nets)

on_there : (N : NetlistView) (first : ℕ) (wanted : List Feed) → length N.nets ≤ first → 0 < length wanted → IsThere N (first + length wanted) (net_in (told_feed first wanted)).0
on_there N first [] from some = absurd (omega (arith, some))
on_there N first (w ∷ rest) from some = inr (omega (arith, from), omega arith)

register_handed : ConstantsAreBits → (N : NetlistView) (first : ℕ) (shared : SharedNets) (r : FittedRegister) (behind : NetId) → CanStandAt N first shared r → IsThere N first behind.0
    → AreHanded N first (register_parts first shared r behind)
register_handed constants N first shared r behind s there =
    let n : ℕ = r.register.bits.len in
    let wanted : List Feed = wanted_feeds r.register.bits in
    let count : length wanted ≡ n = (constants n r.register.bits.value).counted in
    let from = s.from in
    let some = s.some in
    let next : first ≤ first + n = omega arith in
    let on : IsThere N (first + n) (on_at first r).0 = subst (λ (k : ℕ). IsThere N (first + k) (on_at first r).0) count (on_there N first wanted s.from (omega (arith, some, count))) in
    let ps : List Part = opcode_parts first shared.opcode.0 shared.inverses.0 wanted in
    let qs : List Part = data_parts (first + n) shared.tap (on_at first r) shared.tdi (net_feeds r.nets) in
    let size : parts_size ps ≡ n = opcode_size first shared.opcode.0 shared.inverses.0 wanted ∙ count in
    let opcodes : AreHanded N first ps = opcode_handed N first shared.opcode.0 shared.inverses.0 wanted s.from (λ k low. s.opcode k (omega (arith, low, count))) (λ k low. s.inverses k (omega (arith, low, count))) in
    let bits : AreHanded N (first + n) qs = data_handed N (first + n) shared.tap (on_at first r) shared.tdi (net_feeds r.nets) (omega (arith, from))
    (later N first (first + n) shared.tap.tck.0 next s.tck) (later N first (first + n) shared.tap.trst.0 next s.trst) s.clock s.clear
    (later N first (first + n) shared.tap.capture_dr.0 next s.capture) (later N first (first + n) shared.tap.shift_dr.0 next s.shift)
    on (later N first (first + n) shared.tdi.0 next s.tdi) (all_later N first (first + n) (net_feeds r.nets) next s.wires) in
    let both : AreHanded N first (ps ++ qs) = handed_append N first ps qs opcodes (subst (λ (k : ℕ). AreHanded N (first + k) qs) (sym size) bits) in
    let joined = size_append ps qs in
    let wires = net_feeds_length r.nets in
    let data_sized = data_size (first + n) shared.tap (on_at first r) shared.tdi (net_feeds r.nets) in
    let whole : parts_size (ps ++ qs) ≡ n + bits_size r = omega (arith, joined, wires, data_sized, size) in
    let near : IsThere N (first + (n + bits_size r)) (near_at first shared r).0
    = later N (first + n + 2 + 3 * length (net_feeds r.nets)) (first + (n + bits_size r)) (near_at first shared r).0 (omega (arith, wires))
    (last_there N (first + n + 2) shared.tdi (net_feeds r.nets) (omega (arith, from)) (later N first (first + n + 2) shared.tdi.0 (omega arith) s.tdi)) in
    let last : IsHanded N (first + (n + bits_size r)) (shown_part behind (near_at first shared r) (on_at first r))
    = handed_gates N (first + (n + bits_size r)) SHOWN (1 ∷ []) (shown_given behind (near_at first shared r) (on_at first r)) (record { sound = refl; leveled = refl; plain = refl; controls = refl }) refl
    (later N first (first + (n + bits_size r)) behind.0 (omega arith) there, (near, (later N (first + n) (first + (n + bits_size r)) (on_at first r).0 (omega arith) on, tt))) in
    handed_behind N first (n + bits_size r) (ps ++ qs) (shown_part behind (near_at first shared r) (on_at first r)) whole both last

-- what is shown behind the registers is there
shown_there : (N : NetlistView) (first : ℕ) (bypass : NetId) (rs : List FittedRegister) → length N.nets ≤ first → IsThere N first bypass.0 → IsThere N (first + registers_size rs) (shown_of first bypass rs).0
shown_there N first bypass [] from there = later N first (first + 0) bypass.0 (omega arith) there
shown_there N first bypass (r ∷ rs) from there = inr (omega (arith, from), omega arith)

stand_later : (N : NetlistView) (at more : ℕ) (shared : SharedNets) (r : FittedRegister) → at ≤ more → CanStandAt N at shared r → CanStandAt N more shared r
stand_later N at more shared r h s = record {
  from = let a = s.from in omega (arith, a, h);
  some = s.some;
  tck = later N at more shared.tap.tck.0 h s.tck;
  trst = later N at more shared.tap.trst.0 h s.trst;
  clock = s.clock;
  clear = s.clear;
  capture = later N at more shared.tap.capture_dr.0 h s.capture;
  shift = later N at more shared.tap.shift_dr.0 h s.shift;
  tdi = later N at more shared.tdi.0 h s.tdi;
  opcode = λ k low. later N at more (shared.opcode.0 + k) h (s.opcode k low);
  inverses = λ k low. later N at more (shared.inverses.0 + k) h (s.inverses k low);
  wires = all_later N at more (net_feeds r.nets) h s.wires;
}

registers_handed : ConstantsAreBits → (N : NetlistView) (first : ℕ) (shared : SharedNets) (bypass : NetId) (rs : List FittedRegister) → length N.nets ≤ first → All (CanStandAt N first shared) rs
    → IsThere N first bypass.0 → AreHanded N first (registers_parts first shared bypass rs)
registers_handed constants N first shared bypass [] from all there = tt
registers_handed constants N first shared bypass (r ∷ rs) from all there =
    let n : ℕ = registers_size rs in
    let ps : List Part = registers_parts first shared bypass rs in
    let qs : List Part = register_parts (first + n) shared r (shown_of first bypass rs) in
    let before : AreHanded N first ps = registers_handed constants N first shared bypass rs from (All-tail (CanStandAt N first shared) r rs all) there in
    let this : AreHanded N (first + n) qs = register_handed constants N (first + n) shared r (shown_of first bypass rs)
    (stand_later N first (first + n) shared r (omega arith) (All-head (CanStandAt N first shared) r rs all)) (shown_there N first bypass rs from there) in
    handed_append N first ps qs before (subst (λ (k : ℕ). AreHanded N (first + k) qs) (sym (registers_parts_size constants first shared bypass rs)) this)

-- The whole.

wires_there : (N : NetlistView) (at : ℕ) (nets : List NetId) → All (λ (net : NetId). IsReadNet N net.0) nets → AllThere N at (net_feeds nets)
wires_there N at [] all = tt
wires_there N at (net ∷ nets) all =
    (inl (All-head (λ (n : NetId). IsReadNet N n.0) net nets all), wires_there N at nets (All-tail (λ (n : NetId). IsReadNet N n.0) net nets all))

can_stand : (N : NetlistView) (shared : SharedNets) (bits : ℕ) (r : FittedRegister) → shared.inverses.0 ≡ length N.nets → CanShare N shared bits → CanCapture N bits r
    → CanStandAt N (length N.nets + bits) shared r
can_stand N shared bits r inverses s c = let few = c.few in record {
  from = omega arith;
  some = c.some;
  tck = inl s.tck;
  trst = inl s.trst;
  clock = s.clock;
  clear = s.clear;
  capture = inl s.capture;
  shift = inl s.shift;
  tdi = inl s.tdi;
  opcode = λ k low. inl (s.opcode k (omega (arith, low, few)));
  inverses = λ k low. inr (omega (arith, inverses), omega (arith, inverses, low, few));
  wires = wires_there N (length N.nets + bits) r.nets c.wires;
}

all_stand : (N : NetlistView) (shared : SharedNets) (bits : ℕ) (rs : List FittedRegister) → shared.inverses.0 ≡ length N.nets → CanShare N shared bits → All (CanCapture N bits) rs
    → All (CanStandAt N (length N.nets + bits) shared) rs
all_stand N shared bits rs inverses s all = λ k d within. can_stand N shared bits _ inverses s (all k d within)

pub registers_formed : PartsAreFormed → ConstantsAreBits → RegistersAreFormed
registers_formed parts constants old new shared bypass bits rs laid formed once added inverses share shown all =
    let N : NetlistView = old.lists in
    let first : ℕ = length old.lists.nets in
    let number : ℕ = cell_count old.lists in
    let ps : List Part = inverse_parts shared.opcode.0 bits in
    let qs : List Part = registers_parts (first + bits) shared bypass rs in
    let xs : List CellView = inverses_cells first number shared.opcode.0 bits in
    let cells : parts_cells first number (ps ++ qs) ≡ xs ++ registers_cells (first + bits) (number + bits) shared bypass rs
    = both_behind first number bits ps qs xs (λ f k. registers_cells f k shared bypass rs) (inverse_cells_are first number shared.opcode.0 bits) (inverse_size shared.opcode.0 bits)
    (registers_cells_are constants (first + bits) (number + bits) shared bypass rs) in
    let both = size_append ps qs in
    let a = inverse_size shared.opcode.0 bits in
    let b = registers_parts_size constants (first + bits) shared bypass rs in
    let size : parts_size (ps ++ qs) ≡ bits + registers_size rs = omega (arith, both, a, b) in
    let P : ℕ → List CellView → Type 0 = λ n cs. Appended old new n cs in
    let added' : P (parts_size (ps ++ qs)) (parts_cells first number (ps ++ qs))
    = subst (λ (n : ℕ). P n (parts_cells first number (ps ++ qs))) (sym size) (subst (λ (cs : List CellView). P (bits + registers_size rs) cs) (sym cells) added) in
    let front : AreHanded N first ps = inverses_handed N first shared.opcode.0 bits share.opcode in
    let back : AreHanded N (first + bits) qs = registers_handed constants N (first + bits) shared bypass rs (omega arith) (all_stand N shared bits rs inverses share all) (inl shown) in
    let handed : AreHanded N first (ps ++ qs) = handed_append N first ps qs front (subst (λ (k : ℕ). AreHanded N (first + k) qs) (sym a) back) in
    parts old new (ps ++ qs) laid formed once added' handed
