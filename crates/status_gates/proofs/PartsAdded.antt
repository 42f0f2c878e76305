-- A register's gates are added one part after another, and registers one behind another.
use Rattle.std.proofs.Common.{◌≡◌, ℕ, zero, suc, ◌+◌, ◌*◌, ◌-◌, ◌<◌, ◌≤◌, List, [], ◌∷◌, ◌++◌, take, drop, length, length-append, refl, sym, ap, subst, ◌∙◌, arith, Some}
use Rattle.std.specs.Prelude.{slice_get, All}
use Rattle.std.proofs.Math.Seq.{drop-cons, drop-length}
use Rattle.std.proofs.lemmas.Option.{slice_get_within, get_or_from_slice_get}
use Rattle.std.proofs.lemmas.List.Elements.{All-nil, All-cons, All-head, All-tail}
use Rattle.cell_library.specs.declared.codes.Bits.{Bits}
use Rattle.netlist_model.specs.declared.NetId.{NetId}
use Rattle.netlist_model.specs.declared.Feed.{Feed}
use Rattle.netlist_model.specs.Lists.{CellView, cell_count}
use Rattle.netlist_model.specs.Below.{IsNetBelow}
use Rattle.netlist_arena.specs.Arena.{ArenaView}
use Rattle.gate_parts.specs.Appended.{Appended}
use Rattle.gate_parts.specs.Parts.{part_cells}
use Rattle.test_logic.specs.declared.TapNets.{TapNets}
use Rattle.register_gates.specs.Chains.{chain_last, chain_cells}
use Rattle.register_gates.proofs.Lengths.{chain_length}
use Rattle.register_gates.specs.Constants.{constant_bits, ConstantsAreBits}
use Rattle.register_gates.specs.Registers.{selected_cells, selected_steering, data_cells, data_last}
use Rattle.register_gates.specs.Steps.{AddedInTurn}
use Rattle.status_fitting.specs.declared.fitted.FittedRegister.{FittedRegister}
use Rattle.status_gates.specs.declared.TheConstants.{SHOWN}
use Rattle.status_gates.specs.Opcodes.{told_feed, opcode_cells}
use Rattle.status_gates.specs.Shown.{shown_given}
use Rattle.status_gates.specs.Wires.{net_feeds}
use Rattle.status_gates.proofs.Added.{opcode_length}
use Rattle.status_gates.proofs.Feeds.{net_feeds_length}
use Rattle.status_gates.specs.declared.parts.SharedNets.{SharedNets}
use Rattle.status_gates.specs.Registers.{wanted_feeds, net_in, bits_size, register_size, on_at, near_at, shown_at, register_cells, registers_size, shown_of, registers_cells, CanStand}

pub data_length : (first number : ℕ) (tap : TapNets) (on tdi : NetId) (captured : List Feed) → length (data_cells first number tap on tdi captured) ≡ 2 + 3 * length captured
data_length first number tap on tdi captured =
    let front : List CellView = selected_cells first number tap on in
    let bits : List CellView = chain_cells (first + 2) (number + 2) (selected_steering first tap) tdi captured in
    let both = length-append front bits in
    let two : length front ≡ 2 = refl in
    let many = chain_length (first + 2) (number + 2) (selected_steering first tap) tdi captured in
    omega (arith, both, two, many)

-- the parts of one register
pub register_added : AddedInTurn → ConstantsAreBits → (old one two new : ArenaView) (shared : SharedNets) (r : FittedRegister) (behind on near : NetId) (wanted : List Feed) (told : Feed)
    → wanted ≡ wanted_feeds r.register.bits → told ≡ told_feed (length old.lists.nets) wanted → on ≡ net_in told
    → near ≡ data_last (length one.lists.nets) shared.tdi (net_feeds r.nets) → length one.lists.nets ≡ length old.lists.nets + r.register.bits.len
    → Appended old one (length wanted) (opcode_cells (length old.lists.nets) (cell_count old.lists) shared.opcode.0 shared.inverses.0 wanted)
    → Appended one two (bits_size r) (data_cells (length one.lists.nets) (cell_count one.lists) shared.tap on shared.tdi (net_feeds r.nets))
    → Appended two new 1 (part_cells SHOWN (shown_given behind near on) (length two.lists.nets) (cell_count two.lists))
    → Appended old new (register_size r) (register_cells (length old.lists.nets) (cell_count old.lists) shared r behind)
register_added in_turn constants old one two new shared r behind on near wanted told wanted_is told_is on_is near_is nets a b c =
    let first : ℕ = length old.lists.nets in
    let number : ℕ = cell_count old.lists in
    let n : ℕ = r.register.bits.len in
    let feeds : List Feed = net_feeds r.nets in
    let count : length wanted ≡ n = ap (λ (w : List Feed). length w) wanted_is ∙ (constants n r.register.bits.value).counted in
    let on_e : on ≡ on_at first r = on_is ∙ ap net_in (told_is ∙ ap (told_feed first) wanted_is) in
    let near_e : near ≡ near_at first shared r = near_is ∙ ap (λ (k : ℕ). data_last k shared.tdi feeds) nets in
    let xs : List CellView = opcode_cells first number shared.opcode.0 shared.inverses.0 (wanted_feeds r.register.bits) in
    let ys : List CellView = data_cells (first + n) (number + n) shared.tap (on_at first r) shared.tdi feeds in
    let A : ℕ → List Feed → Type 0 = λ k w. Appended old one k (opcode_cells first number shared.opcode.0 shared.inverses.0 w) in
    let a' : A n (wanted_feeds r.register.bits) = subst (λ (k : ℕ). A k (wanted_feeds r.register.bits)) count (subst (λ (w : List Feed). A (length wanted) w) wanted_is a) in
    let B : NetId → Type 0 = λ o. Appended one two (bits_size r) (data_cells (length one.lists.nets) (cell_count one.lists) shared.tap o shared.tdi feeds) in
    let long : length xs ≡ n = opcode_length first number shared.opcode.0 shared.inverses.0 (wanted_feeds r.register.bits) ∙ (constants n r.register.bits.value).counted in
    let ab = in_turn old one two n (bits_size r) (n + bits_size r) xs (λ f k. data_cells f k shared.tap (on_at first r) shared.tdi feeds) a' long (subst B on_e b) refl in
    let C : NetId → NetId → Type 0 = λ o e. Appended two new 1 (part_cells SHOWN (shown_given behind e o) (length two.lists.nets) (cell_count two.lists)) in
    let c' : C (on_at first r) (near_at first shared r) = subst (λ (e : NetId). C (on_at first r) e) near_e (subst (λ (o : NetId). C o near) on_e c) in
    let both = length-append xs ys in
    let bits = data_length (first + n) (number + n) shared.tap (on_at first r) shared.tdi feeds in
    let wires = net_feeds_length r.nets in
    let whole : length (xs ++ ys) ≡ n + bits_size r = omega (arith, both, bits, wires, long) in
    in_turn old two new (n + bits_size r) 1 (register_size r) (xs ++ ys) (λ f k. part_cells SHOWN (shown_given behind (near_at first shared r) (on_at first r)) f k) ab whole c' refl

-- what a register hands on is there
last_below : (first n : ℕ) (tdi : NetId) (captured : List Feed) → tdi.0 < n → first + 3 * length captured ≤ n → (chain_last first tdi captured).0 < n
last_below first n tdi [] low most = low
last_below first n tdi (c ∷ rest) low most = omega (arith, most)

pub near_below : (k n : ℕ) (shared : SharedNets) (nets : List NetId) (near : NetId) → near ≡ data_last k shared.tdi (net_feeds nets) → shared.tdi.0 < n → k + (2 + 3 * length nets) ≤ n → near.0 < n
near_below k n shared nets near is low most =
    let wires = net_feeds_length nets in
    subst (λ (e : NetId). e.0 < n) (sym is) (last_below (k + 2) n shared.tdi (net_feeds nets) low (omega (arith, wires, most)))

pub on_below : (first n : ℕ) (wanted : List Feed) (told : Feed) (on : NetId) → told ≡ told_feed first wanted → on ≡ net_in told → 0 < length wanted → first + length wanted ≤ n → on.0 < n
on_below first n wanted told on told_is on_is some most = subst (λ (e : NetId). e.0 < n) (sym (on_is ∙ ap net_in told_is)) (below wanted some most)
  where
    below : (items : List Feed) → 0 < length items → first + length items ≤ n → (net_in (told_feed first items)).0 < n
    below [] s m = absurd (omega (arith, s))
    below (item ∷ rest) s m = omega (arith, m)

pub nets_below : (few n : ℕ) (nets : List NetId) → few ≤ n → All (IsNetBelow few) nets → All (IsNetBelow n) nets
nets_below few n [] more all = All-nil (IsNetBelow n)
nets_below few n (net ∷ nets) more all =
    let head = All-head (IsNetBelow few) net nets all in
    All-cons (IsNetBelow n) net nets (omega (arith, more, head)) (nets_below few n nets more (All-tail (IsNetBelow few) net nets all))

pub same_net : (net : NetId) (k : ℕ) → net.0 ≡ k → net ≡ record { 0 = k }
same_net net k e = ap (λ (n : ℕ). (let id : NetId = record { 0 = n } in id)) e

-- what a register stands on is there when more was added
pub stands_later : (few n : ℕ) (shared : SharedNets) (r : FittedRegister) → few ≤ n → CanStand few shared r → CanStand n shared r
stands_later few n shared r more s =
    let a = s.clock.0 in
    let b = s.clock.1 in
    let c = s.steps.0 in
    let d = s.steps.1 in
    record {
      some = s.some;
      few = s.few;
      wires = s.wires;
      clock = (omega (arith, more, a), omega (arith, more, b));
      steps = (omega (arith, more, c), omega (arith, more, d));
      tdi = let e = s.tdi in omega (arith, more, e);
      opcode = let e = s.opcode in omega (arith, more, e);
      inverses = let e = s.inverses in omega (arith, more, e);
      captured = nets_below few n r.nets more s.captured;
    }

-- All registers.

pub registers_length : ConstantsAreBits → (first number : ℕ) (shared : SharedNets) (bypass : NetId) (rs : List FittedRegister)
    → length (registers_cells first number shared bypass rs) ≡ registers_size rs
registers_length constants first number shared bypass [] = refl
registers_length constants first number shared bypass (r ∷ rs) =
    let n : ℕ = r.register.bits.len in
    let f : ℕ = first + registers_size rs in
    let k : ℕ = number + registers_size rs in
    let front : List CellView = registers_cells first number shared bypass rs in
    let xs : List CellView = opcode_cells f k shared.opcode.0 shared.inverses.0 (wanted_feeds r.register.bits) in
    let ys : List CellView = data_cells (f + n) (k + n) shared.tap (on_at f r) shared.tdi (net_feeds r.nets) in
    let zs : List CellView = part_cells SHOWN (shown_given (shown_of first bypass rs) (near_at f shared r) (on_at f r)) (f + (n + bits_size r)) (k + (n + bits_size r)) in
    let one : length zs ≡ 1 = refl in
    let outer = length-append front ((xs ++ ys) ++ zs) in
    let inner = length-append (xs ++ ys) zs in
    let both = length-append xs ys in
    let long : length xs ≡ n = opcode_length f k shared.opcode.0 shared.inverses.0 (wanted_feeds r.register.bits) ∙ (constants n r.register.bits.value).counted in
    let bits = data_length (f + n) (k + n) shared.tap (on_at f r) shared.tdi (net_feeds r.nets) in
    let wires = net_feeds_length r.nets in
    let before = registers_length constants first number shared bypass rs in
    omega (arith, one, outer, inner, both, long, bits, wires, before)

-- the gates of these registers, the last first
pub record AddedFrom (old new : ArenaView) (shared : SharedNets) (bypass : NetId) (rs : List FittedRegister) (shown : NetId) : Type 0 where
  pub added : Appended old new (registers_size rs) (registers_cells (length old.lists.nets) (cell_count old.lists) shared bypass rs)
  pub shown_is : shown ≡ shown_of (length old.lists.nets) bypass rs

pub added_none : (old : ArenaView) (shared : SharedNets) (bypass : NetId) (rs : List FittedRegister) → Appended old old 0 [] → AddedFrom old old shared bypass (drop (length rs) rs) bypass
added_none old shared bypass rs added =
    let P : List FittedRegister → Type 0 = λ rest. AddedFrom old old shared bypass rest bypass in
    subst P (sym (drop-length rs)) (record { added = added; shown_is = refl })

added_more : AddedInTurn → ConstantsAreBits → (old middle new : ArenaView) (shared : SharedNets) (bypass : NetId) (r : FittedRegister) (rest : List FittedRegister) (shown net : NetId)
    → AddedFrom old middle shared bypass rest shown → length middle.lists.nets ≡ length old.lists.nets + registers_size rest
    → Appended middle new (register_size r) (register_cells (length middle.lists.nets) (cell_count middle.lists) shared r shown)
    → net ≡ shown_at (length middle.lists.nets) r → AddedFrom old new shared bypass (r ∷ rest) net
added_more in_turn constants old middle new shared bypass r rest shown net before nets step net_is =
    let first : ℕ = length old.lists.nets in
    let number : ℕ = cell_count old.lists in
    let Q : NetId → Type 0 = λ s. Appended middle new (register_size r) (register_cells (length middle.lists.nets) (cell_count middle.lists) shared r s) in
    record {
      added = in_turn old middle new (registers_size rest) (register_size r) (registers_size (r ∷ rest)) (registers_cells first number shared bypass rest)
          (λ f k. register_cells f k shared r (shown_of first bypass rest)) before.added (registers_length constants first number shared bypass rest) (subst Q before.shown_is step) refl;
      shown_is = net_is ∙ ap (λ (k : ℕ). shown_at k r) nets;
    }

pub added_step : AddedInTurn → ConstantsAreBits → (old middle new : ArenaView) (shared : SharedNets) (bypass : NetId) (place : ℕ) (rs : List FittedRegister) (r : FittedRegister) (shown net : NetId)
    → 0 < place → place ≤ length rs → slice_get rs (place - 1) ≡ Some r → AddedFrom old middle shared bypass (drop place rs) shown
    → length middle.lists.nets ≡ length old.lists.nets + registers_size (drop place rs)
    → Appended middle new (register_size r) (register_cells (length middle.lists.nets) (cell_count middle.lists) shared r shown)
    → net ≡ shown_at (length middle.lists.nets) r → AddedFrom old new shared bypass (drop (place - 1) rs) net
added_step in_turn constants old middle new shared bypass place rs r shown net low high at before nets step net_is =
    let n : suc (place - 1) ≡ place = omega (arith, low) in
    let below = slice_get_within rs (place - 1) r at in
    let e : drop (place - 1) rs ≡ r ∷ drop (suc (place - 1)) rs
    = drop-cons rs (place - 1) r below ∙ ap (λ (x : FittedRegister). x ∷ drop (suc (place - 1)) rs) (get_or_from_slice_get rs (place - 1) r r at) in
    let B : ℕ → Type 0 = λ k. AddedFrom old middle shared bypass (drop k rs) shown in
    let M : ℕ → Type 0 = λ k. length middle.lists.nets ≡ length old.lists.nets + registers_size (drop k rs) in
    let P : List FittedRegister → Type 0 = λ rest. AddedFrom old new shared bypass rest net in
    subst P (sym e) (added_more in_turn constants old middle new shared bypass r (drop (suc (place - 1)) rs) shown net (subst B (sym n) before) (subst M (sym n) nets) step net_is)

-- what the registers behind a place take, and what that one takes with them
pub sizes_split : (rs : List FittedRegister) (k : ℕ) (r : FittedRegister) → slice_get rs k ≡ Some r → registers_size (drop (suc k) rs) + register_size r ≤ registers_size rs
sizes_split [] k r at = absurd (no at)
  where
    no : slice_get [] k ≡ Some r → ⊥
    no h = cc
sizes_split (q ∷ qs) zero r at =
    let e : register_size q ≡ register_size r = ap register_size (first q r at) in
    omega (arith, e)
  where
    first : (a b : FittedRegister) → Some a ≡ Some b → a ≡ b
    first a b h = cc
sizes_split (q ∷ qs) (suc k) r at =
    let before = sizes_split qs k r at in
    omega (arith, before)

pub shown_below : (first n : ℕ) (bypass : NetId) (rs : List FittedRegister) (shown : NetId) → shown ≡ shown_of first bypass rs → bypass.0 < n → first + registers_size rs ≤ n → shown.0 < n
shown_below first n bypass rs shown is low most = subst (λ (e : NetId). e.0 < n) (sym is) (below rs most)
  where
    below : (items : List FittedRegister) → first + registers_size items ≤ n → (shown_of first bypass items).0 < n
    below [] m = low
    below (r ∷ rest) m = omega (arith, m)

-- the bits of the opcode, of which 32 were made
pub wanted_is : ConstantsAreBits → (bits : Bits) (written : List Feed) → written ≡ constant_bits 32 bits.value → bits.len ≤ 32 → take bits.len written ≡ wanted_feeds bits
wanted_is constants bits written e few = ap (λ (fs : List Feed). take bits.len fs) e ∙ (constants bits.len bits.value).fewer 32 few

pub wanted_count : ConstantsAreBits → (bits : Bits) (written : List Feed) → written ≡ constant_bits 32 bits.value → bits.len ≤ 32 → length (take bits.len written) ≡ bits.len
wanted_count constants bits written e few = ap (λ (fs : List Feed). length fs) (wanted_is constants bits written e few) ∙ (constants bits.len bits.value).counted

-- the same with the place behind it
pub split_at : (rs : List FittedRegister) (place : ℕ) (r : FittedRegister) → 0 < place → slice_get rs (place - 1) ≡ Some r → registers_size (drop place rs) + register_size r ≤ registers_size rs
split_at rs place r low at =
    let n : suc (place - 1) ≡ place = omega (arith, low) in
    subst (λ (k : ℕ). registers_size (drop k rs) + register_size r ≤ registers_size rs) n (sizes_split rs (place - 1) r at)

-- at the first place all are there
pub added_whole : (old new : ArenaView) (shared : SharedNets) (bypass : NetId) (place : ℕ) (rs : List FittedRegister) (shown : NetId) → place ≡ 0
    → AddedFrom old new shared bypass (drop place rs) shown → AddedFrom old new shared bypass rs shown
added_whole old new shared bypass place rs shown none from = subst (λ (k : ℕ). AddedFrom old new shared bypass (drop k rs) shown) none from
