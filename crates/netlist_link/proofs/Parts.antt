-- Where parts and drivers are appended, a well-formed netlist stays so.
use Rattle.std.proofs.Common.{◌≡◌, ◌≢◌, ℕ, zero, suc, ◌+◌, ◌-◌, ◌<◌, ◌≤◌, ◌&&◌, not, true, false, Bool, IsTrue, List, [], ◌∷◌, map, length, refl, ap, sym, subst, ◌∙◌, inl, inr, arith, Option, unwrap_or}
use Rattle.std.specs.Prelude.{Some, None, slice_get}
use Rattle.std.specs.List.{list_all}
use Rattle.std.proofs.lemmas.Bool.{cases_lt}
use Rattle.std.proofs.lemmas.List.{length-map}
use Rattle.list_laws.proofs.Tests.{both_hold, then_holds}
use Rattle.list_laws.proofs.Lists.{slice_get_there}
use Rattle.cell_library.specs.declared.Kind.{Kind}
use Rattle.cell_library.specs.declared.Kind.TheVariants.{Flop, Listed}
use Rattle.cell_library.specs.declared.listed.ListedCell.{ListedCell}
use Rattle.cell_library.specs.declared.FlopKind.{FlopKind}
use Rattle.cell_library.specs.Gates.{is_three_state, is_flop, flop_of, Takes}
use Rattle.netlist_model.specs.declared.Feed.{Feed}
use Rattle.netlist_model.specs.declared.Feed.TheVariants.{Net, Const}
use Rattle.netlist_model.specs.Below.{IsFeedBelow}
use Rattle.netlist_model.specs.declared.NetId.{NetId}
use Rattle.netlist_model.specs.Lists.{CellView, NetlistView, cell_at, cell_count, direction}
use Rattle.netlist_model.specs.Formed.{FeedsBelow, IsDriven, IsLaidOut, IsNumbered, IsWellFormed}
use Rattle.netlist_model.specs.Settle.{IsDrivenOnce}
use Rattle.netlist_model.specs.Ports.{DirectionHasBit}
use Rattle.netlist_arena.specs.Arena.{ArenaView}
use Rattle.netlist_arena.proofs.Laid.{All-slice_get}
use Rattle.gate_parts.specs.declared.Pin.{Pin}
use Rattle.gate_parts.specs.declared.Pin.TheVariants.{Own, Given}
use Rattle.gate_parts.specs.declared.Gate.{Gate}
use Rattle.gate_parts.specs.Parts.{feed_of, is_flop_kind, pins_of, gate_cell, cells_from, part_cells, takes_few, is_sound_pin, is_sound_gate}
use Rattle.gate_parts.specs.Levels.{AreNumbered, IsNumberedCell, LevelsNumber}
use Rattle.gate_parts.specs.Appended.{Appended}
use Rattle.gate_parts.specs.Laws.{AppendedGrows}
use Rattle.gate_parts.proofs.PinCounts.{takes_by, no_flop_kind, pins_few}
use Rattle.gate_parts.proofs.Ports.{no_port_past}
use Rattle.netlist_link.specs.Readable.{CanBeRead, IsPure}
use Rattle.netlist_link.specs.Grown.{IsOneOf, AddsCells, AreSoundCells}
use Rattle.netlist_link.specs.DraftLawsTables.{is_assign, is_plain, is_given, rest_is_given, has_given_controls, IsPartTable, CanBeGiven, PartIsFormed, PartIsReadable, IsDriverOn, DriverIsFormed}
use Rattle.netlist_link.proofs.Growth.{grown_formed, pure_stays_so, readable_stays_so}
use Rattle.netlist_link.proofs.Ranks.{SameOn, below_same, greatest, up_to_greatest, below_greatest, part_rank, part_rank_old, part_rank_new, with_rank, with_rank_here, with_rank_other}

-- what is appended is added
pub adds_appended : AppendedGrows → (old new : ArenaView) (count : ℕ) (part : List CellView) → Appended old new count part → AddsCells old.lists new.lists part
adds_appended grows old new count part added = record {
  library = added.library;
  ports = added.ports;
  kept = (grows old new count part added).cells;
  either = λ i cell live. elim (cases_lt i (cell_count old.lists)) [
    | inl low ↦ inl (sym (added.kept i low) ∙ live)
    | inr past ↦ (let k : ℕ = i - cell_count old.lists in
        let e : cell_count old.lists + k ≡ i = omega arith in
        let at : cell_at new.lists i ≡ slice_get part k = rw e at (added.added k) in inr (record { place = k; at = sym at ∙ live }))
  ];
}

-- the gate of a cell
pub record IsGateAt (first : ℕ) (given : List Feed) (number net : ℕ) (gates : List Gate) (k : ℕ) (cell : CellView) : Type 0 where
  pub gate : Gate
  pub at : slice_get gates k ≡ Some gate
  pub same : gate_cell first given (number + k) (net + k) gate ≡ cell

pub gate_at : (first : ℕ) (given : List Feed) (number net : ℕ) (gates : List Gate) (k : ℕ) (cell : CellView) → slice_get (cells_from first given number net gates) k ≡ Some cell
    → IsGateAt first given number net gates k cell
gate_at first given number net [] k cell at = absurd (cc)
gate_at first given number net (gate ∷ gates) zero cell at =
    let a : number + 0 ≡ number = omega arith in
    let b : net + 0 ≡ net = omega arith in
    record { gate = gate; at = refl; same = rw (a, b) cc }
gate_at first given number net (gate ∷ gates) (suc k) cell at =
    let rest = gate_at first given (suc number) (suc net) gates k cell at in
    let a : number + suc k ≡ suc number + k = omega arith in
    let b : net + suc k ≡ suc net + k = omega arith in
    record { gate = rest.gate; at = rest.at; same = rw (a, b) rest.same }

cell_of_gate : (first : ℕ) (given : List Feed) (number net : ℕ) (gates : List Gate) (k : ℕ) (gate : Gate) → slice_get gates k ≡ Some gate
    → slice_get (cells_from first given number net gates) k ≡ Some (gate_cell first given (number + k) (net + k) gate)
cell_of_gate first given number net [] k gate at = absurd (cc)
cell_of_gate first given number net (g ∷ gates) zero gate at =
    let a : number + 0 ≡ number = omega arith in
    let b : net + 0 ≡ net = omega arith in
    let same : g ≡ gate = cc in
    rw (a, b, same) refl
cell_of_gate first given number net (g ∷ gates) (suc k) gate at =
    let a : number + suc k ≡ suc number + k = omega arith in
    let b : net + suc k ≡ suc net + k = omega arith in
    rw (a, b) (cell_of_gate first given (suc number) (suc net) gates k gate at)

-- an element of a list all of which pass
pub all_at : {X : Type 0} (test : X → Bool) (xs : List X) (k : ℕ) (x : X) → IsTrue (list_all test xs) → slice_get xs k ≡ Some x → IsTrue (test x)
all_at test [] k x all at = absurd (cc)
all_at test (y ∷ ys) zero x all at = let same : y ≡ x = cc in rw same at (both_hold (test y) (list_all test ys) all).0
all_at test (y ∷ ys) (suc k) x all at = all_at test ys k x (both_hold (test y) (list_all test ys) all).1 at

-- the pin of an operand
pub record IsPinAt (first : ℕ) (given : List Feed) (pins : List Pin) (place : ℕ) (feed : Feed) : Type 0 where
  pub pin : Pin
  pub at : slice_get pins place ≡ Some pin
  pub same : feed_of first given pin ≡ feed

pub pin_at : (first : ℕ) (given : List Feed) (pins : List Pin) (place : ℕ) (feed : Feed) → slice_get (map (feed_of first given) pins) place ≡ Some feed → IsPinAt first given pins place feed
pin_at first given [] place feed at = absurd (cc)
pin_at first given (pin ∷ pins) zero feed at = record { pin = pin; at = refl; same = cc }
pin_at first given (pin ∷ pins) (suc place) feed at = let rest = pin_at first given pins place feed at in record { pin = rest.pin; at = rest.at; same = rest.same }

pub given_at : (given : List Feed) (j : ℕ) (net : NetId) → unwrap_or (slice_get given j) (Const false) ≡ Net net → slice_get given j ≡ Some (Net net)
given_at [] j net e = absurd (cc)
given_at (f ∷ fs) zero net e = ap (λ (x : Feed). Some x) e
given_at (f ∷ fs) (suc j) net e = given_at fs j net e

pub own_net : (first j net : ℕ) → Net (record { 0 = first + j }) ≡ Net (record { 0 = net }) → first + j ≡ net
own_net first j net e = ap (λ (f : Feed). elim f [ Net n ↦ n.0 | Const b ↦ 0 ]) e

output_net : (a b : ℕ) → ◌≡◌ {A = Option NetId} (Some (record { 0 = a })) (Some (record { 0 = b })) → a ≡ b
output_net a b e = ap (λ (o : Option NetId). elim o [ None ↦ 0 | Some n ↦ n.0 ]) e

-- a part that is appended
pub record IsAppendedPart (old new : ArenaView) (gates : List Gate) (levels : List ℕ) (given : List Feed) : Type 0 where
  pub laid : IsLaidOut old.lists
  pub formed : IsWellFormed old.lists
  pub once : IsDrivenOnce new.lists
  pub added : Appended old new (length gates) (part_cells gates given (length old.lists.nets) (cell_count old.lists))
  pub table : IsPartTable gates levels (length given)
  pub can : CanBeGiven old.lists gates given
  pub adds : AddsCells old.lists new.lists (part_cells gates given (length old.lists.nets) (cell_count old.lists))
  pub past : (net : ℕ) → length old.lists.nets ≤ net → direction new.lists.ports net ≡ None

abbrev pub part_of : ArenaView → List Gate → List Feed → List CellView
part_of old gates given = part_cells gates given (length old.lists.nets) (cell_count old.lists)

abbrev pub gate_of : (old : ArenaView) (gates : List Gate) (given : List Feed) (cell : CellView) (of : IsOneOf (part_of old gates given) cell)
    → IsGateAt (length old.lists.nets) given (cell_count old.lists) (length old.lists.nets) gates of.place cell
gate_of old gates given cell of = gate_at (length old.lists.nets) given (cell_count old.lists) (length old.lists.nets) gates of.place cell of.at

-- an added cell drives the net of its place
pub output_of : (old : ArenaView) (gates : List Gate) (given : List Feed) (cell : CellView) (of : IsOneOf (part_of old gates given) cell) (net : ℕ) → cell.output ≡ Some (record { 0 = net })
    → length old.lists.nets + of.place ≡ net
output_of old gates given cell of net e =
    let g = gate_of old gates given cell of in
    output_net (length old.lists.nets + of.place) net (ap (λ (c : CellView). c.output) g.same ∙ e)

pub wires_of_part : (old new : ArenaView) (gates : List Gate) (levels : List ℕ) (given : List Feed) → IsAppendedPart old new gates levels given → (cell : CellView) (out : ℕ)
    → IsOneOf (part_of old gates given) cell → cell.output ≡ Some (record { 0 = out }) → direction new.lists.ports out ≡ None
wires_of_part old new gates levels given c cell out of e = let at = output_of old gates given cell of out e in c.past out (omega (arith, at))

-- a gate of a table that is a flip-flop of some library is one of the six kinds
flop_kind_of : (library : List ListedCell) (kind : Kind) (flop : FlopKind) (count : ℕ) → IsTrue (takes_few kind count) → flop_of library kind ≡ Some flop → is_flop_kind kind ≡ true
flop_kind_of library (Listed number) flop count few is = absurd (let e : false ≡ true = few in cc)
flop_kind_of library (Flop kind) flop count few is = refl
flop_kind_of library kind flop count few is = absurd (let e : None ≡ Some flop = is in cc)

plain_gate : (kind : Kind) → IsTrue (is_plain kind) → is_three_state kind ≡ false
plain_gate kind plain = plain_by (is_three_state kind) (not (is_assign kind)) plain
  where
    plain_by : (a b : Bool) → IsTrue (not a && b) → a ≡ false
    plain_by true b h = absurd (cc)
    plain_by false b h = refl

pub two_state_of : (old new : ArenaView) (gates : List Gate) (levels : List ℕ) (given : List Feed) → IsAppendedPart old new gates levels given → (cell : CellView) → IsOneOf (part_of old gates given) cell
    → is_three_state cell.kind ≡ false
two_state_of old new gates levels given c cell of =
    let g = gate_of old gates given cell of in
    let plain = all_at (λ (gate : Gate). is_plain gate.kind) gates of.place g.gate c.table.plain g.at in
    ap (λ (x : CellView). is_three_state x.kind) (sym g.same) ∙ plain_gate g.gate.kind plain

-- the net of a gate of the part can be read
pub own_readable : (old new : ArenaView) (gates : List Gate) (levels : List ℕ) (given : List Feed) → IsAppendedPart old new gates levels given → (j : ℕ) → j < length gates
    → CanBeRead new.lists (length old.lists.nets + j)
own_readable old new gates levels given c j low =
    let gate = slice_get_there gates j low in
    let cell : CellView = gate_cell (length old.lists.nets) given (cell_count old.lists + j) (length old.lists.nets + j) gate.0 in
    let at = cell_of_gate (length old.lists.nets) given (cell_count old.lists) (length old.lists.nets) gates j gate.0 gate.1 in
    let out : direction new.lists.ports (length old.lists.nets + j) ≡ None = c.past (length old.lists.nets + j) (omega arith) in
    record {
      driven = λ e. record { number = cell_count old.lists + j; cell = cell; drives = record { live = c.added.added j ∙ at; output = refl } };
      steady = λ i other d three e. (let no = sym out ∙ e in cc);
    }

readable_pin : (old new : ArenaView) (gates : List Gate) (levels : List ℕ) (given : List Feed) → IsAppendedPart old new gates levels given → (pin : Pin) (net : ℕ)
    → IsTrue (is_sound_pin (length gates) (length given) pin) → feed_of (length old.lists.nets) given pin ≡ Net (record { 0 = net }) → CanBeRead new.lists net
readable_pin old new gates levels given c (Own j) net sound e =
    let low : j < length gates = grind (arith, sound) in
    rw (own_net (length old.lists.nets) j net e) at (own_readable old new gates levels given c j low)
readable_pin old new gates levels given c (Given j) net sound e =
    readable_stays_so old.lists new.lists (part_of old gates given) net c.adds (two_state_of old new gates levels given c)
    (c.can.read j net (given_at given j (record { 0 = net }) e))

rest_given_at : (pins : List Pin) (p : ℕ) (pin : Pin) → IsTrue (rest_is_given pins) → slice_get pins (suc p) ≡ Some pin → IsTrue (is_given pin)
rest_given_at [] p pin given at = absurd (cc)
rest_given_at (first ∷ pins) p pin given at = all_at is_given pins p pin given at

control_pin : (old new : ArenaView) (gates : List Gate) (levels : List ℕ) (given : List Feed) → IsAppendedPart old new gates levels given → (k p net : ℕ) (gate : Gate) (pin : Pin)
    → slice_get gates k ≡ Some gate → is_flop_kind gate.kind ≡ true → slice_get (pins_of gate.pins) (suc p) ≡ Some pin → IsTrue (is_given pin)
    → feed_of (length old.lists.nets) given pin ≡ Net (record { 0 = net }) → IsPure new.lists net
control_pin old new gates levels given c k p net gate (Own j) at flop has is e = absurd (let no : false ≡ true = is in cc)
control_pin old new gates levels given c k p net gate (Given j) at flop has is e =
    pure_stays_so old.lists new.lists (part_of old gates given) net c.formed c.adds c.once (wires_of_part old new gates levels given c)
    (c.can.control j net (record { place = k; gate = gate; pin = p; at = at; flop = flop; has = has }) (given_at given j (record { 0 = net }) e))

control_of : (old new : ArenaView) (gates : List Gate) (levels : List ℕ) (given : List Feed) → IsAppendedPart old new gates levels given → (cell : CellView) → IsOneOf (part_of old gates given) cell
    → (kind : FlopKind) (p net : ℕ) → flop_of new.lists.library cell.kind ≡ Some kind → slice_get cell.feeds (suc p) ≡ Some (Net (record { 0 = net })) → IsPure new.lists net
control_of old new gates levels given c cell of kind p net is at =
    let g = gate_of old gates given cell of in
    let feeds = ap (λ (x : CellView). slice_get x.feeds (suc p)) g.same ∙ at in
    let pin = pin_at (length old.lists.nets) given (pins_of g.gate.pins) (suc p) (Net (record { 0 = net })) feeds in
    let fits = both_hold (takes_few g.gate.kind (length (pins_of g.gate.pins))) (list_all (is_sound_pin (length gates) (length given)) (pins_of g.gate.pins))
    (all_at (is_sound_gate (length gates) (length given)) gates of.place g.gate c.table.sound g.at) in
    let flop : is_flop_kind g.gate.kind ≡ true = flop_kind_of new.lists.library g.gate.kind kind (length (pins_of g.gate.pins)) fits.0 (ap (λ (x : CellView). flop_of new.lists.library x.kind) g.same ∙ is) in
    let controls = then_holds (is_flop_kind g.gate.kind) (rest_is_given (pins_of g.gate.pins)) (all_at has_given_controls gates of.place g.gate c.table.controls g.at) flop in
    control_pin old new gates levels given c of.place p net g.gate pin.pin g.at flop pin.at (rest_given_at (pins_of g.gate.pins) p pin.pin controls pin.at) pin.same

sound_part : (old new : ArenaView) (gates : List Gate) (levels : List ℕ) (given : List Feed) → IsAppendedPart old new gates levels given → AreSoundCells new.lists (part_of old gates given)
sound_part old new gates levels given c cell of =
    let g = gate_of old gates given cell of in
    let pins : List Pin = pins_of g.gate.pins in
    let sound = both_hold (takes_few g.gate.kind (length pins)) (list_all (is_sound_pin (length gates) (length given)) pins)
    (all_at (is_sound_gate (length gates) (length given)) gates of.place g.gate c.table.sound g.at) in
    let takes : Takes new.lists.library g.gate.kind (length pins) = takes_by new.lists.library g.gate.kind (length pins) sound.0 (pins_few g.gate.pins) in
    record {
      takes = subst (λ (x : CellView). Takes new.lists.library x.kind (length x.feeds)) g.same (let e = length-map pins (feed_of (length old.lists.nets) given) in rw (sym e) at takes);
      two_state = two_state_of old new gates levels given c cell of;
      output = λ net e. wires_of_part old new gates levels given c cell net of e;
      reads = λ place net at.
          let feeds = ap (λ (x : CellView). slice_get x.feeds place) g.same ∙ at in
          let pin = pin_at (length old.lists.nets) given pins place (Net (record { 0 = net })) feeds in
          readable_pin old new gates levels given c pin.pin net (all_at (is_sound_pin (length gates) (length given)) pins place pin.pin sound.1 pin.at) pin.same;
      controls = λ kind place net is where_it at. elim where_it [
        | inl one ↦ control_of old new gates levels given c cell of kind 0 net is (rw one at at)
        | inr two ↦ control_of old new gates levels given c cell of kind 1 net is (rw two at at)
      ];
    }

numbered_at : (rank : ℕ → ℕ) (net : ℕ) (cells : List CellView) (k : ℕ) (cell : CellView) → AreNumbered rank net cells → slice_get cells k ≡ Some cell → IsNumberedCell rank (net + k) cell
numbered_at rank net [] k cell are at = absurd (cc)
numbered_at rank net (x ∷ cells) zero cell are at =
    let same : x ≡ cell = cc in
    let e : net + 0 ≡ net = omega arith in rw e (rw same at are.0)
numbered_at rank net (x ∷ cells) (suc k) cell are at =
    let e : net + suc k ≡ suc net + k = omega arith in rw e (numbered_at rank (suc net) cells k cell are.1 at)

-- what is handed in keeps its number
given_same : (N : NetlistView) (gates : List Gate) (given : List Feed) (base : ℕ) (levels : List ℕ) (rank : ℕ → ℕ) → CanBeGiven N gates given
    → SameOn rank (part_rank rank (length N.nets) base levels) given
given_same N gates given base levels rank can k net at =
    part_rank_old rank (length N.nets) base levels net (All-slice_get (IsFeedBelow (length N.nets)) given k (Net (record { 0 = net })) can.below at)

numbered_part : LevelsNumber → (old new : ArenaView) (gates : List Gate) (levels : List ℕ) (given : List Feed) → (c : IsAppendedPart old new gates levels given)
    → IsNumbered new.lists (part_rank c.formed.ordered.0 (length old.lists.nets) (greatest c.formed.ordered.0 given) levels)
numbered_part law old new gates levels given c =
    let rank : ℕ → ℕ = c.formed.ordered.0 in
    let first : ℕ = length old.lists.nets in
    let base : ℕ = greatest rank given in
    let new_rank : ℕ → ℕ = part_rank rank first base levels in
    let up = up_to_greatest rank new_rank given base (given_same old.lists gates given base levels rank c.can) (omega arith) in
    let are : AreNumbered new_rank first (part_of old gates given) = law gates levels new_rank first (cell_count old.lists) base given c.table.leveled (part_rank_new rank first base levels) up in
    record {
      gates = λ i cell net d gate. elim (c.adds.either i cell d.live) [
        | inl before ↦ (let low : net < first = c.laid.outputs i cell net (record { live = before; output = d.output }) in
            let e : rank net ≡ new_rank net = part_rank_old rank first base levels net low in
            let below = c.formed.ordered.1.gates i cell net (record { live = before; output = d.output }) (ap (λ (l : List ListedCell). is_flop l cell.kind) (sym c.adds.library) ∙ gate) in
            rw e at (below_same rank new_rank cell.feeds (rank net)
            (λ k read at. part_rank_old rank first base levels read (c.laid.operands i cell k read (record { live = before; operand = at }))) below))
        | inr of ↦ (let e = output_of old gates given cell of net d.output in
            rw e at (numbered_at new_rank first (part_of old gates given) of.place cell are of.at (no_flop_kind new.lists.library cell.kind gate)))
      ];
    }

-- what is known of it
pub appended_part : AppendedGrows → DirectionHasBit → (old new : ArenaView) (gates : List Gate) (levels : List ℕ) (given : List Feed) → IsLaidOut old.lists → IsWellFormed old.lists → IsDrivenOnce new.lists
    → Appended old new (length gates) (part_of old gates given) → IsPartTable gates levels (length given) → CanBeGiven old.lists gates given
    → IsAppendedPart old new gates levels given
appended_part grows has old new gates levels given laid formed once added table can = record {
  laid = laid;
  formed = formed;
  once = once;
  added = added;
  table = table;
  can = can;
  adds = adds_appended grows old new (length gates) (part_of old gates given) added;
  past = λ net far. ap (λ ports. direction ports net) added.ports ∙ no_port_past has old.lists laid net far (direction old.lists.ports net) refl;
}

pub part_formed_by : LevelsNumber → (old new : ArenaView) (gates : List Gate) (levels : List ℕ) (given : List Feed) → IsAppendedPart old new gates levels given → IsWellFormed new.lists
part_formed_by number old new gates levels given c =
    grown_formed old.lists new.lists (part_of old gates given) (part_rank c.formed.ordered.0 (length old.lists.nets) (greatest c.formed.ordered.0 given) levels)
    c.formed c.adds c.once (numbered_part number old new gates levels given c) (sound_part old new gates levels given c)

pub part_formed : AppendedGrows → LevelsNumber → DirectionHasBit → PartIsFormed
part_formed grows number has old new gates levels given laid formed once added table can =
    part_formed_by number old new gates levels given (appended_part grows has old new gates levels given laid formed once added table can)

pub part_readable : AppendedGrows → DirectionHasBit → PartIsReadable
part_readable grows has old new gates levels given laid formed once added table can k low =
    own_readable old new gates levels given (appended_part grows has old new gates levels given laid formed once added table can) k low

-- the one cell of a list
the_one : (cell other : CellView) → IsOneOf (cell ∷ []) other → cell ≡ other
the_one cell other of = one_at cell other of.place of.at
  where
    one_at : (cell other : CellView) (k : ℕ) → slice_get (cell ∷ []) k ≡ Some other → cell ≡ other
    one_at cell other zero at = cc
    one_at cell other (suc k) at = absurd (cc)

-- a net of no port that nothing drives is not driven
undriven_not : (N : NetlistView) (cell : CellView) (net : ℕ) → IsDriverOn N cell net → IsDriven N net → ⊥
undriven_not N cell net on d = on.undriven d.number d.cell d.drives.live d.drives.output

below_moved : (rank : ℕ → ℕ) (cell other : CellView) (net out : ℕ) → cell ≡ other → net ≡ out → FeedsBelow rank cell.feeds (rank net) → FeedsBelow rank other.feeds (rank out)
below_moved rank cell other net out same is below = rw is at (rw same at below)

numbered_driver : (old new : ArenaView) (cell : CellView) (net : ℕ) (formed : IsWellFormed old.lists) → AddsCells old.lists new.lists (cell ∷ []) → IsDriverOn old.lists cell net
    → IsNumbered new.lists (with_rank formed.ordered.0 net (suc (greatest formed.ordered.0 cell.feeds)))
numbered_driver old new cell net formed adds on =
    let rank : ℕ → ℕ = formed.ordered.0 in
    let bound : ℕ = suc (greatest rank cell.feeds) in
    let new_rank : ℕ → ℕ = with_rank rank net bound in
    record {
      gates = λ i other out d gate. elim (adds.either i other d.live) [
        | inl before ↦ (let below = formed.ordered.1.gates i other out (record { live = before; output = d.output }) (ap (λ (l : List ListedCell). is_flop l other.kind) (sym adds.library) ∙ gate) in
            let apart : out ≢ net = λ e. on.undriven i other before (d.output ∙ ap (λ n. Some (record { 0 = n })) e) in
            let e : rank out ≡ new_rank out = with_rank_other rank net bound out apart in
            rw e at (below_same rank new_rank other.feeds (rank out)
            (λ k read at. with_rank_other rank net bound read (λ same. undriven_not old.lists cell net on
            (rw same at (formed.read_driven i other k read (record { live = before; operand = at }) (ap (direction old.lists.ports) same ∙ on.outside))))) below))
        | inr of ↦ (let same : cell ≡ other = the_one cell other of in
            let out_is : net ≡ out = output_net net out (sym on.output ∙ ap (λ (c : CellView). c.output) same ∙ d.output) in
            let below : FeedsBelow new_rank cell.feeds bound = below_greatest rank new_rank cell.feeds bound
            (λ k read at. with_rank_other rank net bound read (λ e. undriven_not old.lists cell net on
            (rw e at ((on.read k read at).driven (ap (direction old.lists.ports) e ∙ on.outside))))) (omega arith) in
            let here : FeedsBelow new_rank cell.feeds (new_rank net) = rw (with_rank_here rank net bound) below in
            below_moved new_rank cell other net out same out_is here)
      ];
    }

pub driver_formed : AppendedGrows → DriverIsFormed
driver_formed grows old new cell net formed once added on =
    let adds : AddsCells old.lists new.lists (cell ∷ []) = adds_appended grows old new 0 (cell ∷ []) added in
    let two : (other : CellView) → IsOneOf (cell ∷ []) other → is_three_state other.kind ≡ false
    = λ other of. ap (λ (c : CellView). is_three_state c.kind) (sym (the_one cell other of)) ∙ on.two_state in
    let wires : (other : CellView) (out : ℕ) → IsOneOf (cell ∷ []) other → other.output ≡ Some (record { 0 = out }) → direction new.lists.ports out ≡ None
    = λ other out of e. (let out_is : net ≡ out = output_net net out (sym on.output ∙ ap (λ (c : CellView). c.output) (the_one cell other of) ∙ e) in
    ap (λ ports. direction ports out) added.ports ∙ ap (direction old.lists.ports) (sym out_is) ∙ on.outside) in
    let pure : (read : ℕ) → IsPure old.lists read → IsPure new.lists read = λ read is. pure_stays_so old.lists new.lists (cell ∷ []) read formed adds once wires is in
    grown_formed old.lists new.lists (cell ∷ []) (with_rank formed.ordered.0 net (suc (greatest formed.ordered.0 cell.feeds))) formed adds once
    (numbered_driver old new cell net formed adds on)
    (λ other of.
    let same : cell ≡ other = the_one cell other of in
    record {
      takes = subst (λ (c : CellView). Takes new.lists.library c.kind (length c.feeds)) same (subst (λ (l : List ListedCell). Takes l cell.kind (length cell.feeds)) (sym adds.library) on.takes);
      two_state = two other of;
      output = λ out e. wires other out of e;
      reads = λ place read at. readable_stays_so old.lists new.lists (cell ∷ []) read adds two (on.read place read (ap (λ (c : CellView). slice_get c.feeds place) same ∙ at));
      controls = λ kind place read is where_it at.
          let kind_is = ap (λ (c : CellView). flop_of old.lists.library c.kind) same ∙ ap (λ (l : List ListedCell). flop_of l other.kind) (sym adds.library) ∙ is in
          let at_it = ap (λ (c : CellView). slice_get c.feeds place) same ∙ at in
          elim where_it [
            | inl one ↦ pure read (on.control kind 0 read kind_is (rw one at at_it))
            | inr second ↦ pure read (on.control kind 1 read kind_is (rw second at at_it))
          ];
    })
