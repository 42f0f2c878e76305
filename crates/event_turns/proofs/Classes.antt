-- The turns of cells, one place after another: what was late stays, as each gate stands after the drivers of its operands.
use Rattle.std.proofs.Common.{◌≡◌, ◌≢◌, ℕ, suc, zero, ◌+◌, ◌*◌, ◌<◌, ◌≤◌, Bool, true, false, ◌||◌, List, [], ◌∷◌, length, get_or, set, slice_index, Option, Some, None, refl, sym, ap, ◌∙◌, inl, inr, arith, get_or-set_same, get_or-set_other, length-set}
use Rattle.std.specs.Prelude.{slice_get}
use Rattle.std.proofs.lemmas.Bool.{cases_lt}
use Rattle.std.proofs.lemmas.Option.{slice_get_within}
use Rattle.list_laws.proofs.Lists.{slice_get_there}
use Rattle.list_laws.proofs.Options.{some_same, some_there}
use Rattle.list_laws.proofs.Tests.{true_or_false}
use Rattle.cell_library.specs.Gates.{is_flop}
use Rattle.netlist_model.specs.declared.CellId.{CellId}
use Rattle.netlist_model.specs.declared.NetId.{NetId}
use Rattle.netlist_model.specs.declared.Feed.{Feed}
use Rattle.netlist_model.specs.declared.Feed.TheVariants.{Net, Const}
use Rattle.netlist_model.specs.Lists.{CellView, NetlistView, cell_at, Drives, Reads}
use Rattle.netlist_model.specs.Formed.{IsLaidOut, IsWellFormed}
use Rattle.netlist_model.specs.Orders.{StandsAt, IsCellOrder}
use Rattle.netlist_model.proofs.Search.{cell_at_once}
use Rattle.netlist_settling.proofs.Turns.{stands_same}
use Rattle.event_laws.specs.OrderLaws.{has_late, class_of}
use Rattle.event_turns.specs.declared.circuit.Gate.{Gate}
use Rattle.event_turns.specs.Circuits.{IsGateOf, turn_at}
use Rattle.event_turns.specs.Tables.{AreGates, AreTurned, IsBelow, gate_late, gate_turn, late_at, feed_late, with_net}

-- no cell of the first so many drives the net
abbrev pub IsUnplaced : NetlistView → List CellId → ℕ → ℕ → Type 0
IsUnplaced N order count net = (place number : ℕ) (cell : CellView) → place < count → StandsAt order place number → Drives N number cell net → ⊥

-- the turns of the first so many cells
pub record IsTurnedUpTo (N : NetlistView) (order : List CellId) (count : ℕ) (late : List Bool) (turns firsts : List ℕ) : Type 0 where
  pub late_long : length late ≡ length N.nets
  pub firsts_long : length firsts ≡ length N.nets
  pub turns_long : (number : ℕ) (cell : CellView) → cell_at N number ≡ Some cell → number < length turns
  pub turn_of : (place number : ℕ) (cell : CellView) → place < count → StandsAt order place number → cell_at N number ≡ Some cell
      → turn_at turns number ≡ class_of N.library (late_at late) cell * length order + place
  pub late_of : (place number : ℕ) (cell : CellView) (net : ℕ) → place < count → StandsAt order place number → Drives N number cell net
      → late_at late net ≡ (is_flop N.library cell.kind || has_late (late_at late) cell.feeds)
  pub first_of : (place number : ℕ) (cell : CellView) (net : ℕ) → place < count → StandsAt order place number → Drives N number cell net
      → slice_index firsts net ≡ turn_at turns number + 1
  pub rest_late : (net : ℕ) → IsUnplaced N order count net → late_at late net ≡ false
  pub rest_first : (net : ℕ) → IsUnplaced N order count net → slice_index firsts net ≡ 0

pub none_turned : (N : NetlistView) (order : List CellId) (late : List Bool) (turns firsts : List ℕ) → length late ≡ length N.nets → length firsts ≡ length N.nets
    → ((number : ℕ) (cell : CellView) → cell_at N number ≡ Some cell → number < length turns) → ((net : ℕ) → late_at late net ≡ false) → ((net : ℕ) → slice_index firsts net ≡ 0)
    → IsTurnedUpTo N order 0 late turns firsts
none_turned N order late turns firsts late_long firsts_long turns_long none first = record {
  late_long = late_long;
  firsts_long = firsts_long;
  turns_long = turns_long;
  turn_of = λ place number cell below there live. absurd (omega arith);
  late_of = λ place number cell net below there drives. absurd (omega arith);
  first_of = λ place number cell net below there drives. absurd (omega arith);
  rest_late = λ net un. none net;
  rest_first = λ net un. first net;
}

-- whether an operand is late hangs on the nets of the operands
has_late_same : (late late' : ℕ → Bool) (feeds : List Feed) → ((k net : ℕ) → slice_get feeds k ≡ Some (Net (record { 0 = net })) → late net ≡ late' net) → has_late late feeds ≡ has_late late' feeds
has_late_same late late' [] same = refl
has_late_same late late' (Net net ∷ feeds) same = rw (same 0 net.0 refl, has_late_same late late' feeds (λ k. same (suc k))) refl
has_late_same late late' (Const b ∷ feeds) same = has_late_same late late' feeds (λ k. same (suc k))

-- where the first operands aren't late and the next is, some is
pub late_found : (late : ℕ → Bool) (feeds : List Feed) (k : ℕ) (feed : Feed) → slice_get feeds k ≡ Some feed → feed_late late feed ≡ true → has_late late feeds ≡ true
late_found late [] k feed at is = absurd (cc)
late_found late (Net net ∷ feeds) zero feed at is = (let same : Net net ≡ feed = cc in let own : late net.0 ≡ true = ap (feed_late late) same ∙ is in rw own refl)
late_found late (Net net ∷ feeds) (suc k) feed at is =
    elim (true_or_false (late net.0)) [
      | inl yes_it ↦ rw yes_it refl
      | inr not ↦ rw not (late_found late feeds k feed at is)
    ]
late_found late (Const b ∷ feeds) zero feed at is = absurd (let same : Const b ≡ feed = cc in let no : false ≡ true = ap (feed_late late) same ∙ is in cc)
late_found late (Const b ∷ feeds) (suc k) feed at is = late_found late feeds k feed at is

pub none_found : (late : ℕ → Bool) (feeds : List Feed) → ((k : ℕ) (feed : Feed) → slice_get feeds k ≡ Some feed → feed_late late feed ≡ false) → has_late late feeds ≡ false
none_found late [] each = refl
none_found late (Net net ∷ feeds) each = (let own : late net.0 ≡ false = each 0 (Net net) refl in rw own (none_found late feeds (λ k. each (suc k))))
none_found late (Const b ∷ feeds) each = none_found late feeds (λ k. each (suc k))

-- one turn more, where tables have these at the net of the cell, and at all others what they had
turned_one : (N : NetlistView) (order : List CellId) (count number turn : ℕ) (cell : CellView) (late late' : List Bool) (turns turns' firsts firsts' : List ℕ) → IsWellFormed N → IsCellOrder N order
    → StandsAt order count number → cell_at N number ≡ Some cell → length late' ≡ length late → length firsts' ≡ length firsts → length turns' ≡ length turns
    → turn ≡ class_of N.library (late_at late) cell * length order + count
    → turn_at turns' number ≡ turn → ((other : ℕ) → other ≢ number → turn_at turns' other ≡ turn_at turns other)
    → ((net : ℕ) → cell.output ≡ Some (record { 0 = net }) → late_at late' net ≡ (is_flop N.library cell.kind || has_late (late_at late) cell.feeds))
    → ((net : ℕ) → cell.output ≢ Some (record { 0 = net }) → late_at late' net ≡ late_at late net)
    → ((net : ℕ) → cell.output ≡ Some (record { 0 = net }) → slice_index firsts' net ≡ turn + 1)
    → ((net : ℕ) → cell.output ≢ Some (record { 0 = net }) → slice_index firsts' net ≡ slice_index firsts net)
    → IsTurnedUpTo N order count late turns firsts → IsTurnedUpTo N order (count + 1) late' turns' firsts'
turned_one N order count number turn cell late late' turns turns' firsts firsts' formed ordered stands live late_long firsts_long turns_long turn_is own_turn other_turn own_late other_late own_first other_first so_far = record {
  late_long = late_long ∙ so_far.late_long;
  firsts_long = firsts_long ∙ so_far.firsts_long;
  turns_long = λ other found there. (let below = so_far.turns_long other found there in omega arith);
  turn_of = λ place other found below there found_live.
      elim (cases_lt place count) [
        | inl early ↦ other_turn other (apart place other early there) ∙ so_far.turn_of place other found early there found_live
            ∙ ap (λ (k : ℕ). k * length order + place) (sym (class_stays place other found below there found_live))
        | inr past ↦ (let here : place ≡ count = omega arith in
            let one = at_count place other found here there found_live in
            ap (turn_at turns') one.0 ∙ own_turn ∙ turn_is ∙ ap (λ (k : ℕ). k * length order + count) (sym (class_stays count number cell (omega arith) stands live))
            ∙ ap (λ (c : CellView). class_of N.library (late_at late') c * length order + count) (sym one.1)
            ∙ ap (λ (p : ℕ). class_of N.library (late_at late') found * length order + p) (sym here))
      ];
  late_of = λ place other found net below there drives.
      elim (cases_lt place count) [
        | inl early ↦ other_late net (elsewhere place other found net early there drives) ∙ so_far.late_of place other found net early there drives
            ∙ sym (or_stays place other found below there drives.live)
        | inr past ↦ (let here : place ≡ count = omega arith in
            let one = at_count place other found here there drives.live in
            let out : cell.output ≡ Some (record { 0 = net }) = ap (λ (c : CellView). c.output) (sym one.1) ∙ drives.output in
            own_late net out ∙ sym (or_stays count number cell (omega arith) stands live)
            ∙ ap (λ (c : CellView). is_flop N.library c.kind || has_late (late_at late') c.feeds) (sym one.1))
      ];
  first_of = λ place other found net below there drives.
      elim (cases_lt place count) [
        | inl early ↦ other_first net (elsewhere place other found net early there drives) ∙ so_far.first_of place other found net early there drives
            ∙ ap (λ (t : ℕ). t + 1) (sym (other_turn other (apart place other early there)))
        | inr past ↦ (let here : place ≡ count = omega arith in
            let one = at_count place other found here there drives.live in
            let out : cell.output ≡ Some (record { 0 = net }) = ap (λ (c : CellView). c.output) (sym one.1) ∙ drives.output in
            own_first net out ∙ ap (λ (t : ℕ). t + 1) (sym (ap (turn_at turns') one.0 ∙ own_turn)))
      ];
  rest_late = λ net un. other_late net (unplaced net un) ∙ so_far.rest_late net (λ place other found below there drives. un place other found (omega arith) there drives);
  rest_first = λ net un. other_first net (unplaced net un) ∙ so_far.rest_first net (λ place other found below there drives. un place other found (omega arith) there drives);
}
  where
    at_count : (place other : ℕ) (found : CellView) → place ≡ count → StandsAt order place other → cell_at N other ≡ Some found → (other ≡ number) × (found ≡ cell)
    at_count place other found here there found_live =
        let there_here : StandsAt order count other = rw here at there in
        let same : other ≡ number = stands_same order count other number there_here stands in
        (same, cell_at_once N other number found cell same found_live live)

    apart : (place other : ℕ) → place < count → StandsAt order place other → other ≢ number
    apart place other early there same =
        let there_too : StandsAt order place number = rw same at there in
        let one = ordered.once place count number there_too stands in omega arith

    elsewhere : (place other : ℕ) (found : CellView) (net : ℕ) → place < count → StandsAt order place other → Drives N other found net → cell.output ≢ Some (record { 0 = net })
    elsewhere place other found net early there drives out =
        apart place other early there (formed.one_driver other number found cell net drives (record { live = live; output = out }))

    unplaced : (net : ℕ) → IsUnplaced N order (count + 1) net → cell.output ≢ Some (record { 0 = net })
    unplaced net un out = un count number cell (omega arith) stands (record { live = live; output = out })

    -- no gate up to here reads what this cell drives
    stays : (place other : ℕ) (found : CellView) → place < count + 1 → StandsAt order place other → cell_at N other ≡ Some found → is_flop N.library found.kind ≡ false
        → has_late (late_at late') found.feeds ≡ has_late (late_at late) found.feeds
    stays place other found below there found_live gate =
        has_late_same (late_at late') (late_at late) found.feeds (λ k net at. other_late net (λ out.
        let reads : Reads N other found k net = record { live = found_live; operand = at } in
        let drives : Drives N number cell net = record { live = live; output = out } in
        let before = ordered.after place other number found cell k net there gate reads drives in
        let one = ordered.once before.0 count number before.2 stands in
        let less = before.1 in omega arith))

    class_stays : (place other : ℕ) (found : CellView) → place < count + 1 → StandsAt order place other → cell_at N other ≡ Some found → class_of N.library (late_at late') found ≡ class_of N.library (late_at late) found
    class_stays place other found below there found_live =
        elim (true_or_false (is_flop N.library found.kind)) [
          | inl flop ↦ rw flop refl
          | inr gate ↦ rw (gate, stays place other found below there found_live gate) refl
        ]

    or_stays : (place other : ℕ) (found : CellView) → place < count + 1 → StandsAt order place other → cell_at N other ≡ Some found
        → (is_flop N.library found.kind || has_late (late_at late') found.feeds) ≡ (is_flop N.library found.kind || has_late (late_at late) found.feeds)
    or_stays place other found below there found_live =
        elim (true_or_false (is_flop N.library found.kind)) [
          | inl flop ↦ rw flop refl
          | inr gate ↦ rw (gate, stays place other found below there found_live gate) refl
        ]

-- tables by the net of an output
with_long : {X : Type 0} (output : Option NetId) (x : X) (xs : List X) → length (with_net output x xs) ≡ length xs
with_long None x xs = refl
with_long (Some net) x xs = length-set xs net.0 x

with_own : {X : Type 0} (output : Option NetId) (x : X) (xs : List X) (net : ℕ) (d : X) → IsBelow (length xs) output → output ≡ Some (record { 0 = net }) → get_or (with_net output x xs) net d ≡ x
with_own None x xs net d below out = absurd (cc)
with_own (Some own) x xs net d below out =
    let number : Option NetId → ℕ = (λ o. elim o [ None ↦ 0 | Some n ↦ n.0 ]) in
    let same : own.0 ≡ net = ap number out in
    rw (← same) (get_or-set_same xs own.0 x d below)

with_other : {X : Type 0} (output : Option NetId) (x : X) (xs : List X) (net : ℕ) (d : X) → output ≢ Some (record { 0 = net }) → get_or (with_net output x xs) net d ≡ get_or xs net d
with_other None x xs net d ne = refl
with_other (Some own) x xs net d ne = get_or-set_other xs own.0 net x d (λ e. ne (ap (λ (k : ℕ). Some (let n : NetId = record { 0 = k } in n)) (sym e)))

pub output_below : (N : NetlistView) (count number : ℕ) (cell : CellView) → IsLaidOut N → cell_at N number ≡ Some cell → count ≡ length N.nets → IsBelow count cell.output
output_below N count number cell laid live long = go cell.output refl
  where
    go : (output : Option NetId) → cell.output ≡ output → IsBelow count output
    go None at = tt
    go (Some net) at = (let below = laid.outputs number cell net.0 (record { live = live; output = at }) in omega arith)

-- the cell of a gate that was looked up in its place
pub record IsPlacedGate (N : NetlistView) (order : List CellId) (feeds : List Feed) (place : ℕ) (gate : Gate) : Type 0 where
  pub number : ℕ
  pub cell : CellView
  pub stands : StandsAt order place number
  pub live : cell_at N number ≡ Some cell
  pub is_of : IsGateOf feeds number cell gate

pub placed_gate : (N : NetlistView) (order : List CellId) (gates : List Gate) (feeds : List Feed) (place : ℕ) (gate : Gate) → IsCellOrder N order → AreGates N order (length order) gates feeds → place < length order
    → slice_get gates place ≡ Some gate → IsPlacedGate N order feeds place gate
placed_gate N order gates feeds place gate ordered placed below at =
    let id = slice_get_there order place below in
    let cell = some_there (cell_at N id.0.0) (ordered.only place id.0.0 id.1) in
    let has = placed.each place id.0.0 cell.0 below id.1 cell.1 in
    let same : has.gate ≡ gate = some_same has.gate gate _ has.there at in
    let own : IsGateOf feeds id.0.0 cell.0 gate = rw same at has.is_of in
    record { number = id.0.0; cell = cell.0; stands = id.1; live = cell.1; is_of = own }

pub placed_below : (N : NetlistView) (order : List CellId) (feeds : List Feed) (place count : ℕ) (gate : Gate) → IsLaidOut N → count ≡ length N.nets → IsPlacedGate N order feeds place gate → IsBelow count gate.output
placed_below N order feeds place count gate laid long placed = rw placed.is_of.output_is (output_below N count placed.number placed.cell laid placed.live long)

-- the turn of the gate in the next place
pub turn_noted : (N : NetlistView) (order : List CellId) (count number : ℕ) (cell : CellView) (gate : Gate) (feeds : List Feed) (late late' : List Bool) (turns turns' firsts firsts' : List ℕ) → IsWellFormed N → IsLaidOut N → IsCellOrder N order
    → StandsAt order count number → cell_at N number ≡ Some cell → IsGateOf feeds number cell gate
    → turns' ≡ set turns gate.cell.0 (gate_turn N.library feeds (late_at late) gate count (length order)) → late' ≡ with_net gate.output (gate_late N.library feeds (late_at late) gate) late
    → firsts' ≡ with_net gate.output (gate_turn N.library feeds (late_at late) gate count (length order) + 1) firsts
    → IsTurnedUpTo N order count late turns firsts → IsTurnedUpTo N order (count + 1) late' turns' firsts'
turn_noted N order count number cell gate feeds late late' turns turns' firsts firsts' formed laid ordered stands live is turns_new late_new firsts_new so_far =
    turned_one N order count number turn cell late late' turns turns' firsts firsts' formed ordered stands live
    (rw late_new (with_long gate.output _ late)) (rw firsts_new (with_long gate.output _ firsts)) (rw turns_new (length-set turns gate.cell.0 turn))
    turn_is
    (rw (turns_new, is.number_is) (get_or-set_same turns number turn 0 (so_far.turns_long number cell live)))
    (λ other ne. rw (turns_new, is.number_is) (get_or-set_other turns number other turn 0 ne))
    (λ net out. rw late_new (with_own gate.output (gate_late N.library feeds (late_at late) gate) late net false (below (length late) so_far.late_long) (is.output_is ∙ out) ∙ late_is))
    (λ net ne. rw late_new (with_other gate.output (gate_late N.library feeds (late_at late) gate) late net false (λ e. ne (sym is.output_is ∙ e))))
    (λ net out. rw firsts_new (with_own gate.output (turn + 1) firsts net 0 (below (length firsts) so_far.firsts_long) (is.output_is ∙ out)))
    (λ net ne. rw firsts_new (with_other gate.output (turn + 1) firsts net 0 (λ e. ne (sym is.output_is ∙ e))))
    so_far
  where
    turn : ℕ
    turn = gate_turn N.library feeds (late_at late) gate count (length order)

    turn_is : turn ≡ class_of N.library (late_at late) cell * length order + count
    turn_is = rw (is.kind_is, is.feeds_are) refl

    late_is : gate_late N.library feeds (late_at late) gate ≡ (is_flop N.library cell.kind || has_late (late_at late) cell.feeds)
    late_is = rw (is.kind_is, is.feeds_are) refl

    below : (bound : ℕ) → bound ≡ length N.nets → IsBelow bound gate.output
    below bound long = rw is.output_is (output_below N bound number cell laid live long)

pub all_turned : (N : NetlistView) (order : List CellId) (count : ℕ) (late : List Bool) (turns firsts : List ℕ) → IsCellOrder N order → length order ≤ count → IsTurnedUpTo N order count late turns firsts
    → AreTurned N order turns firsts
all_turned N order count late turns firsts ordered whole all = record {
  late = late_at late;
  late_is = record {
    driven = λ number cell net drives. (let there = place_of number cell drives.live in all.late_of there.0 number cell net there.2 there.1 drives);
    undriven = λ net none. all.rest_late net (λ place number cell below there drives. none number cell drives.live drives.output);
  };
  turns_are = record {
    each = λ place number cell there live. (let within = slice_get_within order place _ there in all.turn_of place number cell (omega arith) there live);
  };
  firsts_are = record {
    long = all.firsts_long;
    driven = λ number cell net drives. (let there = place_of number cell drives.live in all.first_of there.0 number cell net there.2 there.1 drives);
    undriven = λ net none. all.rest_first net (λ place number cell below there drives. none number cell drives.live drives.output);
  };
  long = all.turns_long;
}
  where
    place_of : (number : ℕ) (cell : CellView) → cell_at N number ≡ Some cell → (place : ℕ) × StandsAt order place number × (place < count)
    place_of number cell live =
        let there = ordered.each number (rw live refl) in
        let within = slice_get_within order there.0 _ there.1 in
        (there.0, there.1, omega arith)
