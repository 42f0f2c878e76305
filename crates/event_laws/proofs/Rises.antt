-- Turns by class and place rise along the operands on which cells wait.
use Rattle.std.proofs.Common.{◌≡◌, ◌≢◌, ◌⊎◌, ℕ, zero, suc, ◌+◌, ◌*◌, ◌<◌, ◌≤◌, Bool, true, false, ◌||◌, List, [], ◌∷◌, length, Option, Some, None, refl, sym, ap, ◌∙◌, inl, inr, arith, if◌then◌else◌}
use Rattle.std.specs.Prelude.{slice_get}
use Rattle.std.proofs.lemmas.Option.{slice_get_within}
use Rattle.list_laws.proofs.Tests.{true_or_false, both_false}
use Rattle.cell_library.specs.declared.listed.ListedCell.{ListedCell}
use Rattle.cell_library.specs.declared.FlopKind.{FlopKind}
use Rattle.cell_library.specs.Gates.{flop_of, is_flop}
use Rattle.netlist_model.specs.declared.NetId.{NetId}
use Rattle.netlist_model.specs.declared.CellId.{CellId}
use Rattle.netlist_model.specs.declared.Feed.{Feed}
use Rattle.netlist_model.specs.declared.Feed.TheVariants.{Net, Const}
use Rattle.netlist_model.specs.Lists.{CellView, NetlistView, cell_at, Drives, Reads}
use Rattle.netlist_model.specs.Cones.{IsControlNet, GateReads, itself, behind}
use Rattle.netlist_model.specs.Formed.{IsWellFormed, IsDriven}
use Rattle.netlist_model.specs.Orders.{StandsAt, IsCellOrder}
use Rattle.netlist_model.proofs.KindLaws.{flop_or_gate}
use Rattle.netlist_model.proofs.Search.{search_driver, cell_at_once}
use Rattle.event_laws.specs.Turns.{WaitsOn}
use Rattle.event_laws.specs.OrderLaws.{has_late, AreLate, class_of, TurnsRise}

-- an operand of a cell without late operands isn't late
operand_early : (late : ℕ → Bool) (feeds : List Feed) (k net : ℕ) → has_late late feeds ≡ false → slice_get feeds k ≡ Some (Net (record { 0 = net })) → late net ≡ false
operand_early late [] k net early at = absurd (cc)
operand_early late (Net other ∷ feeds) zero net early at =
    let same : other ≡ record { 0 = net } = cc in
    let number : NetId → ℕ = λ n. n.0 in
    let e : other.0 ≡ net = ap number same in
    rw e at (both_false (late other.0) (has_late late feeds) early).0
operand_early late (Net other ∷ feeds) (suc k) net early at = operand_early late feeds k net (both_false (late other.0) (has_late late feeds) early).1 at
operand_early late (Const b ∷ feeds) zero net early at = absurd (cc)
operand_early late (Const b ∷ feeds) (suc k) net early at = operand_early late feeds k net early at

-- where no operand is late, none is found late
none_late : (late : ℕ → Bool) (feeds : List Feed) → ((k net : ℕ) → slice_get feeds k ≡ Some (Net (record { 0 = net })) → late net ≡ false) → has_late late feeds ≡ false
none_late late [] each = refl
none_late late (Net net ∷ feeds) each = rw (each 0 net.0 refl) (none_late late feeds (λ k. each (suc k)))
none_late late (Const b ∷ feeds) each = none_late late feeds (λ k. each (suc k))

-- a net that clocks, clears or presets isn't late: by the place of its driver
control_early_at : (N : NetlistView) (order : List CellId) (late : ℕ → Bool) → IsWellFormed N → IsCellOrder N order → AreLate N late → (bound place number : ℕ) (cell : CellView) (net : ℕ)
    → place < bound → StandsAt order place number → Drives N number cell net → IsControlNet N net → late net ≡ false
control_early_at N order late formed ordered lates zero place number cell net below stands drives control = absurd (omega arith)
control_early_at N order late formed ordered lates (suc bound) place number cell net below stands drives control =
    elim (formed.cones net control) [
      | inl input ↦ absurd (formed.inputs_free number cell net drives input)
      | inr driven ↦ (let d : IsDriven N net = driven.0 in
          let same : d.number ≡ number = formed.one_driver d.number number d.cell cell net d.drives drives in
          let cells : d.cell ≡ cell = cell_at_once N d.number number d.cell cell same d.drives.live drives.live in
          let gate : is_flop N.library cell.kind ≡ false = ap (λ (c : CellView). is_flop N.library c.kind) (sym cells) ∙ driven.1 in
          let none = none_late late cell.feeds (operand gate (λ p i c o early there d ctl. control_early_at N order late formed ordered lates bound p i c o early there d ctl)) in
          lates.driven number cell net drives ∙ rw (gate, none) refl)
    ]
  where
    operand : is_flop N.library cell.kind ≡ false
        → ((p i : ℕ) (c : CellView) (o : ℕ) → p < bound → StandsAt order p i → Drives N i c o → IsControlNet N o → late o ≡ false)
        → (k other : ℕ) → slice_get cell.feeds k ≡ Some (Net (record { 0 = other })) → late other ≡ false
    operand gate earlier_ones k other at =
        let reads : Reads N number cell k other = record { live = drives.live; operand = at } in
        let step : GateReads N net other = record { number = number; cell = cell; place = k; gate = gate; drives = drives; reads = reads } in
        let further : IsControlNet N other = record { root = control.root; operand = control.operand; cone = behind control.cone step } in
        elim (search_driver N.cells other) [
          | inl f ↦ (let d : Drives N f.number f.cell other = record { live = f.live; output = f.output } in
              let before = ordered.after place number f.number cell f.cell k other stands gate reads d in
              let earlier = before.1 in
              earlier_ones before.0 f.number f.cell other (omega arith) before.2 d further)
          | inr none ↦ lates.undriven other none
        ]

-- a multiple by a class
pub scaled : (a n : ℕ) → a ≤ 2 → ((a ≡ 0) × (a * n ≡ 0)) ⊎ (((a ≡ 1) × (a * n ≡ n)) ⊎ ((a ≡ 2) × (a * n ≡ n + n)))
scaled zero n few = inl (refl, omega arith)
scaled (suc zero) n few = inr (inl (refl, omega arith))
scaled (suc (suc zero)) n few = inr (inr (refl, omega arith))
scaled (suc (suc (suc a))) n few = absurd (omega arith)

multiple_few : (a n : ℕ) → a ≤ 2 → a * n ≤ n + n
multiple_few a n few =
    elim (scaled a n few) [
      | inl h ↦ (let x = h.1 in omega arith)
      | inr r ↦ elim r [
        | inl h ↦ (let x = h.1 in omega arith)
        | inr h ↦ (let x = h.1 in omega arith)
      ]
    ]

same_place : (a b p q n : ℕ) → a ≤ 2 → b ≤ 2 → p < n → q < n → a * n + p ≡ b * n + q → p ≡ q
same_place a b p q n few less below under e =
    elim (scaled a n few) [
      | inl h ↦ elim (scaled b n less) [
        | inl k ↦ (let x = h.1 in let y = k.1 in omega arith)
        | inr r ↦ elim r [ inl k ↦ (let x = h.1 in let y = k.1 in omega arith) | inr k ↦ (let x = h.1 in let y = k.1 in omega arith) ]
      ]
      | inr s ↦ elim s [
        | inl h ↦ elim (scaled b n less) [
          | inl k ↦ (let x = h.1 in let y = k.1 in omega arith)
          | inr r ↦ elim r [ inl k ↦ (let x = h.1 in let y = k.1 in omega arith) | inr k ↦ (let x = h.1 in let y = k.1 in omega arith) ]
        ]
        | inr h ↦ elim (scaled b n less) [
          | inl k ↦ (let x = h.1 in let y = k.1 in omega arith)
          | inr r ↦ elim r [ inl k ↦ (let x = h.1 in let y = k.1 in omega arith) | inr k ↦ (let x = h.1 in let y = k.1 in omega arith) ]
        ]
      ]
    ]

pub class_few : (library : List ListedCell) (late : ℕ → Bool) (cell : CellView) → class_of library late cell ≤ 2
class_few library late cell =
    elim (true_or_false (is_flop library cell.kind)) [
      | inl flop ↦ rw flop (omega arith)
      | inr gate ↦ elim (true_or_false (has_late late cell.feeds)) [
        | inl some ↦ rw (gate, some) (omega arith)
        | inr none ↦ rw (gate, none) (omega arith)
      ]
    ]

-- the net of a clock, clear or preset operand
control_operand : (N : NetlistView) (number : ℕ) (cell : CellView) (flop : FlopKind) (place net : ℕ) → flop_of N.library cell.kind ≡ Some flop → Reads N number cell place net → (place ≡ 1) ⊎ (place ≡ 2) → IsControlNet N net
control_operand N number cell flop place net is reads (inl one) =
    record { root = net; operand = inl (record { number = number; cell = cell; kind = flop; flop = is; reads = rw one at reads }); cone = itself }
control_operand N number cell flop place net is reads (inr two) =
    record { root = net; operand = inr (record { number = number; cell = cell; kind = flop; flop = is; reads = rw two at reads }); cone = itself }

pub turns_rise : TurnsRise
turns_rise N order late turn formed ordered lates turns = record {
  after = λ i j net driver waits drives. rising i j net driver waits drives (place_of i waits.cell waits.reads.live) (place_of j driver drives.live);
  apart = λ i j cell other here there same.
      (let p = place_of i cell here in let q = place_of j other there in
      let e = turns.each p.0 i cell p.1 here in let f = turns.each q.0 j other q.1 there in
      let pw = slice_get_within order p.0 _ p.1 in let qw = slice_get_within order q.0 _ q.1 in
      one_place i j p.0 q.0 p.1 q.1 (same_place (class_of N.library late cell) (class_of N.library late other) p.0 q.0 (length order) (class_few N.library late cell) (class_few N.library late other) pw qw (sym e ∙ same ∙ f)));
}
  where
    place_of : (number : ℕ) (cell : CellView) → cell_at N number ≡ Some cell → (place : ℕ) × StandsAt order place number
    place_of number cell live = ordered.each number (rw live refl)

    one_place : (i j p q : ℕ) → StandsAt order p i → StandsAt order q j → p ≡ q → i ≡ j
    one_place i j p q at there e =
        let number : Option CellId → ℕ = (λ o. elim o [ None ↦ 0 | Some n ↦ n.0 ]) in
        ap number (sym at ∙ ap (slice_get order) e ∙ there)

    early_driver : (j net : ℕ) (driver : CellView) → Drives N j driver net → late net ≡ false → class_of N.library late driver ≡ 0
    early_driver j net driver drives early =
        let both = both_false (is_flop N.library driver.kind) (has_late late driver.feeds) (sym (lates.driven j driver net drives) ∙ early) in
        rw (both.0, both.1) refl

    flop_trigger : (flop : FlopKind) (cell : CellView) (place : ℕ) → flop_of N.library cell.kind ≡ Some flop → (is_flop N.library cell.kind ≡ false) ⊎ ((place ≡ 1) ⊎ (place ≡ 2)) → (place ≡ 1) ⊎ (place ≡ 2)
    flop_trigger flop cell place is trigger =
        elim trigger [
          | inl gate ↦ absurd (let not : true ≡ false = rw is at gate in cc)
          | inr later ↦ later
        ]

    flop_rises : (i j net : ℕ) (driver : CellView) → (waits : WaitsOn N i net) → Drives N j driver net → (p : (place : ℕ) × StandsAt order place i) → (q : (place : ℕ) × StandsAt order place j)
        → turn i ≡ class_of N.library late waits.cell * length order + p.0 → turn j ≡ class_of N.library late driver * length order + q.0 → q.0 < length order → (flop : FlopKind) → flop_of N.library waits.cell.kind ≡ Some flop → turn j < turn i
    flop_rises i j net driver waits drives p q e f within flop is =
        let control = control_operand N i waits.cell flop waits.place net is waits.reads (flop_trigger flop waits.cell waits.place is waits.trigger) in
        let early = control_early_at N order late formed ordered lates (suc q.0) q.0 j driver net (omega arith) q.1 drives control in
        let none : class_of N.library late driver ≡ 0 = early_driver j net driver drives early in
        let one : class_of N.library late waits.cell ≡ 1 = rw is refl in
        let mine : turn j ≡ 0 * length order + q.0 = rw none at f in
        let its : turn i ≡ 1 * length order + p.0 = rw one at e in
        omega arith

    gate_rises : (i j net : ℕ) (driver : CellView) → (waits : WaitsOn N i net) → Drives N j driver net → (p : (place : ℕ) × StandsAt order place i) → (q : (place : ℕ) × StandsAt order place j)
        → turn i ≡ class_of N.library late waits.cell * length order + p.0 → turn j ≡ class_of N.library late driver * length order + q.0 → q.0 < length order → is_flop N.library waits.cell.kind ≡ false → turn j < turn i
    gate_rises i j net driver waits drives p q e f within gate =
        let before = ordered.after p.0 i j waits.cell driver waits.place net p.1 gate waits.reads drives in
        let same : before.0 ≡ q.0 = ordered.once before.0 q.0 j before.2 q.1 in
        let less = before.1 in
        elim (true_or_false (has_late late waits.cell.feeds)) [
          | inl some ↦ (let two : class_of N.library late waits.cell ≡ 2 = rw (gate, some) refl in
              let its : turn i ≡ 2 * length order + p.0 = rw two at e in
              let few = multiple_few (class_of N.library late driver) (length order) (class_few N.library late driver) in
              omega arith)
          | inr none ↦ (let early = operand_early late waits.cell.feeds waits.place net none waits.reads.operand in
              let first : class_of N.library late driver ≡ 0 = early_driver j net driver drives early in
              let own : class_of N.library late waits.cell ≡ 0 = rw (gate, none) refl in
              let mine : turn j ≡ 0 * length order + q.0 = rw first at f in
              let its : turn i ≡ 0 * length order + p.0 = rw own at e in
              omega arith)
        ]

    rising : (i j net : ℕ) (driver : CellView) → (waits : WaitsOn N i net) → Drives N j driver net → (p : (place : ℕ) × StandsAt order place i) → (q : (place : ℕ) × StandsAt order place j) → turn j < turn i
    rising i j net driver waits drives p q =
        let e = turns.each p.0 i waits.cell p.1 waits.reads.live in
        let f = turns.each q.0 j driver q.1 drives.live in
        let within = slice_get_within order q.0 _ q.1 in
        elim (flop_or_gate N.library waits.cell.kind) [
          | inl flop ↦ flop_rises i j net driver waits drives p q e f within flop.0 flop.1
          | inr gate ↦ gate_rises i j net driver waits drives p q e f within gate
        ]
