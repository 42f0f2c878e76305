-- Cells in their places, one more.
use Rattle.std.proofs.Common.{◌≡◌, ℕ, ◌+◌, ◌≤◌, List, [], ◌∷◌, ◌++◌, length, take, Option, Some, None, refl, sym, ap, ◌∙◌, inl, inr, arith, length-append, append_assoc, slice_range}
use Rattle.std.specs.Option.{option_map}
use Rattle.std.specs.Prelude.{slice_get}
use Rattle.std.proofs.lemmas.Bool.{cases_lt}
use Rattle.std.proofs.lemmas.Grind.{common_steps}
use Rattle.std.proofs.lemmas.List.{take-append-le}
use Rattle.list_laws.proofs.Lists.{before_push, last_push, front_all, taken_more}
use Rattle.netlist_model.specs.declared.CellId.{CellId}
use Rattle.netlist_model.specs.declared.Feed.{Feed}
use Rattle.netlist_model.specs.Lists.{CellView, NetlistView, cell_at}
use Rattle.netlist_model.specs.Orders.{StandsAt}
use Rattle.netlist_model.proofs.Search.{cell_at_once}
use Rattle.netlist_settling.specs.Values.{feeds_of}
use Rattle.netlist_settling.proofs.Turns.{stands_same}
use Rattle.event_turns.specs.declared.circuit.Gate.{Gate}
use Rattle.event_turns.specs.Circuits.{IsGateOf}
use Rattle.event_turns.specs.Tables.{AreGates, gate_of}

range_append : (xs ys : List Feed) (start end : ℕ) → start ≤ end → end ≤ length xs → slice_range (xs ++ ys) start end ≡ slice_range xs start end
range_append xs ys start end low high = grind (arith, common_steps, take-append-le)

range_rest : (xs ys : List Feed) → slice_range (xs ++ ys) (length xs) (length (xs ++ ys)) ≡ ys
range_rest xs ys = grind (arith, common_steps)

-- more operands change no gate that was there
grown : (feeds more : List Feed) (number : ℕ) (cell : CellView) (gate : Gate) → IsGateOf feeds number cell gate → IsGateOf (feeds ++ more) number cell gate
grown feeds more number cell gate is = record {
  number_is = is.number_is;
  kind_is = is.kind_is;
  output_is = is.output_is;
  few = is.few;
  room = (let room = is.room in let long = length-append feeds more in omega arith);
  feeds_are = range_append feeds more gate.first (gate.first + gate.count) (omega arith) is.room ∙ is.feeds_are;
}

own : (feeds : List Feed) (id : CellId) (cell : CellView) → length cell.feeds ≤ 256 → IsGateOf (feeds ++ cell.feeds) id.0 cell (gate_of id (length feeds) cell)
own feeds id cell few = record {
  number_is = refl;
  kind_is = refl;
  output_is = refl;
  few = few;
  room = (let long = length-append feeds cell.feeds in omega arith);
  feeds_are = ap (λ (end : ℕ). slice_range (feeds ++ cell.feeds) (length feeds) end) (sym (length-append feeds cell.feeds)) ∙ range_rest feeds cell.feeds;
}

pub gate_added : (N : NetlistView) (order : List CellId) (count : ℕ) (gates gates' : List Gate) (feeds feeds' : List Feed) (id : CellId) (cell : CellView) → StandsAt order count id.0 → cell_at N id.0 ≡ Some cell
    → length cell.feeds ≤ 256 → feeds' ≡ feeds ++ cell.feeds → gates' ≡ gates ++ gate_of id (length feeds) cell ∷ [] → AreGates N order count gates feeds → AreGates N order (count + 1) gates' feeds'
gate_added N order count gates gates' feeds feeds' id cell stands live few more one so_far = rw (more, one) (record {
  long = (let long = so_far.long in let pushed = length-append gates (gate_of id (length feeds) cell ∷ []) in omega arith);
  each = λ place number found below there found_live.
      elim (cases_lt place count) [
        | inl early ↦ (let h = so_far.each place number found early there found_live in
            record {
              gate = h.gate;
              there = before_push gates (gate_of id (length feeds) cell ∷ []) h.gate place h.there;
              is_of = grown feeds cell.feeds number found h.gate h.is_of;
            })
        | inr late ↦ (let here : place ≡ count = omega arith in
            let there_here : StandsAt order count number = rw here at there in
            let same : number ≡ id.0 = stands_same order count number id.0 there_here stands in
            let cells : found ≡ cell = cell_at_once N number id.0 found cell same found_live live in
            let at : place ≡ length gates = here ∙ sym so_far.long in
            record {
              gate = gate_of id (length feeds) cell;
              there = ap (slice_get (gates ++ gate_of id (length feeds) cell ∷ [])) at ∙ last_push gates (gate_of id (length feeds) cell);
              is_of = rw (same, cells) (own feeds id cell few);
            })
      ];
})

pub no_gates : (N : NetlistView) (order : List CellId) (feeds : List Feed) → AreGates N order 0 [] feeds
no_gates N order feeds = record {
  long = refl;
  each = λ place number cell below there live. absurd (omega arith);
}

pub no_gates_in : (N : NetlistView) (order : List CellId) (gates : List Gate) (feeds : List Feed) → gates ≡ [] → AreGates N order 0 gates feeds
no_gates_in N order gates feeds none = rw none (no_gates N order feeds)

-- what was looked up of a cell
pub gate_looked : (id : CellId) (first : ℕ) (found : Option CellView) (cell : CellView) (gate : Gate) → found ≡ Some cell → gate.cell ≡ id → gate.first ≡ first → option_map (λ (c : CellView). c.kind) found ≡ Some gate.kind
    → option_map (λ (c : CellView). length c.feeds) found ≡ Some gate.count → option_map (λ (c : CellView). c.output) found ≡ Some gate.output → gate ≡ gate_of id first cell
gate_looked id first found cell gate is numbered starts kind count output =
    let k : cell.kind ≡ gate.kind = (let e = rw is at kind in cc) in
    let n : length cell.feeds ≡ gate.count = (let e = rw is at count in cc) in
    let o : cell.output ≡ gate.output = (let e = rw is at output in cc) in
    rw (k, n, o, ← numbered, ← starts) refl

pub few_looked : (found : Option CellView) (cell : CellView) (count : ℕ) → found ≡ Some cell → option_map (λ (c : CellView). length c.feeds) found ≡ Some count → count ≤ 256 → length cell.feeds ≤ 256
few_looked found cell count is counted few =
    let n : length cell.feeds ≡ count = (let e = rw is at counted in cc) in
    omega arith

-- the operands of a cell one after another
pub feeds_pushed : (feeds old so_far new : List Feed) (place : ℕ) (feed : Feed) → slice_get feeds place ≡ Some feed → so_far ≡ old ++ take place feeds → new ≡ so_far ++ feed ∷ [] → new ≡ old ++ take (place + 1) feeds
feeds_pushed feeds old so_far new place feed at is pushed =
    pushed ∙ ap (λ (l : List Feed). l ++ feed ∷ []) is ∙ append_assoc old (take place feeds) (feed ∷ [])
    ∙ ap (λ (l : List Feed). old ++ l) (taken_more feeds place feed (take place feeds) (take place feeds ++ feed ∷ []) at refl refl)

whole_front : (found : Option CellView) (count place : ℕ) → option_map (λ (c : CellView). length c.feeds) found ≡ Some count → count ≤ place → take place (feeds_of found) ≡ feeds_of found
whole_front None count place is past = absurd (cc)
whole_front (Some cell) count place is past = let n : length cell.feeds ≡ count = cc in front_all cell.feeds place (omega arith)

pub feeds_whole : (found : Option CellView) (count place : ℕ) (old new : List Feed) → option_map (λ (c : CellView). length c.feeds) found ≡ Some count → count ≤ place → new ≡ old ++ take place (feeds_of found) → new ≡ old ++ feeds_of found
feeds_whole found count place old new counted past is = is ∙ ap (λ (l : List Feed). old ++ l) (whole_front found count place counted past)
