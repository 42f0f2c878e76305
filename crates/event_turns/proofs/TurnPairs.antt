-- The turn of a gate of two nets.
use Rattle.std.proofs.Common.{◌≡◌, ℕ, ◌+◌, ◌<◌, ◌≤◌, ◌∷◌, ◌++◌, [], List, length, get_or, set, Option, Some, None, true, false, refl, sym, ap, subst, ◌∙◌, inl, inr, arith}
use Rattle.std.specs.Prelude.{Bool, is_some, slice_get, if◌then◌else◌}
use Rattle.std.proofs.lemmas.List.{set-get_or}
use Rattle.std.proofs.lemmas.Option.{slice_get-get_or, slice_get_within}
use Rattle.list_laws.proofs.Lists.{slice_get_there, at_push}
use Rattle.list_laws.proofs.Options.{some_same}
use Rattle.signal_values.specs.declared.Sig.{Sig}
use Rattle.signal_values.specs.declared.Sig.TheVariants.{Unknown}
use Rattle.signal_values.specs.declared.PinSig.{PinSig}
use Rattle.signal_values.specs.declared.PinSig.TheVariants.{Unknown as PinUnknown}
use Rattle.cell_library.specs.declared.Kind.{Kind}
use Rattle.cell_library.specs.declared.FlopKind.{FlopKind}
use Rattle.cell_library.specs.declared.listed.ListedCell.{ListedCell}
use Rattle.cell_library.specs.Gates.{flop_of, is_flop, is_three_state, gate_output}
use Rattle.event_parts.specs.declared.counted_cells.pairs.Pair.{Pair}
use Rattle.event_parts.specs.Pairs.{IsPair}
use Rattle.netlist_model.specs.declared.Dir.{Dir}
use Rattle.netlist_model.specs.declared.Dir.TheVariants.{Input, Output, Inout}
use Rattle.netlist_model.specs.declared.Feed.TheVariants.{Net}
use Rattle.netlist_model.specs.declared.NetId.{NetId}
use Rattle.netlist_model.specs.declared.Feed.{Feed}
use Rattle.netlist_model.specs.Lists.{CellView, cell_at, direction}
use Rattle.netlist_model.specs.Settled.{feed_values, cell_drive}
use Rattle.netlist_model.specs.LawsRuns.{kind_next, next_if}
use Rattle.netlist_settling.specs.Values.{value_at, pin_at}
use Rattle.netlist_settling.specs.Passes.{driven_value}
use Rattle.event_laws.specs.Laws.{steps_of}
use Rattle.event_turns.specs.declared.circuit.Gate.{Gate}
use Rattle.event_turns.specs.declared.circuit.Row.{Row}
use Rattle.event_turns.specs.Circuits.{CircuitView, FitsCircuit, IsCircuit, IsRowOf, TakesValue, HasTurn, event_from, is_plain}
use Rattle.event_turns.specs.Values.{seen}
use Rattle.event_turns.proofs.Gives.{gate_seen}
use Rattle.event_turns.proofs.Turned.{driving}

-- a gate keeps nothing, and takes one step
gate_keeps : (flop : Option FlopKind) (before after : List Sig) (kept : Sig) → is_some flop ≡ false → kept ≡ next_if flop before after kept
gate_keeps None before after kept is = refl
gate_keeps (Some kind) before after kept is = cc

steps_by : (flop : Bool) → flop ≡ false → ◌≡◌ {A = ℕ} (if flop then 0 else 1) 1
steps_by true is = cc
steps_by false is = refl

gate_steps : (library : List ListedCell) (kind : Kind) → is_flop library kind ≡ false → steps_of library kind ≡ 1
gate_steps library kind is = steps_by (is_flop library kind) is

plain_seen : (side : Option Dir) (inside : Sig) (outside : PinSig) → is_plain side ≡ true → inside ≡ seen side inside PinUnknown outside
plain_seen (Some Input) inside outside is = cc
plain_seen (Some Inout) inside outside is = cc
plain_seen (Some Output) inside outside is = refl
plain_seen None inside outside is = refl

pub pairing : (c : CircuitView) (pins drives : List PinSig) (before values values' state : List Sig) (words words' : List ℕ) (steps steps' number : ℕ) (cell : CellView) (a b net : NetId)
    → is_flop c.lists.library cell.kind ≡ false → is_three_state cell.kind ≡ false → cell.feeds ≡ Net a ∷ Net b ∷ [] → cell.output ≡ Some net → is_plain (direction c.lists.ports net.0) ≡ true
    → number < length state → net.0 < length drives
    → TakesValue c net.0 (gate_output c.lists.library cell.kind (value_at values a.0 ∷ value_at values b.0 ∷ [])) values values' words words'
    → steps' ≡ steps + 1
    → HasTurn c (event_from pins before state) number cell values state values' state drives drives words words' steps steps'
pairing c pins drives before values values' state words words' steps steps' number cell a b net gate two feeds out plain below room taken step =
    let same : set state number (value_at state number) ≡ state = set-get_or state number Unknown in
    rw same at (driving c pins drives None before values values' state words words' steps steps' number cell net (value_at state number) _ out below keeps gives taken few room three)
  where
    keeps : value_at state number ≡ kind_next c.lists.library cell.kind (feed_values (value_at before) cell.feeds) (feed_values (value_at values) cell.feeds) (value_at state number)
    keeps = gate_keeps (flop_of c.lists.library cell.kind) _ _ (value_at state number) gate

    gives : gate_output c.lists.library cell.kind (value_at values a.0 ∷ value_at values b.0 ∷ []) ≡ driven_value c.lists.library (direction c.lists.ports net.0) cell.kind (feed_values (value_at values) cell.feeds) (value_at state number) (pin_at pins net.0)
    gives = rw feeds (plain_seen (direction c.lists.ports net.0) _ (pin_at pins net.0) plain
        ∙ gate_seen c.lists.library (direction c.lists.ports net.0) cell.kind (value_at values a.0 ∷ value_at values b.0 ∷ []) (value_at state number) (pin_at pins net.0) gate two)

    few : steps' ≤ steps + steps_of c.lists.library cell.kind
    few = (let one = gate_steps c.lists.library cell.kind gate in omega (arith, one, step))

    three : is_three_state cell.kind ≡ true → None ≡ Some (cell_drive cell.kind (feed_values (value_at values) cell.feeds) Unknown)
    three is = absurd (let clash : true ≡ false = sym is ∙ two in cc)

-- the row that was looked up
looked : (rows : List Row) (place : ℕ) (row : Row) → place < length rows → row ≡ get_or rows place row → slice_get rows place ≡ Some row
looked rows place row below is = slice_get-get_or rows place row below ∙ ap Some (sym is)

-- a pair's net is one of the netlist
pub pair_net : (c : CircuitView) (place : ℕ) (row : Row) (pair : Pair) → IsCircuit c → place < length c.gates → row ≡ get_or c.rows place row → row.pair ≡ Some pair → row.net.0 < length c.lists.nets
pair_net c place row pair is below is_row is_pair =
    let gate = slice_get_there c.gates place below in
    let own = is.live place gate.0 gate.1 in
    let has = is.rows.each place gate.0 row gate.1 (looked c.rows place row (let long = is.rows.long in omega arith) is_row) pair is_pair in
    is.laid.outputs gate.0.cell.0 own.cell row.net.0 (record { live = own.live; output = sym own.is_of.output_is ∙ has.output_is })

-- the turn of the cell in a place where a pair is kept
pub pair_turn : (c : CircuitView) (place : ℕ) (gate : Gate) (row : Row) (pair : Pair) (cell : CellView) (pins drives : List PinSig) (before values values' state : List Sig) (words words' : List ℕ) (steps steps' : ℕ)
    → IsCircuit c → slice_get c.gates place ≡ Some gate → row ≡ get_or c.rows place row → row.pair ≡ Some pair → cell_at c.lists gate.cell.0 ≡ Some cell → FitsCircuit c values state drives words
    → ((kind : Kind) → IsPair c.lists.library kind pair → TakesValue c row.net.0 (gate_output c.lists.library kind (value_at values row.a.0 ∷ value_at values row.b.0 ∷ [])) values values' words words')
    → steps' ≡ steps + 1
    → HasTurn c (event_from pins before state) gate.cell.0 cell values state values' state drives drives words words' steps steps'
pair_turn c place gate row pair cell pins drives before values values' state words words' steps steps' is there is_row is_pair live fits taken step =
    let own = is.live place gate there in
    let same : own.cell ≡ cell = some_same own.cell cell _ own.live live in
    let within = slice_get_within c.gates place gate there in
    let has = is.rows.each place gate row there (looked c.rows place row (let long = is.rows.long in omega arith) is_row) pair is_pair in
    let kind : gate.kind ≡ cell.kind = own.is_of.kind_is ∙ ap (λ (x : CellView). x.kind) same in
    let is_kind : IsPair c.lists.library cell.kind pair = subst (λ (k : Kind). IsPair c.lists.library k pair) kind has.kind_is in
    let feeds : cell.feeds ≡ Net row.a ∷ Net row.b ∷ [] = sym (own.is_of.feeds_are ∙ ap (λ (x : CellView). x.feeds) same) ∙ has.feeds_are in
    let out : cell.output ≡ Some row.net = sym (own.is_of.output_is ∙ ap (λ (x : CellView). x.output) same) ∙ has.output_is in
    let plain : is_plain (direction c.lists.ports row.net.0) ≡ true = ap is_plain (sym (is.sides.each row.net.0)) ∙ has.plain in
    let net = is.laid.outputs gate.cell.0 cell row.net.0 (record { live = live; output = out }) in
    pairing c pins drives before values values' state words words' steps steps' gate.cell.0 cell row.a row.b row.net is_kind.gate is_kind.plain feeds out plain (fits.for_state gate.cell.0 cell live) (let long = fits.for_drives in omega arith)
    (taken cell.kind is_kind) step

-- one row more
pub rows_pushed : (library : List ListedCell) (feeds : List Feed) (sides : List (Option Dir)) (gates : List Gate) (rows rows' : List Row) (gate : Gate) (row : Row) → slice_get gates (length rows) ≡ Some gate → rows' ≡ rows ++ row ∷ [] → IsRowOf library feeds sides gate row
    → ((place : ℕ) (other : Gate) (found : Row) → slice_get gates place ≡ Some other → slice_get rows place ≡ Some found → IsRowOf library feeds sides other found)
    → (place : ℕ) (other : Gate) (found : Row) → slice_get gates place ≡ Some other → slice_get rows' place ≡ Some found → IsRowOf library feeds sides other found
rows_pushed library feeds sides gates rows rows' gate row there pushed is so_far place other found stands got =
    elim (at_push rows row found place (rw pushed at got)) [
      | inl e ↦ (let here : slice_get gates (length rows) ≡ Some other = rw e.0 at stands in
          let same : gate ≡ other = some_same gate other _ there here in
          rw (← same, ← e.1) is)
      | inr e ↦ so_far place other found stands e.1
    ]
