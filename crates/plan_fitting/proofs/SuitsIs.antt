-- The cells of the device of a plan that fits suit the netlist.
use Rattle.std.proofs.Common.{◌≡◌, ◌⊎◌, ℕ, ◌<◌, Bool, true, false, not, List, [], ◌∷◌, slice_get, Option, Some, None, option_map, refl, sym, ap, ◌∙◌, subst, inl, inr}
use Rattle.std.specs.Prelude.{is_some, ◌&&◌}
use Rattle.std.specs.Option.{option_map_or}
use Rattle.list_laws.proofs.Tests.{and_left, and_right}
use Rattle.list_laws.proofs.Options.{some_same}
use Rattle.cell_library.specs.declared.Kind.{Kind}
use Rattle.cell_library.specs.declared.Kind.TheVariants.{Bufif0, Bufif1}
use Rattle.cell_library.specs.Gates.{is_three_state}
use Rattle.cell_library.specs.declared.codes.BoundaryKind.{BoundaryKind}
use Rattle.cell_library.specs.declared.codes.BoundaryKind.TheVariants as kind
use Rattle.cell_library.specs.declared.codes.Function.{Function}
use Rattle.cell_library.specs.declared.codes.Function.TheVariants as function
use Rattle.bsdl_device.specs.RowRules.{is_function}
use Rattle.netlist_model.specs.declared.Dir.{Dir}
use Rattle.netlist_model.specs.declared.Dir.TheVariants as dir
use Rattle.netlist_model.specs.declared.Feed.{Feed}
use Rattle.netlist_model.specs.declared.Feed.TheVariants.{Net, Const}
use Rattle.netlist_model.specs.declared.NetId.{NetId}
use Rattle.netlist_model.specs.Lists.{CellView, direction, Drives}
use Rattle.netlist_model.specs.Cones.{IsControlPort}
use Rattle.netlist_model.specs.Ports.{BitHasDirection, DirectionHasBit}
use Rattle.netlist_model.specs.Drivers.{DriverIsFound}
use Rattle.netlist_unlink.specs.netlist_link.Linked.{LinkedView}
use Rattle.bsdl_device.specs.declared.values.Disable.{Disable}
use Rattle.bsdl_device.specs.declared.values.CellRow.{CellRow}
use Rattle.wrapped_chip.specs.Cells.{Numbered, row_of}
use Rattle.wrapped_chip.specs.Suits.{IsRead, inactive_level, SuitsDriver, CellSuits, HasCell, is_input, is_output, is_bidir}
use Rattle.texts.specs.First.{or_else}
use Rattle.plan_texts.specs.declared.plan.Plan.{Plan}
use Rattle.plan_fitting.specs.declared.fitted.FitRow.{FitRow}
use Rattle.plan_fitting.specs.Pins.{PinSeen}
use Rattle.plan_fitting.specs.Fits.{suits_port}
use Rattle.plan_fitting.specs.Rows.{Driver, gate_driver, three_state, added_driver, same_bool, same_feed, rows, has_highz}
use Rattle.plan_fitting.specs.Devices.{disable_value, disable_by, device_of}
use Rattle.plan_fitting.proofs.Drivers.{same_bool_is, not_three}
use Rattle.plan_fitting.specs.FittingPlan.{IsFitting}
use Rattle.plan_fitting.specs.DevicesLaws.{PlansSuitNetlists}
use Rattle.plan_fitting.proofs.Rows.{side_driver, data_function, Controlled}
use Rattle.plan_fitting.proofs.DevicesDrivers.{seen_direction, seen_driver, gate_has_driver}
use Rattle.plan_fitting.proofs.DevicesFacts.{Facts, facts_of}
use Rattle.plan_fitting.proofs.NetRows.{RowAt, row_at, own_row}
use Rattle.plan_fitting.proofs.OwnPorts.{own_or_hidden}

-- Functions.

pub does_input : (clock : Bool) (d : Option Driver) → is_input (data_function dir.Input clock d) ≡ true
does_input true d = refl
does_input false d = refl

does_output : (clock : Bool) (d : Option Driver) → is_output (data_function dir.Output clock d) ≡ true
does_output clock None = refl
does_output clock (Some d) = refl

-- the side of the line at a net's bit
side_is : BitHasDirection → (L : LinkedView) (p : Plan) (seen : List PinSeen) → IsFitting L p seen → (net : ℕ) (found : Numbered) (at : RowAt L p seen net found) (side : Dir)
    → direction L.arena.lists.ports net ≡ Some side → at.line.one.side ≡ side
side_is has L p seen fits net found at side h =
    some_same at.line.one.side side (direction L.arena.lists.ports net)
    (ap (direction L.arena.lists.ports) (sym at.same) ∙ seen_direction has L fits.formed at.line.line.port at.line.one at.line.on.seen) h

-- the cell of a net's bit has a function for the bit's side
cell_suits : BitHasDirection → (L : LinkedView) (p : Plan) (seen : List PinSeen) → IsFitting L p seen → Facts L p seen → (test : Function → Bool) (side : Dir)
    → ((clock : Bool) (d : Option Driver) → test (data_function side clock d) ≡ true) → (net : ℕ) → direction L.arena.lists.ports net ≡ Some side
    → CellSuits (device_of L p seen) L.arena.lists test net
cell_suits has L p seen fits facts test side right net h r first =
    let at = row_at L p seen fits facts net r first in
    let one = at.line.one in
    let is = side_is has L p seen fits net r at side h in
    ap (λ (x : CellRow). test x.function) (sym at.is)
    ∙ ap test at.line.does
    ∙ ap (λ (s : Dir). test (data_function s one.clock (side_driver (has_highz p.opcodes) one one.side))) is
    ∙ right one.clock (side_driver (has_highz p.opcodes) one one.side)

-- an inout bit isn't hidden, so it has a cell
inout_cell : BitHasDirection → DirectionHasBit → (L : LinkedView) (p : Plan) (seen : List PinSeen) → IsFitting L p seen → Facts L p seen → (net : ℕ) → direction L.arena.lists.ports net ≡ Some dir.Inout
    → HasCell (device_of L p seen) L.arena.lists is_bidir net
inout_cell has back L p seen fits facts net h =
    let id : NetId = record { 0 = net } in
    let bit = back L.arena.lists dir.Inout id h in
    let own : bit.number < L.straight.first = elim (own_or_hidden L fits.ends bit.number bit.port bit.stands) [
      | inl low ↦ low
      | inr hidden ↦ absurd ((fits.straight bit.number bit.bit bit.port id hidden bit.stands bit.has).side bit.same)
    ] in
    let found = own_row L p seen fits facts dir.Inout id bit own in
    record {
      found = found.0;
      first = found.1;
      suitable = cell_suits has L p seen fits facts is_bidir dir.Inout (λ clock d. refl) net h found.0 found.1;
    }

-- Control ports.

takes_bc4 : (cell : BoundaryKind) → suits_port cell dir.Input true ≡ true → cell ≡ kind.Bc4
takes_bc4 kind.Bc1 h = absurd (cc)
takes_bc4 kind.Bc2 h = absurd (cc)
takes_bc4 kind.Bc4 h = refl
takes_bc4 kind.Bc7 h = absurd (cc)

control_cell : BitHasDirection → (L : LinkedView) (p : Plan) (seen : List PinSeen) → IsFitting L p seen → Facts L p seen → (net : ℕ) (found : Numbered) → IsControlPort L.arena.lists net
    → row_of (device_of L p seen) L.arena.lists net ≡ Some found → found.row.cell ≡ kind.Bc4
control_cell has L p seen fits facts net found control h =
    let at = row_at L p seen fits facts net found h in
    let one = at.line.one in
    let is = side_is has L p seen fits net found at dir.Input control.0 in
    let steers : one.control ≡ true = at.line.on.seen.control.1 (subst (λ (n : ℕ). IsControlPort L.arena.lists n) (sym at.same) control) in
    let fit : suits_port at.line.line.cell dir.Input true ≡ true =
    ap (suits_port at.line.line.cell dir.Input) (sym steers) ∙ ap (λ (s : Dir). suits_port at.line.line.cell s one.control) (sym is) ∙ at.line.on.fit in
    ap (λ (r : CellRow). r.cell) (sym at.is) ∙ at.line.cell ∙ takes_bc4 at.line.line.cell fit

-- Drivers.

gate_polarity : (k : Kind) (feeds : List Feed) (d : Driver) → gate_driver k feeds ≡ Some d → not d.active_high ≡ inactive_level k
gate_polarity Bufif1 [] d h = absurd (cc)
gate_polarity Bufif1 (a ∷ []) d h = absurd (cc)
gate_polarity Bufif1 (a ∷ b ∷ []) d h =
    let one : Driver = record { core = a; operand = b; active_high = true } in
    let same : one ≡ d = some_same one d (gate_driver Bufif1 (a ∷ b ∷ [])) refl h in
    ap (λ (x : Driver). not x.active_high) (sym same)
gate_polarity Bufif1 (a ∷ b ∷ c ∷ feeds) d h = absurd (cc)
gate_polarity Bufif0 [] d h = absurd (cc)
gate_polarity Bufif0 (a ∷ []) d h = absurd (cc)
gate_polarity Bufif0 (a ∷ b ∷ []) d h =
    let one : Driver = record { core = a; operand = b; active_high = false } in
    let same : one ≡ d = some_same one d (gate_driver Bufif0 (a ∷ b ∷ [])) refl h in
    ap (λ (x : Driver). not x.active_high) (sym same)
gate_polarity Bufif0 (a ∷ b ∷ c ∷ feeds) d h = absurd (cc)
gate_polarity _ feeds d h = absurd (cc)

pub plain_level : (k : Kind) → is_three_state k ≡ false → inactive_level k ≡ false
plain_level Bufif1 h = refl
plain_level Bufif0 h = absurd (cc)
plain_level _ h = refl

-- the driver that is controlled, of a bit that this cell drives
abbrev driver_by : Bool → PinSeen → CellView → Dir → Option Driver
driver_by highz one cell dir.Input = None
driver_by highz one cell dir.Output = or_else (gate_driver cell.kind cell.feeds) (added_driver highz (Net one.net))
driver_by highz one cell dir.Inout = gate_driver cell.kind cell.feeds

driver_is : (highz : Bool) (one : PinSeen) (cell : CellView) (side : Dir) → one.driver ≡ Some cell → side_driver highz one side ≡ driver_by highz one cell side
driver_is highz one cell dir.Input h = refl
driver_is highz one cell dir.Output h = ap (λ (o : Option CellView). or_else (three_state o) (added_driver highz (Net one.net))) h
driver_is highz one cell dir.Inout h = ap three_state h

added_polarity : (highz : Bool) (core : Feed) (k : Kind) (d : Driver) → is_three_state k ≡ false → added_driver highz core ≡ Some d → not d.active_high ≡ inactive_level k
added_polarity true core k d three h =
    let one : Driver = record { core = core; operand = Const true; active_high = true } in
    let same : one ≡ d = some_same one d (added_driver true core) refl h in
    ap (λ (x : Driver). not x.active_high) (sym same) ∙ sym (plain_level k three)
added_polarity false core k d three h = absurd (cc)

output_polarity : (highz : Bool) (core : Feed) (k : Kind) (gate : Option Driver) (d : Driver) → ((x : Driver) → gate ≡ Some x → not x.active_high ≡ inactive_level k) → (gate ≡ None → is_three_state k ≡ false)
    → or_else gate (added_driver highz core) ≡ Some d → not d.active_high ≡ inactive_level k
output_polarity highz core k (Some x) d right plain h = right d h
output_polarity highz core k None d right plain h = added_polarity highz core k d (plain refl) h

polarity : (highz : Bool) (one : PinSeen) (cell : CellView) (side : Dir) (d : Driver) → (is_three_state cell.kind ≡ true → is_some (gate_driver cell.kind cell.feeds) ≡ true)
    → driver_by highz one cell side ≡ Some d → not d.active_high ≡ inactive_level cell.kind
polarity highz one cell dir.Input d gate h = absurd (cc)
polarity highz one cell dir.Output d gate h =
    output_polarity highz (Net one.net) cell.kind (gate_driver cell.kind cell.feeds) d (λ x e. gate_polarity cell.kind cell.feeds x e) (λ none. not_three cell.kind (gate_driver cell.kind cell.feeds) none gate) h
polarity highz one cell dir.Inout d gate h = gate_polarity cell.kind cell.feeds d h

some_first : {X : Type 0} (a b : Option X) → is_some a ≡ true → is_some (or_else a b) ≡ true
some_first None b h = absurd (cc)
some_first (Some x) b h = refl

-- a three-state gate is controlled, at an output or an inout bit
is_controlled : (highz : Bool) (one : PinSeen) (cell : CellView) (side : Dir) → (side ≡ dir.Output) ⊎ (side ≡ dir.Inout) → is_some (gate_driver cell.kind cell.feeds) ≡ true → is_some (driver_by highz one cell side) ≡ true
is_controlled highz one cell dir.Input read h = absurd (elim read [ inl e ↦ (cc) | inr e ↦ (cc) ])
is_controlled highz one cell dir.Output read h = some_first (gate_driver cell.kind cell.feeds) (added_driver highz (Net one.net)) h
is_controlled highz one cell dir.Inout read h = h

suits_by : (k : Kind) (rs : List FitRow) (d : Option Driver) (named : Option ℕ) → Controlled rs d named → (is_three_state k ≡ true → is_some d ≡ true)
    → ((x : Driver) → d ≡ Some x → not x.active_high ≡ inactive_level k) → SuitsDriver k (option_map (disable_by rs) named)
suits_by k rs None named none some right =
    subst (λ (n : Option ℕ). SuitsDriver k (option_map (disable_by rs) n)) (sym none) (record {
      controlled = λ three. absurd (let e = some three in cc);
      polarity = λ d e. absurd (cc);
    })
suits_by k rs (Some d) named c some right =
    let high : c.row.active_high ≡ d.active_high =
    same_bool_is c.row.active_high d.active_high
    (and_right (is_function function.Control c.row.function) (same_bool c.row.active_high d.active_high)
    (and_left (is_function function.Control c.row.function && same_bool c.row.active_high d.active_high) (option_map_or (same_feed d.operand) c.row.core false) c.right)) in
    let value : option_map_or disable_value (slice_get rs c.number) false ≡ inactive_level k =
    ap (λ (o : Option FitRow). option_map_or disable_value o false) c.there ∙ ap not high ∙ right d refl in
    subst (λ (n : Option ℕ). SuitsDriver k (option_map (disable_by rs) n)) (sym c.is) (record {
      controlled = λ three. refl;
      polarity = λ x e.
          let same : disable_by rs c.number ≡ x = some_same (disable_by rs c.number) x (Some (disable_by rs c.number)) refl e in
          ap (λ (y : Disable). y.value) (sym same) ∙ value;
    })

suits_driver : BitHasDirection → DriverIsFound → (L : LinkedView) (p : Plan) (seen : List PinSeen) → IsFitting L p seen → Facts L p seen → (i net : ℕ) (cell : CellView) (found : Numbered)
    → Drives L.arena.lists i cell net → IsRead L.arena.lists net → row_of (device_of L p seen) L.arena.lists net ≡ Some found → SuitsDriver cell.kind found.row.disable
suits_driver has driven L p seen fits facts i net cell found drives read h =
    let N = L.arena.lists in
    let highz = has_highz p.opcodes in
    let at = row_at L p seen fits facts net found h in
    let one = at.line.one in
    let mine : one.driver ≡ Some cell = seen_driver driven L fits.formed at.line.line.port one at.line.on.seen i cell (subst (λ (n : ℕ). Drives N i cell n) (sym at.same) drives) in
    let is = driver_is highz one cell one.side mine in
    let gate : is_three_state cell.kind ≡ true → is_some (gate_driver cell.kind cell.feeds) ≡ true = λ three. gate_has_driver N fits.formed i cell net drives three in
    let side : (one.side ≡ dir.Output) ⊎ (one.side ≡ dir.Inout) = elim read [
      | inl e ↦ inl (side_is has L p seen fits net found at dir.Output e)
      | inr e ↦ inr (side_is has L p seen fits net found at dir.Inout e)
    ] in
    subst (λ (r : CellRow). SuitsDriver cell.kind r.disable) at.is
    (suits_by cell.kind (rows p seen) (driver_by highz one cell one.side) at.row.control
    (subst (λ (o : Option Driver). Controlled (rows p seen) o at.row.control) is at.line.controlled)
    (λ three. is_controlled highz one cell one.side side (gate three))
    (λ d e. polarity highz one cell one.side d gate e))

pub plans_suit_netlists : BitHasDirection → DirectionHasBit → DriverIsFound → PlansSuitNetlists
plans_suit_netlists has back driven L p seen fits =
    let facts = facts_of has driven L p seen fits in
    record {
      inputs = cell_suits has L p seen fits facts is_input dir.Input does_input;
      outputs = cell_suits has L p seen fits facts is_output dir.Output does_output;
      inouts = inout_cell has back L p seen fits facts;
      controls = λ net r control row. control_cell has L p seen fits facts net r control row;
      drivers = λ i net cell r drives read row. suits_driver has driven L p seen fits facts i net cell r drives read row;
    }
