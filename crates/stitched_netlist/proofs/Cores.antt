-- What the core gives the rows, by the nets that stand for its own.
use Rattle.std.proofs.Common.{◌≡◌, ℕ, zero, suc, Bool, true, false, List, [], ◌∷◌, refl, ap, sym, ◌∙◌, Option, Some, None, eqb-true, eq-eqb, if◌then◌else◌}
use Rattle.std.specs.Prelude.{slice_get, option_and_then, unwrap_or, find}
use Rattle.std.specs.Option.{option_map}
use Rattle.std.proofs.lemmas.Option.{slice_get-map}
use Rattle.signal_values.specs.declared.Sig.{Sig}
use Rattle.signal_values.specs.declared.Sig.TheVariants.{One}
use Rattle.cell_library.specs.Gates.{is_three_state, operand}
use Rattle.cell_library.specs.declared.codes.Function.{Function}
use Rattle.cell_library.specs.declared.codes.Function.TheVariants as function
use Rattle.netlist_model.specs.declared.NetId.{NetId}
use Rattle.netlist_model.specs.declared.Feed.{Feed}
use Rattle.netlist_model.specs.declared.Feed.TheVariants.{Net, Const}
use Rattle.netlist_model.specs.declared.Dir.{Dir}
use Rattle.netlist_model.specs.declared.Dir.TheVariants as dir
use Rattle.netlist_model.specs.declared.PinBit.{PinBit}
use Rattle.netlist_model.specs.Lists.{CellView, NetlistView, bit_net}
use Rattle.netlist_model.specs.Settled.{feed_value, feed_values, driver_of}
use Rattle.netlist_model.specs.Formed.{IsWellFormed}
use Rattle.netlist_model.specs.Drivers.{DriverDrives, DriverIsFound}
use Rattle.netlist_model.specs.Ports.{BitHasDirection, DirectionHasBit}
use Rattle.netlist_model.specs.Nested.{renamed_feed}
use Rattle.plan_fitting.specs.netlist_link.Linked.{LinkedView}
use Rattle.bsdl_device.specs.declared.values.CellRow.{CellRow}
use Rattle.wrapped_chip.specs.Suits.{is_input}
use Rattle.wrapped_chip.specs.Cells.{net_of_row, names_control, core_datum, core_control, shared_control}
use Rattle.surrounded_core.specs.Sites.{GivesAs}
use Rattle.plan_texts.specs.declared.plan.Plan.{Plan}
use Rattle.plan_fitting.specs.declared.fitted.FitRow.{FitRow}
use Rattle.plan_fitting.specs.Pins.{PinSeen}
use Rattle.plan_fitting.specs.Rows.{rows}
use Rattle.plan_fitting.specs.Devices.{fitted_of, disable_by, cell_row, device_of}
use Rattle.plan_fitting.specs.Laws.{ControlCellsAreThere}
use Rattle.plan_fitting.specs.FittingPlan.{IsFitting}
use Rattle.plan_fitting.specs.DevicesLaws.{fed, RowsTakeTheCore, ControlsTakeTheCore, ControlsFollowTheirRows, RowsStandAtBits, BitsHaveRows, HiddenBitsHaveNone}
use Rattle.plan_fitting.proofs.DeviceRows.{mapped_at}
use Rattle.stitched_netlist.specs.declared.model.Site.TheVariants as site
use Rattle.stitched_netlist.specs.Sites.{Boundary, pin_net, row_net, site_of, side_at}
use Rattle.stitched_netlist.specs.Sides.{core_side, core_feed, is_moved}
use Rattle.stitched_netlist.specs.Stitched.{boundary_at}
use Rattle.stitched_netlist.specs.Inner.{inner_net}
use Rattle.stitched_netlist.specs.InsidePlaces.{places_in}
use Rattle.stitched_netlist.proofs.InsideCases.{AtBit, DrivenAs, RowCase, observed_case, input_case, plain_case, added_case, driver_case, inout_case, control_case, cases_of}
use Rattle.stitched_netlist.proofs.InsideMoves.{moved_to}
use Rattle.stitched_netlist.proofs.Nests.{inner_given, given_by_driver, given_read}

-- the laws of plans that fit
pub record FitLaws : Type 0 where
  pub has : BitHasDirection
  pub back : DirectionHasBit
  pub found : DriverIsFound
  pub drives : DriverDrives
  pub there : ControlCellsAreThere
  pub take : RowsTakeTheCore
  pub levels : ControlsTakeTheCore
  pub follow : ControlsFollowTheirRows
  pub stand : RowsStandAtBits
  pub bits : BitsHaveRows
  pub hidden : HiddenBitsHaveNone

-- Operands by other nets.

renamed_value : (value : ℕ → Sig) (side : ℕ → ℕ) (core : Feed) → feed_value value (renamed_feed side core) ≡ feed_value (λ n. value (side n)) core
renamed_value value side (Net net) = refl
renamed_value value side (Const b) = refl

values_same : (v w : ℕ → Sig) (feeds : List Feed) → ((place net : ℕ) → slice_get feeds place ≡ Some (Net (record { 0 = net })) → v net ≡ w net) → feed_values v feeds ≡ feed_values w feeds
values_same v w [] same = refl
values_same v w (Net net ∷ feeds) same =
    ap (λ (x : Sig). x ∷ feed_values v feeds) (same 0 net.0 refl) ∙ ap (λ (xs : List Sig). w net.0 ∷ xs) (values_same v w feeds (λ place n at. same (suc place) n at))
values_same v w (Const b ∷ feeds) same = ap (λ (xs : List Sig). feed_value w (Const b) ∷ xs) (values_same v w feeds (λ place n at. same (suc place) n at))

-- the two numberings of the core's nets agree on what a driver reads, and on its own net
operands_same : DriverIsFound → (N : NetlistView) → IsWellFormed N → (M : NetlistView) (B : Boundary) (value : ℕ → Sig) (net : NetId) (three : Bool) (d : DrivenAs N net three)
    → feed_values (λ n. value (core_side B n)) d.cell.feeds ≡ feed_values (λ n. value (inner_net N M B n)) d.cell.feeds
operands_same found N formed M B value net three d =
    values_same (λ n. value (core_side B n)) (λ n. value (inner_net N M B n)) d.cell.feeds
    (λ place n at. ap value (sym (inner_given N M B n (given_read found N formed d.number d.cell place n d.drives.live at))))

datum_inner : DriverIsFound → (N : NetlistView) → IsWellFormed N → (M : NetlistView) (B : Boundary) (value : ℕ → Sig) (net : NetId) (three : Bool) → DrivenAs N net three
    → core_datum (driver_of N.cells net.0) (λ n. value (core_side B n)) net.0 ≡ core_datum (driver_of N.cells net.0) (λ n. value (inner_net N M B n)) net.0
datum_inner found N formed M B value net three d =
    let by : List Sig → Sig → Sig = λ xs y. if is_three_state d.cell.kind then operand xs 0 else y in
    let own : value (core_side B net.0) ≡ value (inner_net N M B net.0) = ap value (sym (inner_given N M B net.0 (given_by_driver N net.0 d.cell d.found))) in
    ap (λ (o : Option CellView). core_datum o (λ n. value (core_side B n)) net.0) d.found
    ∙ ap (λ (xs : List Sig). by xs (value (core_side B net.0))) (operands_same found N formed M B value net three d)
    ∙ ap (by (feed_values (λ n. value (inner_net N M B n)) d.cell.feeds)) own
    ∙ sym (ap (λ (o : Option CellView). core_datum o (λ n. value (inner_net N M B n)) net.0) d.found)

control_inner : DriverIsFound → (N : NetlistView) → IsWellFormed N → (M : NetlistView) (B : Boundary) (value : ℕ → Sig) (net : NetId) (three : Bool) → DrivenAs N net three
    → core_control (driver_of N.cells net.0) (λ n. value (core_side B n)) ≡ core_control (driver_of N.cells net.0) (λ n. value (inner_net N M B n))
control_inner found N formed M B value net three d =
    ap (λ (o : Option CellView). core_control o (λ n. value (core_side B n))) d.found
    ∙ ap (λ (xs : List Sig). if is_three_state d.cell.kind then operand xs 1 else One) (operands_same found N formed M B value net three d)
    ∙ sym (ap (λ (o : Option CellView). core_control o (λ n. value (inner_net N M B n))) d.found)

-- The operands of rows.

feed_given : (B : Boundary) (value : ℕ → Sig) (row : FitRow) (core : Feed) → row.core ≡ Some core → feed_value value (core_feed B row) ≡ fed (λ n. value (core_side B n)) row.core
feed_given B value row core is =
    ap (λ (o : Option Feed). feed_value value (renamed_feed (core_side B) (unwrap_or o (Const false)))) is ∙ renamed_value value (core_side B) core
    ∙ sym (ap (fed (λ n. value (core_side B n))) is)

net_by_pin : (N : NetlistView) (row : FitRow) (bit : PinBit) (net : NetId) → row.pin ≡ Some bit → row_net N.ports row ≡ Some net → bit_net N bit.port.0 bit.bit ≡ Some net
net_by_pin N row bit net pin here = sym (ap (option_and_then (pin_net N.ports)) pin) ∙ here

-- the data of a row at a bit
pub datum_given : FitLaws → (L : LinkedView) (p : Plan) (seen : List PinSeen) (M : NetlistView) → IsFitting L p seen → (k : ℕ) (row : FitRow) (net : NetId) (core : Feed) (side : Dir)
    (three : Bool) → slice_get (rows p seen) k ≡ Some row → AtBit L p seen row net side → row.core ≡ Some core → DrivenAs L.arena.lists net three
    → GivesAs (places_in M L.arena.lists (fitted_of L p seen)) (core_feed (boundary_at L.arena.lists (fitted_of L p seen)) row)
    (λ v. core_datum (driver_of L.arena.lists.cells net.0) v net.0)
datum_given by L p seen M fits k row net core side three at here core_is driven value =
    let N = L.arena.lists in
    let B : Boundary = boundary_at N (fitted_of L p seen) in
    feed_given B value row core core_is
    ∙ by.take L p seen fits k row here.bit net at here.pin (net_by_pin N row here.bit net here.pin here.here) (λ n. value (core_side B n))
    ∙ datum_inner by.found N fits.formed M B value net three driven

-- that of an output's own net, which moves to the core's side
pub own_given : FitLaws → (L : LinkedView) (p : Plan) (seen : List PinSeen) (M : NetlistView) → IsFitting L p seen → (k : ℕ) (row : FitRow) (net : NetId) (side : Dir) (three : Bool)
    → slice_get (rows p seen) k ≡ Some row → AtBit L p seen row net side → row.core ≡ Some (Net net) → is_moved (site_of L.arena.lists.ports row) ≡ true → DrivenAs L.arena.lists net three
    → GivesAs (places_in M L.arena.lists (fitted_of L p seen)) (Net (record { 0 = side_at (boundary_at L.arena.lists (fitted_of L p seen)) k }))
    (λ v. core_datum (driver_of L.arena.lists.cells net.0) v net.0)
own_given by L p seen M fits k row net side three at here core_is moved driven value =
    let N = L.arena.lists in
    let B : Boundary = boundary_at N (fitted_of L p seen) in
    ap value (sym (moved_to by.stand L p seen fits k row net at here.here moved)) ∙ sym (ap (fed (λ n. value (core_side B n))) core_is)
    ∙ by.take L p seen fits k row here.bit net at here.pin (net_by_pin N row here.bit net here.pin here.here) (λ n. value (core_side B n))
    ∙ datum_inner by.found N fits.formed M B value net three driven

-- Control cells.

pub record ControlIs (L : LinkedView) (row : FitRow) : Type 0 where
  pub core : Feed
  pub core_is : row.core ≡ Some core
  pub stands : site_of L.arena.lists.ports row ≡ site.Control

other_input : (f : Function) → is_input f ≡ true → f ≡ function.Control → ⊥
other_input f is e = let bad : false ≡ true = sym (ap is_input e) ∙ is in cc

pub control_is : (L : LinkedView) (p : Plan) (seen : List PinSeen) (row : FitRow) → RowCase L p seen row → row.function ≡ function.Control → ControlIs L row
control_is L p seen row (observed_case n at does cell none s) is = absurd (other_input row.function does is)
control_is L p seen row (input_case n at does cell none s) is = absurd (other_input row.function does is)
control_is L p seen row (plain_case n at does cell core none by s) is = absurd (let bad : function.Output2 ≡ function.Control = sym does ∙ is in cc)
control_is L p seen row (added_case n at does cell core names by s) is = absurd (let bad : function.Output3 ≡ function.Control = sym does ∙ is in cc)
control_is L p seen row (driver_case n core at does cell core_is names by s) is = absurd (let bad : function.Output3 ≡ function.Control = sym does ∙ is in cc)
control_is L p seen row (inout_case n core at does cell core_is names by s) is = absurd (let bad : function.Bidir ≡ function.Control = sym does ∙ is in cc)
control_is L p seen row (control_case core pin does cell core_is none s) is = record { core = core; core_is = core_is; stands = s }

-- a row that names a control cell stands before a driver
pub record Controlling (L : LinkedView) (p : Plan) (seen : List PinSeen) (row : FitRow) (number : ℕ) : Type 0 where
  pub net : NetId
  pub side : Dir
  pub at : AtBit L p seen row net side
  pub three : Bool
  pub driven : DrivenAs L.arena.lists net three

pub controlling : (L : LinkedView) (p : Plan) (seen : List PinSeen) (row : FitRow) (number : ℕ) → RowCase L p seen row → row.control ≡ Some number → Controlling L p seen row number
controlling L p seen row number (observed_case n at does cell none s) is = absurd (let bad : None ≡ Some number = sym none ∙ is in cc)
controlling L p seen row number (input_case n at does cell none s) is = absurd (let bad : None ≡ Some number = sym none ∙ is in cc)
controlling L p seen row number (plain_case n at does cell core none by s) is = absurd (let bad : None ≡ Some number = sym none ∙ is in cc)
controlling L p seen row number (added_case n at does cell core names by s) is = record { net = n; side = dir.Output; at = at; three = false; driven = by }
controlling L p seen row number (driver_case n core at does cell core_is names by s) is = record { net = n; side = dir.Output; at = at; three = true; driven = by }
controlling L p seen row number (inout_case n core at does cell core_is names by s) is = record { net = n; side = dir.Inout; at = at; three = true; driven = by }
controlling L p seen row number (control_case core pin does cell core_is none s) is = absurd (let bad : None ≡ Some number = sym none ∙ is in cc)

-- the level of a control cell is the core's control of each driver whose row names it
pub level_given : FitLaws → (L : LinkedView) (p : Plan) (seen : List PinSeen) (M : NetlistView) → IsFitting L p seen → (k : ℕ) (row : FitRow) (net : NetId) (side : Dir) (three : Bool)
    (number : ℕ) (control : FitRow) (core : Feed) → slice_get (rows p seen) k ≡ Some row → AtBit L p seen row net side → DrivenAs L.arena.lists net three → row.control ≡ Some number
    → slice_get (rows p seen) number ≡ Some control → control.core ≡ Some core
    → GivesAs (places_in M L.arena.lists (fitted_of L p seen)) (core_feed (boundary_at L.arena.lists (fitted_of L p seen)) control)
    (λ v. core_control (driver_of L.arena.lists.cells net.0) v)
level_given by L p seen M fits k row net side three number control core at here driven named there core_is value =
    let N = L.arena.lists in
    let B : Boundary = boundary_at N (fitted_of L p seen) in
    feed_given B value control core core_is
    ∙ by.levels L p seen fits k row here.bit net number control at here.pin (net_by_pin N row here.bit net here.pin here.here) named there (λ n. value (core_side B n))
    ∙ control_inner by.found N fits.formed M B value net three driven

-- the first row that names a control cell
record FoundFirst (A : Type 0) (test : A → Bool) (xs : List A) : Type 0 where
  first : A
  is : find test xs ≡ Some first
  place : ℕ
  there : slice_get xs place ≡ Some first
  passes : test first ≡ true

found_first : {A : Type 0} (test : A → Bool) (xs : List A) (place : ℕ) (x : A) → slice_get xs place ≡ Some x → test x ≡ true → FoundFirst A test xs
found_first test [] place x at is = absurd (cc)
found_first {A = A} test (y ∷ ys) place x at is = by (test y) refl place at (λ rest h. found_first test ys rest x h is)
  where
    by : (b : Bool) → test y ≡ b → (place : ℕ) → slice_get (y ∷ ys) place ≡ Some x → ((rest : ℕ) → slice_get ys rest ≡ Some x → FoundFirst A test ys) → FoundFirst A test (y ∷ ys)
    by true e place at more = record { first = y; is = rw e refl; place = 0; there = refl; passes = e }
    by false e zero at more = absurd (let same : y ≡ x = cc in let bad : false ≡ true = sym e ∙ ap test same ∙ is in cc)
    by false e (suc rest) at more = let found = more rest at in record { first = found.first; is = rw e found.is; place = suc found.place; there = found.there; passes = found.passes }

named_by : (rs : List FitRow) (number : ℕ) (o : Option ℕ) → names_control number (option_map (disable_by rs) o) ≡ true → o ≡ Some number
named_by rs number None h = absurd (cc)
named_by rs number (Some n) h = ap (λ (x : ℕ). Some x) (eqb-true n number h)

-- the level of a control cell is the core's control before the first bit whose row names it
pub shared_given : FitLaws → (L : LinkedView) (p : Plan) (seen : List PinSeen) (M : NetlistView) → IsFitting L p seen → (k : ℕ) (row : FitRow) (core : Feed) → slice_get (rows p seen) k ≡ Some row
    → row.pin ≡ None → row.core ≡ Some core
    → GivesAs (places_in M L.arena.lists (fitted_of L p seen)) (core_feed (boundary_at L.arena.lists (fitted_of L p seen)) row)
    (λ v. shared_control L.arena.lists v (option_and_then (net_of_row L.arena.lists) (find (λ r. names_control k r.disable) (device_of L p seen).cells)))
shared_given by L p seen M fits k row core at pin core_is value =
    let N = L.arena.lists in
    let f = fitted_of L p seen in
    let cells : List CellRow = (device_of L p seen).cells in
    let test : CellRow → Bool = λ r. names_control k r.disable in
    let v : ℕ → Sig = λ n. value (inner_net N M (boundary_at N f) n) in
    let behind = by.follow L p seen fits k row at pin in
    let user : slice_get cells behind.before ≡ Some (cell_row f behind.data_row) = slice_get-map (cell_row f) (rows p seen) behind.before ∙ ap (option_map (cell_row f)) behind.there in
    let first = found_first test cells behind.before (cell_row f behind.data_row) user
    (ap (λ (o : Option ℕ). names_control k (option_map (disable_by (rows p seen)) o)) behind.names ∙ eq-eqb k k refl) in
    let row0 = mapped_at (cell_row f) (rows p seen) first.place first.first first.there in
    let named : row0.0.control ≡ Some k = named_by (rows p seen) k row0.0.control (ap test row0.2 ∙ first.passes) in
    let c = controlling L p seen row0.0 k (cases_of by.has by.found by.there L p seen fits first.place row0.0 row0.1) named in
    let net : option_and_then (net_of_row N) (find test cells) ≡ Some c.net
    = ap (option_and_then (net_of_row N)) first.is ∙ ap (net_of_row N) (sym row0.2) ∙ c.at.at in
    level_given by L p seen M fits first.place row0.0 c.net c.side c.three k row core row0.1 c.at c.driven named at core_is value
    ∙ sym (ap (shared_control N v) net)
