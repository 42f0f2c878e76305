-- The stitched netlist has the device's test logic around the core.
use Rattle.std.proofs.Common.{◌≡◌, ◌++◌, ℕ, suc, ◌+◌, ◌<◌, ◌≤◌, ◌||◌, not, Bool, true, false, List, [], ◌∷◌, length, drop, refl, ap, sym, ◌∙◌, subst, inl, inr, Option, Some, None, arith, leb-true}
use Rattle.std.specs.Prelude.{slice_get, option_and_then, find, is_some}
use Rattle.std.specs.List.{list_any}
use Rattle.std.specs.Option.{option_map}
use Rattle.std.proofs.lemmas.Option.{slice_get-map, slice_get_within}
use Rattle.list_laws.proofs.Lists.{slice_get_there, slice_get-append_left, slice_get-append_right}
use Rattle.list_laws.proofs.Options.{some_same}
use Rattle.list_laws.proofs.Tests.{and_left}
use Rattle.cell_library.specs.Gates.{is_three_state}
use Rattle.cell_library.specs.declared.codes.Bits.{Bits}
use Rattle.cell_library.specs.declared.codes.Instr.{Instr}
use Rattle.cell_library.specs.declared.codes.Instr.TheVariants as instr
use Rattle.cell_library.specs.declared.codes.Opcode.{Opcode}
use Rattle.netlist_model.specs.declared.NetId.{NetId}
use Rattle.netlist_model.specs.declared.Dir.{Dir}
use Rattle.netlist_model.specs.declared.Dir.TheVariants as dir
use Rattle.netlist_model.specs.Lists.{PortView, CellView, NetlistView, cell_at, bit_net, direction, Drives}
use Rattle.netlist_model.specs.Settled.{follows_pin, driver_of}
use Rattle.netlist_model.specs.Formed.{width_of, IsWellFormed}
use Rattle.netlist_model.specs.Contained.{HasCells}
use Rattle.netlist_model.specs.LawsContained.{ContainedParts}
use Rattle.netlist_model.specs.Drivers.{IsDriverOf, DriverDrives}
use Rattle.netlist_model.specs.Nested.{renamed_net}
use Rattle.netlist_model.specs.Ports.{BitHasDirection}
use Rattle.plan_fitting.specs.netlist_link.Linked.{LinkedView, own_ports}
use Rattle.bsdl_device.specs.declared.values.CellRow.{CellRow}
use Rattle.bsdl_device.specs.declared.entries.Register.TheVariants as register
use Rattle.bsdl_device.specs.Instructions.{instruction_word, names_instruction, is_instruction, selected_register}
use Rattle.bsdl_device.specs.Checks.{has_instruction, lacks_instruction}
use Rattle.bsdl_device.specs.Canonical.{has_opcode}
use Rattle.bsdl_device.specs.IsDevice.{opcode_entries, IsInstructionRegister}
use Rattle.test_logic.specs.declared.TapInput.{TapInput}
use Rattle.test_logic.specs.declared.TapInput.TheVariants.{Tck, Tms, Tdi, Trst}
use Rattle.test_logic.specs.Instructions.{opcode_of}
use Rattle.surrounded_core.specs.instruction_gates.RegisterLaws.{RegistersFit}
use Rattle.surrounded_core.specs.Rows.{BoundaryRow, row_cells}
use Rattle.wrapped_chip.specs.Cells.{net_of_row}
use Rattle.wrapped_chip.specs.Realises.{IsTapNet, tap_place}
use Rattle.surrounded_core.proofs.instruction_gates.Rules.{last_there}
use Rattle.surrounded_core.specs.Places.{Places, input_net}
use Rattle.surrounded_core.specs.Sites.{StandsAround, HasRowAt, IsStraight, IsDrivenBy}
use Rattle.surrounded_core.specs.Surrounds.{HasPorts, HasCodes, HasRows}
use Rattle.plan_texts.specs.declared.plan.Plan.{Plan}
use Rattle.plan_fitting.specs.declared.fitted.FitRow.{FitRow}
use Rattle.plan_fitting.specs.declared.fitted.Fitted.{Fitted}
use Rattle.plan_fitting.specs.Pins.{PinSeen}
use Rattle.plan_fitting.specs.Rows.{rows}
use Rattle.plan_fitting.specs.Laws.{CodesAreTheDevices, OpcodesKeepTheRules}
use Rattle.plan_fitting.specs.Devices.{codes_of, fitted_of, cell_row, device_of}
use Rattle.plan_fitting.specs.FittingPlan.{IsFitting}
use Rattle.plan_fitting.specs.DevicesLaws.{PlansSuitNetlists}
use Rattle.plan_fitting.proofs.DeviceRows.{mapped_at}
use Rattle.plan_fitting.proofs.DevicesFacts.{facts_of}
use Rattle.plan_fitting.proofs.PlanClock.{plans_have_registers}
use Rattle.plan_fitting.proofs.PlanBits.{plans_have_bits}
use Rattle.plan_fitting.proofs.PlanCodes.{plans_have_codes}
use Rattle.plan_fitting.proofs.DeviceIs.{some_width}
use Rattle.plan_fitting.proofs.OwnPorts.{own_there, own_below}
use Rattle.stitched_netlist.specs.declared.model.TapNames.{TapNames}
use Rattle.stitched_netlist.specs.Sites.{Boundary, pin_net, row_net}
use Rattle.stitched_netlist.specs.Sides.{core_side, core_cell}
use Rattle.stitched_netlist.specs.RowsLaws.{HasRowAt as HasFitRow, IsStraightNet, IsHiddenNet}
use Rattle.stitched_netlist.specs.Inner.{is_given, inner_net}
use Rattle.stitched_netlist.specs.ModelRows.{nets_of_rows, last_bit}
use Rattle.stitched_netlist.specs.Stitched.{scalar, tap_ports, boundary_at, first_net, stitched}
use Rattle.stitched_netlist.specs.ModelLogic.{bypass_at}
use Rattle.stitched_netlist.specs.PlacesLaws.{port_of, scan_of, register_net, row_first, row_side, row_number, row_next}
use Rattle.stitched_netlist.specs.Places.{StitchedIsBuiltIn}
use Rattle.stitched_netlist.specs.InsidePlaces.{gates_of, places_in}
use Rattle.stitched_netlist.specs.InsideLaws.{BuiltInNests, BuiltInSurrounds, StitchedSurrounds}
use Rattle.stitched_netlist.proofs.InsideCases.{RowCase, observed_case, input_case, plain_case, added_case, driver_case, inout_case, control_case, cases_of}
use Rattle.stitched_netlist.proofs.Cores.{FitLaws}
use Rattle.stitched_netlist.proofs.FormedContext.{straight_stays}
use Rattle.stitched_netlist.proofs.Nests.{inner_given, given_by_pin, given_driven}
use Rattle.stitched_netlist.proofs.Once.{found_at, each_has}
use Rattle.stitched_netlist.proofs.Around.{row_is}
use Rattle.stitched_netlist.proofs.Drivers.{Stitch, driven_bits, seen_bits}

-- The test access port.

-- a port behind those of the core
tap_there : (M N : NetlistView) (names : TapNames) → M.ports ≡ N.ports ++ tap_ports names (port_of N) → (k : ℕ) (port : PortView) → slice_get (tap_ports names (port_of N)) k ≡ Some port
    → slice_get M.ports (length N.ports + k) ≡ Some port
tap_there M N names ports k port at =
    ap (λ (ps : List PortView). slice_get ps (length N.ports + k)) ports
    ∙ slice_get-append_right N.ports (tap_ports names (port_of N)) (length N.ports + k) k refl ∙ at

bit_there : (M N : NetlistView) (names : TapNames) → M.ports ≡ N.ports ++ tap_ports names (port_of N) → (k : ℕ) (port : PortView) (net : NetId)
    → slice_get (tap_ports names (port_of N)) k ≡ Some port → slice_get port.nets 0 ≡ Some net → bit_net M (length N.ports + k) 0 ≡ Some net
bit_there M N names ports k port net at first = ap (option_and_then (λ (q : PortView). slice_get q.nets 0)) (tap_there M N names ports k port at) ∙ first

side_there : BitHasDirection → (M N : NetlistView) (names : TapNames) → M.ports ≡ N.ports ++ tap_ports names (port_of N) → IsWellFormed M → (k : ℕ) (port : PortView) (net : NetId) (side : Dir)
    → slice_get (tap_ports names (port_of N)) k ≡ Some port → slice_get port.nets 0 ≡ Some net → port.dir ≡ side → direction M.ports net.0 ≡ Some side
side_there has M N names ports formed k port net side at first is =
    has M formed side net (record { number = length N.ports + k; port = port; bit = 0; stands = tap_there M N names ports k port at; has = first; same = is })

has_ports : BitHasDirection → (M N : NetlistView) (names : TapNames) (f : Fitted) → M.ports ≡ N.ports ++ tap_ports names (port_of N) → IsWellFormed M → HasPorts M N (places_in M N f)
has_ports has M N names f ports formed = record {
  kept = λ p port at.
      ap (λ (ps : List PortView). slice_get ps p) ports
      ∙ slice_get-append_left N.ports (tap_ports names (port_of N)) p (slice_get_within N.ports p port at) ∙ at;
  inputs = λ input. taps input;
  sides = λ input. sides input;
  tdo = bit_there M N names ports 3 (scalar names.tdo dir.Output (port_of N).tdo) (port_of N).tdo refl refl;
  tdo_side = side_there has M N names ports formed 3 (scalar names.tdo dir.Output (port_of N).tdo) (port_of N).tdo dir.Output refl refl refl;
}
  where
    taps : (input : TapInput) → IsTapNet M N (tap_place input) (input_net (places_in M N f) input).0
    taps Tck = bit_there M N names ports 0 (scalar names.tck dir.Input (port_of N).tck) (port_of N).tck refl refl
    taps Tms = bit_there M N names ports 1 (scalar names.tms dir.Input (port_of N).tms) (port_of N).tms refl refl
    taps Tdi = bit_there M N names ports 2 (scalar names.tdi dir.Input (port_of N).tdi) (port_of N).tdi refl refl
    taps Trst = bit_there M N names ports 4 (scalar names.trst dir.Input (port_of N).trst) (port_of N).trst refl refl

    sides : (input : TapInput) → direction M.ports (input_net (places_in M N f) input).0 ≡ Some dir.Input
    sides Tck = side_there has M N names ports formed 0 (scalar names.tck dir.Input (port_of N).tck) (port_of N).tck dir.Input refl refl refl
    sides Tms = side_there has M N names ports formed 1 (scalar names.tms dir.Input (port_of N).tms) (port_of N).tms dir.Input refl refl refl
    sides Tdi = side_there has M N names ports formed 2 (scalar names.tdi dir.Input (port_of N).tdi) (port_of N).tdi dir.Input refl refl refl
    sides Trst = side_there has M N names ports formed 4 (scalar names.trst dir.Input (port_of N).trst) (port_of N).trst dir.Input refl refl refl

-- The codes.

named_bypass : (x : Instr) → names_instruction instr.Bypass (instruction_word x) ≡ is_instruction instr.Bypass x
named_bypass instr.Bypass = refl
named_bypass instr.Extest = refl
named_bypass instr.Sample = refl
named_bypass instr.Preload = refl
named_bypass instr.Idcode = refl
named_bypass instr.Highz = refl
named_bypass instr.Clamp = refl
named_bypass instr.Usercode = refl

entry_of_bypass : (opcodes : List Opcode) → has_instruction (opcode_entries opcodes) instr.Bypass ≡ list_any (λ (o : Opcode). is_instruction instr.Bypass o.instr) opcodes
entry_of_bypass [] = refl
entry_of_bypass (o ∷ opcodes) =
    ap (λ (b : Bool). b || has_instruction (opcode_entries opcodes) instr.Bypass) (named_bypass o.instr)
    ∙ ap (λ (b : Bool). is_instruction instr.Bypass o.instr || b) (entry_of_bypass opcodes)

found_any : {A : Type 0} (test : A → Bool) (xs : List A) → list_any test xs ≡ true → (x : A) × (find test xs ≡ Some x)
found_any test [] h = absurd (cc)
found_any {A = A} test (y ∷ ys) h = by (test y) refl h (λ k. found_any test ys k)
  where
    by : (b : Bool) → test y ≡ b → (b || list_any test ys) ≡ true → (list_any test ys ≡ true → (x : A) × (find test ys ≡ Some x)) → (x : A) × (find test (y ∷ ys) ≡ Some x)
    by true e k more = (y, rw e refl)
    by false e k more = let rest = more k in (rest.0, rw e rest.1)

none_any : {A : Type 0} (test : A → Bool) (xs : List A) → list_any test xs ≡ false → find test xs ≡ None
none_any test [] h = refl
none_any test (y ∷ ys) h = by (test y) refl h (λ k. none_any test ys k)
  where
    by : (b : Bool) → test y ≡ b → (b || list_any test ys) ≡ false → (list_any test ys ≡ false → find test ys ≡ None) → find test (y ∷ ys) ≡ None
    by true e k more = absurd (cc)
    by false e k more = rw e (more k)

bypass_of : (opcodes : List Opcode) → lacks_instruction (opcode_entries opcodes) ≡ false → (bits : Bits) × (opcode_of opcodes instr.Bypass ≡ Some bits)
bypass_of opcodes all =
    let entries = opcode_entries opcodes in
    let there = last_there (has_instruction entries instr.Extest) (has_instruction entries instr.Sample) (has_instruction entries instr.Preload) (has_instruction entries instr.Bypass) all in
    let found = found_any (λ (o : Opcode). is_instruction instr.Bypass o.instr) opcodes (sym (entry_of_bypass opcodes) ∙ there) in
    (found.0.bits, ap (option_map (λ (o : Opcode). o.bits)) found.1)

no_opcode : (opcodes : List Opcode) (i : Instr) → has_opcode opcodes i ≡ false → opcode_of opcodes i ≡ None
unfolding has_opcode
no_opcode opcodes i lacks = ap (option_map (λ (o : Opcode). o.bits)) (none_any (λ (o : Opcode). is_instruction i o.instr) opcodes lacks)

no_usercode : (user code : Option ℕ) → (not (is_some user) || is_some code) ≡ true → code ≡ None → is_some user ≡ false
no_usercode None code beside none = refl
no_usercode (Some user) None beside none = absurd (let bad : false ≡ true = beside in cc)
no_usercode (Some user) (Some code) beside none = absurd (cc)

-- without a code the opcodes lack what selects the identification register
no_code : (opcodes : List Opcode) (user code : Option ℕ) → has_opcode opcodes instr.Idcode ≡ is_some code → has_opcode opcodes instr.Usercode ≡ is_some user
    → (not (is_some user) || is_some code) ≡ true → code ≡ None → (i : Instr) → selected_register i ≡ register.DeviceId → opcode_of opcodes i ≡ None
no_code opcodes user code same same' beside none instr.Idcode device = no_opcode opcodes instr.Idcode (same ∙ ap (λ (c : Option ℕ). is_some c) none)
no_code opcodes user code same same' beside none instr.Usercode device = no_opcode opcodes instr.Usercode (same' ∙ no_usercode user code beside none)
no_code opcodes user code same same' beside none instr.Bypass device = absurd (cc)
no_code opcodes user code same same' beside none instr.Extest device = absurd (cc)
no_code opcodes user code same same' beside none instr.Sample device = absurd (cc)
no_code opcodes user code same same' beside none instr.Preload device = absurd (cc)
no_code opcodes user code same same' beside none instr.Highz device = absurd (cc)
no_code opcodes user code same same' beside none instr.Clamp device = absurd (cc)

register_of : OpcodesKeepTheRules → (L : LinkedView) (p : Plan) (seen : List PinSeen) → IsFitting L p seen → IsInstructionRegister p.length p.opcodes p.capture
register_of rules L p seen fits =
    let keeps = rules L p seen fits.spelled in
    let register = plans_have_registers p fits.spelled in
    let bits = plans_have_bits p fits.spelled in
    record {
      least = register.least;
      most = register.most;
      values = bits.values;
      lengths = keeps.lengths;
      once = (plans_have_codes p fits.spelled).once;
      all = keeps.all;
      ones = keeps.ones;
      apart = keeps.apart;
      capture = bits.captured;
      capture_length = keeps.capture_length;
      capture_end = keeps.capture_end;
    }

has_codes : OpcodesKeepTheRules → CodesAreTheDevices → RegistersFit → (L : LinkedView) (p : Plan) (seen : List PinSeen) (M : NetlistView) → IsFitting L p seen
    → HasCodes (device_of L p seen) (places_in M L.arena.lists (fitted_of L p seen))
has_codes rules same fit L p seen M fits =
    let bypass = bypass_of p.opcodes (rules L p seen fits.spelled).all in
    let has = plans_have_codes p fits.spelled in
    let codes = same L p seen bypass.0 bypass.1 in record {
      codes = codes;
      fit = fit (codes_of p) (register_of rules L p seen fits) codes.reset;
      code = refl;
      user = refl;
      identified = λ none i device. no_code p.opcodes p.usercode p.idcode has.identified has.user_identified has.user_beside none i device;
    }

-- The rows.

some_net : (nets : List NetId) → 0 < length nets → (net : NetId) × (slice_get nets 0 ≡ Some net)
some_net [] h = absurd (omega arith)
some_net (n ∷ nets) h = (n, refl)

first_there : {A : Type 0} (xs : List A) (k : ℕ) (x : A) → slice_get xs k ≡ Some x → (first : A) × (slice_get xs 0 ≡ Some first)
first_there [] k x at = absurd (cc)
first_there (y ∷ ys) k x at = (y, refl)

-- a linked netlist has a port of its own, so there is a row
first_row : FitLaws → (L : LinkedView) (p : Plan) (seen : List PinSeen) → IsFitting L p seen → (row : FitRow) × (slice_get (rows p seen) 0 ≡ Some row)
first_row by L p seen fits =
    let facts = facts_of by.has by.found L p seen fits in
    let port = slice_get_there (own_ports L) 0 facts.lined.some in
    let there = own_there L 0 port.0 port.1 in
    let wide : length port.0.nets ≡ width_of port.0.range = fits.wide 0 port.0 there in
    let most : 0 < width_of port.0.range = some_width port.0.range in
    let net = some_net port.0.nets (omega arith) in
    let row = by.bits L p seen fits 0 0 net.0 (own_below L 0 port.0 port.1) (ap (option_and_then (λ (q : PortView). slice_get q.nets 0)) there ∙ net.1) in
    first_there (rows p seen) row.number row.row row.there

nearest_is : (ports : List PortView) (first : ℕ) (tdi : NetId) (rs : List FitRow) (row : FitRow) → slice_get rs 0 ≡ Some row
    → last_bit ports first tdi rs ≡ record { 0 = first + nets_of_rows ports (drop 1 rs) }
nearest_is ports first tdi [] row at = absurd (cc)
nearest_is ports first tdi (r ∷ rs) row at = refl

none_mapped : {A C : Type 0} (g : A → C) (o : Option A) → option_map g o ≡ None → o ≡ None
none_mapped g None e = refl
none_mapped g (Some x) e = absurd (cc)

net_of_case : (L : LinkedView) (p : Plan) (seen : List PinSeen) (row : FitRow) → RowCase L p seen row → (net : NetId) → row_net L.arena.lists.ports row ≡ Some net
    → net_of_row L.arena.lists (cell_row (fitted_of L p seen) row) ≡ Some net
net_of_case L p seen row (observed_case n at does cell none s) net here = at.at ∙ sym at.here ∙ here
net_of_case L p seen row (input_case n at does cell none s) net here = at.at ∙ sym at.here ∙ here
net_of_case L p seen row (plain_case n at does cell core none d s) net here = at.at ∙ sym at.here ∙ here
net_of_case L p seen row (added_case n at does cell core named d s) net here = at.at ∙ sym at.here ∙ here
net_of_case L p seen row (driver_case n core at does cell core_is named d s) net here = at.at ∙ sym at.here ∙ here
net_of_case L p seen row (inout_case n core at does cell core_is named d s) net here = at.at ∙ sym at.here ∙ here
net_of_case L p seen row (control_case core pin does cell core_is none s) net here =
    absurd (let bad : None ≡ Some net = sym (ap (option_and_then (pin_net L.arena.lists.ports)) pin) ∙ here in cc)

-- a bit's row
row_of_bit : FitLaws → (L : LinkedView) (p : Plan) (seen : List PinSeen) → IsFitting L p seen → (net : NetId) → HasFitRow L.arena.lists (fitted_of L p seen) net.0
    → HasRowAt (device_of L p seen) L.arena.lists net.0
row_of_bit by L p seen fits net row =
    let f = fitted_of L p seen in
    record {
      place = row.number;
      row = cell_row f row.row;
      there = slice_get-map (cell_row f) (rows p seen) row.number ∙ ap (option_map (cell_row f)) row.there;
      at = net_of_case L p seen row.row (cases_of by.has by.found by.there L p seen fits row.number row.row row.there) net row.at;
      found = found_at by.stand L p seen fits row.number row.row net row.there row.at;
    }

-- a straight bit's net stays
same_net : FitLaws → (L : LinkedView) (p : Plan) (seen : List PinSeen) (M : NetlistView) → IsFitting L p seen → (net : ℕ) (side : Dir) → direction L.arena.lists.ports net ≡ Some side
    → IsStraightNet L.arena.lists (fitted_of L p seen) net → inner_net L.arena.lists M (boundary_at L.arena.lists (fitted_of L p seen)) net ≡ net
same_net by L p seen M fits net side e straight =
    inner_given L.arena.lists M (boundary_at L.arena.lists (fitted_of L p seen)) net (given side e) ∙ straight_stays L.arena.lists (fitted_of L p seen) net straight
  where
    given : (d : Dir) → direction L.arena.lists.ports net ≡ Some d → is_given L.arena.lists net ≡ true
    given dir.Input h = given_by_pin L.arena.lists net (ap follows_pin h)
    given dir.Output h = given_driven by.found L.arena.lists fits.formed net (fits.formed.outputs_driven net h)
    given dir.Inout h = absurd (straight.way h)

-- and no three-state gate drives it in M
plain_there : FitLaws → (L : LinkedView) (p : Plan) (seen : List PinSeen) (M : NetlistView) → Stitch L p seen M → HasPorts M L.arena.lists (places_in M L.arena.lists (fitted_of L p seen))
    → (net : ℕ) (side : Dir) → direction L.arena.lists.ports net ≡ Some side → IsStraightNet L.arena.lists (fitted_of L p seen) net → (i : ℕ) (cell : CellView) → Drives M i cell net
    → is_three_state cell.kind ≡ false
plain_there by L p seen M known ports net dir.Input e straight i cell drives =
    let id : NetId = record { 0 = net } in
    let bit = by.back L.arena.lists dir.Input id e in
    let there = by.has M known.formed dir.Input id
    (record { number = bit.number; port = bit.port; bit = bit.bit; stands = ports.kept bit.number bit.port bit.stands; has = bit.has; same = bit.same }) in
    absurd (known.formed.inputs_free i cell net drives there)
plain_there by L p seen M known ports net dir.Inout e straight i cell drives = absurd (straight.way e)
plain_there by L p seen M known ports net dir.Output e straight i cell drives =
    let B : Boundary = boundary_at L.arena.lists (fitted_of L p seen) in
    let old = known.fits.formed.outputs_driven net e in
    let out : (core_cell B old.cell).output ≡ Some (record { 0 = net })
    = ap (option_map (renamed_net (core_side B))) old.drives.output
    ∙ ap (λ (n : ℕ). Some (let id : NetId = record { 0 = n } in id)) (straight_stays L.arena.lists (fitted_of L p seen) net straight) in
    let live : cell_at M old.number ≡ Some (core_cell B old.cell) = known.inside.stands old.number old.cell old.drives.live in
    let same : i ≡ old.number = known.formed.one_driver i old.number cell (core_cell B old.cell) net drives (record { live = live; output = out }) in
    let is : cell ≡ core_cell B old.cell = some_same cell (core_cell B old.cell) (cell_at M i) drives.live (ap (cell_at M) same ∙ live) in
    ap (λ (c : CellView). is_three_state c.kind) is ∙ straight.plain old.number old.cell old.drives

driver_there : DriverDrives → (N : NetlistView) (net : ℕ) (cell : CellView) → driver_of N.cells net ≡ Some cell → (i : ℕ) × Drives N i cell net
driver_there law N net cell e = subst (IsDriverOf N net) e (law N net)

-- so a hidden port's bit goes straight through
straight_bit : FitLaws → (L : LinkedView) (p : Plan) (seen : List PinSeen) (M : NetlistView) → Stitch L p seen M → HasPorts M L.arena.lists (places_in M L.arena.lists (fitted_of L p seen))
    → (net : ℕ) (side : Dir) → direction L.arena.lists.ports net ≡ Some side → IsHiddenNet L (fitted_of L p seen) net
    → IsStraight M L.arena.lists (device_of L p seen) (places_in M L.arena.lists (fitted_of L p seen)) net
straight_bit by L p seen M known ports net side e hidden =
    let N = L.arena.lists in
    let past : L.straight.first ≤ hidden.number = leb-true _ _ (and_left _ _ hidden.hidden) in
    record {
      none = by.hidden L p seen known.fits hidden.number hidden.bit (record { 0 = net }) past hidden.at;
      same = same_net by L p seen M known.fits net side e hidden.straight;
      way = hidden.straight.way;
      plain = λ cell found. let d = driver_there by.drives N net cell found in hidden.straight.plain d.0 cell d.1;
      stays_plain = λ cell found. let d = driver_there by.drives M net cell found in plain_there by L p seen M known ports net side e hidden.straight d.0 cell d.1;
    }

has_rows : FitLaws → (L : LinkedView) (p : Plan) (seen : List PinSeen) (M : NetlistView) → Stitch L p seen M → HasPorts M L.arena.lists (places_in M L.arena.lists (fitted_of L p seen))
    → HasRows M L.arena.lists (device_of L p seen) (places_in M L.arena.lists (fitted_of L p seen))
has_rows by L p seen M known ports = record {
  some = let at = slice_get_within (device_of L p seen).cells 0 (cell_row f first.0) (slice_get-map (cell_row f) (rows p seen) 0 ∙ ap (option_map (cell_row f)) first.1) in at;
  cells = λ place r there.
      let m = mapped_at (cell_row f) (rows p seen) place r there in
      subst (λ (b : BoundaryRow). HasCells M (row_cells b (row_first N f place) (row_number N f place) (scan_of N f) (row_next N f place)))
      (sym (ap (gates_of (boundary_at N f) (row_side N f place)) m.1)) (known.parts.rows place m.0 m.1).gates;
  kinds = λ place r there.
      let m = mapped_at (cell_row f) (rows p seen) place r there in
      sym (ap (λ (x : CellRow). x.cell) m.2) ∙ (row_is by L p seen M known.fits place m.0 m.1).kind;
  stands = λ place r there.
      let m = mapped_at (cell_row f) (rows p seen) place r there in
      subst (λ (x : CellRow). StandsAround (device_of L p seen) N S place x (S.gates place)) m.2 (row_is by L p seen M known.fits place m.0 m.1).stands;
  inner = λ place r there.
      let m = mapped_at (cell_row f) (rows p seen) (suc place) r there in known.parts.next place m.0 m.1;
  last = λ place none. known.parts.last place (none_mapped (cell_row f) (slice_get (rows p seen) (suc place)) (sym (slice_get-map (cell_row f) (rows p seen) (suc place)) ∙ none));
  bits = λ net side e. elim (each_has by.back by.found by.stand by.bits by.hidden L p seen known.fits net side e) [
    | inl row ↦ inl (row_of_bit by L p seen known.fits (record { 0 = net }) row)
    | inr hidden ↦ inr (straight_bit by L p seen M known ports net side e hidden)
  ];
  driven = λ place r net there at read.
      let m = mapped_at (cell_row f) (rows p seen) place r there in
      subst (λ (x : CellRow). IsDrivenBy M N (device_of L p seen) S net.0 place x) m.2 (driven_bits by known place m.0 net m.1 (ap (net_of_row N) m.2 ∙ at) read);
  seen = λ place r net there at g.
      let m = mapped_at (cell_row f) (rows p seen) place r there in seen_bits by known place m.0 net m.1 (ap (net_of_row N) m.2 ∙ at) g;
  nearest = nearest_is N.ports (register_net N f) (port_of N).tdi (rows p seen) first.0 first.1;
}
  where
    N : NetlistView
    N = L.arena.lists

    f : Fitted
    f = fitted_of L p seen

    S : Places
    S = places_in M L.arena.lists (fitted_of L p seen)

    first : (row : FitRow) × (slice_get (rows p seen) 0 ≡ Some row)
    first = first_row by L p seen known.fits

-- The whole.

pub record WholeLaws : Type 0 where
  pub fit : FitLaws
  pub nests : BuiltInNests
  pub suits : PlansSuitNetlists
  pub contained : ContainedParts
  pub rules : OpcodesKeepTheRules
  pub codes : CodesAreTheDevices
  pub registers : RegistersFit

pub surrounds : WholeLaws → BuiltInSurrounds
surrounds by L p seen names M shown fits laid built formed pins =
    let N = L.arena.lists in
    let f = fitted_of L p seen in
    let parts = built.parts in
    let known : Stitch L p seen M = record {
      fits = fits;
      formed = formed;
      inside = built.core;
      shown = shown;
      parts = parts;
      suits = by.suits L p seen fits;
      contained = by.contained;
    } in
    let ports = has_ports by.fit.has M N names f built.ports formed in
    record {
      formed = formed;
      core_formed = fits.formed;
      pins = pins;
      ports = ports;
      core = by.nests L p seen names M shown fits laid built;
      codes = has_codes by.rules by.codes by.registers L p seen M fits;
      registers = record { controller = parts.controller; instruction = parts.instruction; bypass = parts.bypass; ident = parts.ident; tdo = parts.tdo };
      rows = has_rows by.fit L p seen M known ports;
    }

-- so it is of the stitched netlist
pub stitched_surrounds : BuiltInSurrounds → StitchedIsBuiltIn → StitchedSurrounds
stitched_surrounds around built L p seen names fits laid dense formed pins =
    around L p seen names (stitched L.arena.lists names (fitted_of L p seen)) (bypass_at (first_net L.arena.lists (fitted_of L p seen)) (fitted_of L p seen)) fits laid
    (built L.arena.lists names (fitted_of L p seen) dense) formed pins
