-- What fits a netlist is small enough to be counted, its test access port's names can be written, and where there is room some text
-- spells its device.
use Rattle.std.proofs.Common.{◌≡◌, ℕ, suc, ◌+◌, ◌*◌, ◌^◌, ◌<◌, ◌≤◌, List, [], ◌∷◌, length, slice_get, Option, Some, None, Result, Ok, Err, refl, ap, sym, subst, ◌∙◌, arith}
use Rattle.std.specs.Prelude.{MatchOption, IsOkUnless}
use Rattle.std.specs.List.{enumerate_from}
use Rattle.std.proofs.lemmas.List.{length-map}
use Rattle.std.proofs.lemmas.List.Sums.{sum_by-cons}
use Rattle.netlist_link.proofs.Rewrites.{within}
use Rattle.netlist_model.specs.declared.Range.{Range}
use Rattle.netlist_model.specs.Lists.{PortView}
use Rattle.netlist_model.specs.Formed.{IsLaidOut, width_of}
use Rattle.netlist_arena.specs.Arena.{bit_count}
use Rattle.netlist_arena.specs.Room.{too_many}
use Rattle.netlist_arena.specs.declared.room.ReserveFault.{ReserveFault}
use Rattle.netlist_model.specs.Ports.{BitHasDirection}
use Rattle.netlist_model.specs.Drivers.{DriverIsFound}
use Rattle.netlist_link.specs.Linked.{LinkedView, own_ports}
use Rattle.plan_texts.specs.declared.plan.Plan.{Plan}
use Rattle.plan_texts.specs.Canonical.{IsPlan}
use Rattle.plan_fitting.specs.declared.fitted.Fitted.{Fitted}
use Rattle.plan_fitting.specs.Rows.{rows}
use Rattle.plan_fitting.specs.Devices.{IsFitted, fit_port, device_of}
use Rattle.plan_fitting.specs.FittingPlan.{IsFitting, HasRoom}
use Rattle.plan_fitting.specs.DevicesLaws.{TapNamesAreNew, FittedIsFitting, PlansMakeDevices}
use Rattle.plan_fitting.proofs.PlanClock.{plans_have_registers}
use Rattle.scan_stitch.specs.Ready.{IsSmall, HasTapNames}
use Rattle.scan_stitch.specs.Laws.{FittedBitsAreThere}
use Rattle.scan_stitch.specs.written_netlists.Prepared.{room_of, ports_of, prepared}
use Rattle.bsdl_device.specs.IsDevice.{IsDevice}
use Rattle.plan_fitting.proofs.DevicesFacts.{facts_of}
use Rattle.plan_fitting.proofs.DeviceIs.{rows_within}
use Rattle.plan_fitting.proofs.OwnPorts.{own_few, own_bits_few}
use Rattle.scan_stitch.proofs.written_netlists.NamesLimits.{few_bits}
use Rattle.insertion_inputs.specs.Inputs.{IsLinkedTree, IsReadyAs, IsPreparedAs, HasRoomFor}
use Rattle.insertion_inputs.specs.Reserves.{reserve_fault}
use Rattle.insertion_inputs.specs.Faults.{StandsInFit}
use Rattle.insertion_inputs.proofs.Bits.{bits_few}
use Rattle.netlist_arena.specs.declared.room.ReserveFault.TheVariants as reserve

-- the laws of plans that fit
pub record Laws : Type 0 where
  pub fitting : FittedIsFitting
  pub has : BitHasDirection
  pub found : DriverIsFound
  pub new : TapNamesAreNew
  pub there : FittedBitsAreThere

fitting_of : FittedIsFitting → (L : LinkedView) (p : Plan) (f : Fitted) → IsLinkedTree L → IsPlan p → (is : IsFitted L p f) → IsFitting L p is.seen
fitting_of law L p f linked plan is = law linked.tree L p f linked.is linked.listed linked.links plan is

-- Counts.

small : Laws → (L : LinkedView) (p : Plan) (f : Fitted) → IsLinkedTree L → IsPlan p → IsFitted L p f → length f.linkage + 5 < 2 ^ 32 → IsSmall f
small laws L p f linked plan is lines =
    let fits = fitting_of laws.fitting L p f linked plan is in
    let few : length (rows p is.seen) ≤ 2 * bit_count L.arena.lists.ports = rows_within L p is.seen fits (facts_of laws.has laws.found L p is.seen fits) in
    let bits : bit_count L.arena.lists.ports ≤ 4096 = bits_few linked.tree L linked.links in
    let rows_are : length f.rows ≡ length (rows p is.seen) = ap (λ (g : Fitted). length g.rows) is.is in
    let bits_are : f.codes.length ≡ p.length = ap (λ (g : Fitted). g.codes.length) is.is in
    let most : p.length ≤ 32 = (plans_have_registers p plan).most in
    record { rows = omega arith; bits = omega arith; linkage = lines }

some_width : (range : Option Range) → 1 ≤ width_of range
some_width None = omega arith
some_width (Some r) = omega arith

-- each port has a bit
ports_within : (ports : List PortView) → ((number : ℕ) (port : PortView) → slice_get ports number ≡ Some port → length port.nets ≡ width_of port.range) → length ports ≤ bit_count ports
ports_within [] wide = omega arith
ports_within (port ∷ ports) wide =
    let here : length port.nets ≡ width_of port.range = wide 0 port refl in
    let some : 1 ≤ width_of port.range = some_width port.range in
    let rest : length ports ≤ bit_count ports = ports_within ports (λ number other there. wide (suc number) other there) in
    let sum : bit_count (port ∷ ports) ≡ length port.nets + bit_count ports = sum_by-cons (λ (q : PortView). length q.nets) port ports in
    omega arith

enumerated : {X : Type 0} (n : ℕ) (xs : List X) → length (enumerate_from n xs) ≡ length xs
enumerated n [] = refl
enumerated n (x ∷ xs) = ap suc (enumerated (n + 1) xs)

few_ports : Laws → (L : LinkedView) (p : Plan) (f : Fitted) → IsLinkedTree L → IsPlan p → IsFitted L p f → length f.ports + 5 < 2 ^ 32
few_ports laws L p f linked plan is =
    let bits : bit_count L.arena.lists.ports ≤ 4096 = bits_few linked.tree L linked.links in
    let within : length L.arena.lists.ports ≤ bit_count L.arena.lists.ports = ports_within L.arena.lists.ports (fitting_of laws.fitting L p f linked plan is).wide in
    let own : length (own_ports L) ≤ length L.arena.lists.ports = own_few L in
    let same : length f.ports ≡ length (own_ports L) =
    ap (λ (g : Fitted). length g.ports) is.is ∙ length-map (enumerate_from 0 (own_ports L)) (fit_port L p is.seen) ∙ enumerated 0 (own_ports L) in
    omega arith

-- Names.

has_names : Laws → (L : LinkedView) (p : Plan) (f : Fitted) → IsLinkedTree L → IsPlan p → IsFitted L p f → HasTapNames f
has_names laws L p f linked plan is =
    let written = (laws.new L p is.seen (fitting_of laws.fitting L p f linked plan is)).written in
    subst HasTapNames (sym is.is) (record {
      tck = written 0 p.tck (omega arith);
      tms = written 1 p.tms (omega arith);
      tdi = written 2 p.tdi (omega arith);
      tdo = written 3 p.tdo (omega arith);
      trst = written 4 p.trst (omega arith);
    })

pub ready : Laws → (L : LinkedView) (p : Plan) (f : Fitted) → IsLinkedTree L → IsPlan p → IsLaidOut L.arena.lists → IsFitted L p f → length f.linkage + 5 < 2 ^ 32 → IsReadyAs L p f
ready laws L p f linked plan laid is lines = record {
  fits = is;
  small = small laws L p f linked plan is lines;
  names = has_names laws L p f linked plan is;
  bits = (laws.there L p f laid is).0;
  few = few_ports laws L p f linked plan is;
}

-- Room.

device_there : FittedIsFitting → PlansMakeDevices → (L : LinkedView) (p : Plan) (f : Fitted) → IsLinkedTree L → IsPlan p → (is : IsFitted L p f) → HasRoomFor L f → IsDevice (device_of L p is.seen)
device_there fitting make L p f linked plan is room =
    let bits : bit_count L.arena.lists.ports + ports_of f ≤ 4096 = few_bits L.arena.lists (room_of f) (room_of f) (ports_of f) room in
    let lines : length f.linkage ≡ length p.linkage = ap (λ (g : Fitted). length g.linkage) is.is in
    let own : bit_count (own_ports L) ≤ bit_count L.arena.lists.ports = own_bits_few L in
    let limit : HasRoom L p = omega arith in
    make L p is.seen (fitting_of fitting L p f linked plan is) limit

pub prepared_is : FittedIsFitting → PlansMakeDevices → (L : LinkedView) (p : Plan) (f : Fitted) (after : LinkedView) → IsLinkedTree L → IsPlan p → IsReadyAs L p f → HasRoomFor L f → after ≡ prepared f L
    → IsPreparedAs L p f after
prepared_is fitting make L p f after linked plan is room after_is = record {
  ready = is;
  room = room;
  after_is = after_is;
  device = device_there fitting make L p f linked plan is.fits room;
}

-- What preparing answers.

-- no limit is passed where it went well
pub room_there : {T : Type 0} (o : Option ReserveFault) (x : T) (A : Type 0) → MatchOption o A (λ f. ◌≡◌ {A = Result T ReserveFault} (Ok x) (Err f)) → o ≡ None
room_there None x A answer = refl
room_there (Some f) x A answer = absurd (cc)

err_same : {T E : Type 0} (e f : E) → ◌≡◌ {A = Result T E} (Err e) (Err f) → f ≡ e
err_same e f h = cc

-- what it refuses stands
pub room_fault : (T : Type 0) (L : LinkedView) (p : Plan) (f : Fitted) (e : ReserveFault) (o : Option ReserveFault) → IsFitted L p f → too_many L.arena.lists (room_of f) (room_of f) (ports_of f) ≡ o
    → MatchOption o (IsOkUnless {T = T} (Err e) reserve.OutOfMemory) (λ other. ◌≡◌ {A = Result T ReserveFault} (Err e) (Err other)) → StandsInFit L p (reserve_fault e)
room_fault T L p f e None is told answer = subst (λ (g : ReserveFault). StandsInFit L p (reserve_fault g)) (sym answer) tt
room_fault T L p f e (Some (reserve.TooMany what count limit)) is told answer =
    subst (λ (g : ReserveFault). StandsInFit L p (reserve_fault g)) (err_same e (reserve.TooMany what count limit) answer) (record { fitted = f; is = is; passes = told })
room_fault T L p f e (Some reserve.OutOfMemory) is told answer = subst (λ (g : ReserveFault). StandsInFit L p (reserve_fault g)) (err_same e reserve.OutOfMemory answer) tt
