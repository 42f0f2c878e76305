-- What was fitted is prepared: its device with the registers is one that some text spells.
use Rattle.std.proofs.Common.{◌≡◌, ℕ, ◌+◌, ◌≤◌, length, Option, Some, None, Result, Ok, Err, refl, ap, arith}
use Rattle.std.specs.Prelude.{MatchOption, IsOkUnless, OnOk}
use Rattle.netlist_arena.specs.Arena.{bit_count}
use Rattle.netlist_arena.specs.declared.room.ReserveFault.{ReserveFault}
use Rattle.netlist_arena.specs.declared.room.ReserveFault.TheVariants as reserve
use Rattle.netlist_link.specs.Linked.{LinkedView, own_ports}
use Rattle.plan_texts.specs.declared.plan.Plan.{Plan}
use Rattle.plan_texts.specs.Canonical.{IsPlan}
use Rattle.plan_fitting.specs.declared.fitted.Fitted.{Fitted}
use Rattle.plan_fitting.specs.Devices.{IsFitted, device_of}
use Rattle.bsdl_device.specs.IsExtended.{IsExtended}
use Rattle.insertion_inputs.specs.Inputs.{IsLinkedTree, IsReadyAs}
use Rattle.status_fitting.specs.declared.fitted.FittedStatus.{FittedStatus}
use Rattle.written_netlists.specs.Prepared.{ports_of}
use Rattle.plan_fitting.specs.FittingPlan.{IsFitting, HasRoom}
use Rattle.plan_fitting.specs.DevicesLaws.{FittedIsFitting}
use Rattle.plan_fitting.proofs.OwnPorts.{own_bits_few}
use Rattle.status_register.specs.Devices.{extended_of}
use Rattle.status_register.specs.Laws.{RegistersMakeDevices}
use Rattle.status_register.specs.status_room.Ready.{whole_room}
use Rattle.status_register.specs.status_room.Prepared.{prepared_status}
use Rattle.status_register.specs.Stitch.{AreRegisters, excess, HasRoomFor}
use Rattle.written_netlists.proofs.NamesLimits.{few_bits}
use Rattle.status_inputs.specs.Inputs.{IsPreparedAs}

fitting_of : FittedIsFitting → (L : LinkedView) (p : Plan) (f : Fitted) → IsLinkedTree L → IsPlan p → (is : IsFitted L p f) → IsFitting L p is.seen
fitting_of law L p f linked plan is = law linked.tree L p f linked.is linked.listed linked.links plan is

device_there : FittedIsFitting → RegistersMakeDevices → (L : LinkedView) (p : Plan) (f : Fitted) (s : FittedStatus) → IsLinkedTree L → IsPlan p → (is : IsFitted L p f) → AreRegisters L p s
    → HasRoomFor L f s → IsExtended (extended_of (device_of L p is.seen) s)
device_there fitting make L p f s linked plan is are room =
    let bits : bit_count L.arena.lists.ports + ports_of f ≤ 4096 = few_bits L.arena.lists (whole_room f s.registers) (whole_room f s.registers) (ports_of f) room in
    let lines : length f.linkage ≡ length p.linkage = ap (λ (g : Fitted). length g.linkage) is.is in
    let own : bit_count (own_ports L) ≤ bit_count L.arena.lists.ports = own_bits_few L in
    let limit : HasRoom L p = omega arith in
    make L p is.seen s (fitting_of fitting L p f linked plan is) limit are

prepared_is : FittedIsFitting → RegistersMakeDevices → (L : LinkedView) (p : Plan) (f : Fitted) (s : FittedStatus) (after : LinkedView) → IsLinkedTree L → IsPlan p → IsReadyAs L p f
    → AreRegisters L p s → HasRoomFor L f s → after ≡ prepared_status f s.registers L → IsPreparedAs L p f s after
prepared_is fitting make L p f s after linked plan is are room after_is = record {
  ready = is;
  registers = are;
  room = room;
  after_is = after_is;
  device = device_there fitting make L p f s linked plan is.fits are room;
}

-- no limit is passed where it went well
pub room_there : {T : Type 0} (o : Option ReserveFault) (x : T) (A : Type 0) → MatchOption o A (λ f. ◌≡◌ {A = Result T ReserveFault} (Ok x) (Err f)) → o ≡ None
room_there None x A answer = refl
room_there (Some f) x A answer = absurd (cc)

pub prepared_told : {T : Type 0} → FittedIsFitting → RegistersMakeDevices → (r : Result T ReserveFault) (L : LinkedView) (p : Plan) (f : Fitted) (s : FittedStatus) (after : LinkedView) → IsLinkedTree L → IsPlan p
    → IsReadyAs L p f → AreRegisters L p s → MatchOption (excess L f s) (IsOkUnless r reserve.OutOfMemory) (λ other. r ≡ Err other) → OnOk r (after ≡ prepared_status f s.registers L)
    → OnOk r (IsPreparedAs L p f s after)
prepared_told fitting make (Ok x) L p f s after linked plan is are answer made =
    prepared_is fitting make L p f s after linked plan is are (room_there (excess L f s) x (IsOkUnless (Ok x) reserve.OutOfMemory) answer) made
prepared_told fitting make (Err e) L p f s after linked plan is are answer made = tt
