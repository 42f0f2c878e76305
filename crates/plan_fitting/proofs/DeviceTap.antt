-- The test access port of the device of a plan.
use Rattle.std.proofs.Common.{◌≡◌, ℕ, ◌+◌, ◌<◌, ◌==◌, ◌&&◌, true, false, List, [], ◌∷◌, ◌++◌, map, length, slice_get, Option, Some, refl, ap, ◌∙◌, arith}
use Rattle.std.specs.Prelude.{is_none}
use Rattle.std.specs.List.{list_any, AllByRecursion}
use Rattle.std.specs.Option.{option_map_or}
use Rattle.std.proofs.lemmas.List.{length-map}
use Rattle.list_laws.proofs.Numbers.{eqb_less}
use Rattle.list_laws.proofs.Lists.{slice_get-append_right}
use Rattle.list_laws.proofs.Tests.{neither}
use Rattle.bsdl_device.specs.declared.values.PortMode.{PortMode}
use Rattle.bsdl_device.specs.declared.values.PortMode.TheVariants as mode
use Rattle.bsdl_device.specs.declared.values.DevPort.{DevPort}
use Rattle.bsdl_device.specs.Ports.{is_mode}
use Rattle.bsdl_device.specs.Checks.{any_pair}
use Rattle.bsdl_device.specs.IsDevice.{is_scalar_at, IsDeviceTap}
use Rattle.netlist_unlink.specs.netlist_link.Linked.{LinkedView}
use Rattle.plan_texts.specs.declared.plan.Plan.{Plan}
use Rattle.plan_fitting.specs.declared.fitted.Fitted.{Fitted}
use Rattle.plan_fitting.specs.Pins.{PinSeen}
use Rattle.plan_fitting.specs.Devices.{fitted_of, dev_port, scalar_port, tap_ports, dev_ports, device_of}
use Rattle.plan_fitting.proofs.PlanClock.{HasRegister}

-- the ports behind the netlist's
pub behind_own : (f : Fitted) (place : ℕ) → slice_get (dev_ports f) (length f.ports + place) ≡ slice_get (tap_ports f ++ map (scalar_port mode.Linkage) f.linkage) place
behind_own f place =
    let many : length (map dev_port f.ports) ≡ length f.ports = length-map f.ports dev_port in
    slice_get-append_right (map dev_port f.ports) (tap_ports f ++ map (scalar_port mode.Linkage) f.linkage) (length f.ports + place) place (omega arith)

scalar_there : (ports : List DevPort) (wanted : PortMode) (n place : ℕ) (q : DevPort) → n ≡ place → slice_get ports place ≡ Some q → (is_none q.range && is_mode wanted q.mode) ≡ true
    → is_scalar_at ports wanted n ≡ true
scalar_there ports wanted n place q e at h =
    ap (λ (k : ℕ). is_scalar_at ports wanted k) e
    ∙ ap (λ (o : Option DevPort). option_map_or (λ (x : DevPort). is_none x.range && is_mode wanted x.mode) o false) at ∙ h

pub none_same : (a : ℕ) (xs : List ℕ) → AllByRecursion (λ (x : ℕ). a < x) xs → list_any (λ (x : ℕ). a == x) xs ≡ false
none_same a [] all = refl
none_same a (x ∷ xs) all = neither (a == x) (list_any (λ (y : ℕ). a == y) xs) (eqb_less a x all.0) (none_same a xs all.1)

abbrev AreRising : List ℕ → Type 0
AreRising [] = Unit {0}
AreRising (x ∷ xs) = AllByRecursion (λ (y : ℕ). x < y) xs × AreRising xs

rising_apart : (xs : List ℕ) → AreRising xs → any_pair (λ (a : ℕ) (b : ℕ). a == b) xs ≡ false
rising_apart [] all = refl
rising_apart (x ∷ xs) all = neither (list_any (λ (y : ℕ). x == y) xs) (any_pair (λ (a : ℕ) (b : ℕ). a == b) xs) (none_same x xs all.0) (rising_apart xs all.1)

five_rising : (n : ℕ) → AreRising (n ∷ (n + 1) ∷ (n + 2) ∷ (n + 3) ∷ (n + 4) ∷ [])
five_rising n = (
  (omega arith, (omega arith, (omega arith, (omega arith, tt)))),
  (
    (omega arith, (omega arith, (omega arith, tt))),
    (
      (omega arith, (omega arith, tt)),
      ((omega arith, tt), (tt, tt)),
    ),
  ),
)

pub device_tap : (L : LinkedView) (p : Plan) (seen : List PinSeen) → HasRegister p → IsDeviceTap (device_of L p seen)
device_tap L p seen register =
    let f = fitted_of L p seen in
    let n = length f.ports in
    record {
      tck = scalar_there (dev_ports f) mode.Input n (n + 0) (scalar_port mode.Input f.tck) (omega arith) (behind_own f 0) refl;
      tms = scalar_there (dev_ports f) mode.Input (n + 1) (n + 1) (scalar_port mode.Input f.tms) refl (behind_own f 1) refl;
      tdi = scalar_there (dev_ports f) mode.Input (n + 2) (n + 2) (scalar_port mode.Input f.tdi) refl (behind_own f 2) refl;
      tdo = scalar_there (dev_ports f) mode.Output (n + 3) (n + 3) (scalar_port mode.Output f.tdo) refl (behind_own f 3) refl;
      trst = scalar_there (dev_ports f) mode.Input (n + 4) (n + 4) (scalar_port mode.Input f.trst) refl (behind_own f 4) refl;
      apart = rising_apart (n ∷ (n + 1) ∷ (n + 2) ∷ (n + 3) ∷ (n + 4) ∷ []) (five_rising n);
      clock = register.clock;
    }
