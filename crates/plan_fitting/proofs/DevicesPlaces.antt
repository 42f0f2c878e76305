-- The ports of the device of a plan, by their places, and its rows by their bits.
use Rattle.std.proofs.Common.{◌≡◌, ℕ, suc, ◌+◌, ◌<◌, List, [], ◌++◌, map, length, slice_get, Option, Some, option_map, refl, sym, ap, ◌∙◌, arith}
use Rattle.std.specs.Prelude.{unwrap_or}
use Rattle.std.proofs.lemmas.List.{length-map, length-append}
use Rattle.std.proofs.lemmas.Option.{slice_get-map}
use Rattle.list_laws.proofs.Lists.{all_at}
use Rattle.netlist_model.specs.Lists.{PortView}
use Rattle.netlist_unlink.specs.netlist_link.Linked.{LinkedView}
use Rattle.netlist_unlink.specs.netlist_link.Hidden.{EndsHidden}
use Rattle.bsdl_device.specs.declared.values.PortMode.TheVariants as mode
use Rattle.bsdl_device.specs.declared.values.DevPort.{DevPort}
use Rattle.plan_texts.specs.declared.plan.Plan.{Plan}
use Rattle.plan_fitting.specs.declared.fitted.Fitted.{Fitted}
use Rattle.plan_fitting.specs.Pins.{PinSeen}
use Rattle.plan_fitting.specs.Devices.{fitted_of, fit_port, dev_port, scalar_port, tap_ports, dev_ports, device_of}
use Rattle.plan_fitting.specs.FittingPlan.{IsFitting}
use Rattle.plan_fitting.specs.DevicesLaws.{HasOwnPort, HasPorts, HasTapPlaces, DevicesHavePorts}
use Rattle.plan_fitting.proofs.Indices.{count_of_ports, dev_port_at}
use Rattle.plan_fitting.proofs.OwnPorts.{own_from}
use Rattle.plan_fitting.proofs.DeviceTap.{behind_own}
use Rattle.plan_fitting.proofs.DevicePorts.{HasBytes, ports_have_bytes}

own_port : (L : LinkedView) (p : Plan) (seen : List PinSeen) → IsFitting L p seen → (number : ℕ) (port : PortView) → number < L.straight.first → slice_get L.arena.lists.ports number ≡ Some port
    → HasOwnPort L (device_of L p seen) number port
own_port L p seen fits number port low there =
    let bytes = all_at (HasBytes L) L.arena.lists.ports number port (ports_have_bytes L fits.named) there in
    record {
      q = dev_port (fit_port L p seen (number, port));
      there = dev_port_at L p seen number port (own_from L number port low there);
      name = bytes.is ∙ ap (λ (b : List ℕ). Some b) (sym (ap (λ (o : Option (List ℕ)). unwrap_or o []) bytes.is));
      side = refl;
      range = refl;
    }

-- a port behind the netlist's own
port_behind : (L : LinkedView) (p : Plan) (seen : List PinSeen) → EndsHidden L → (n place : ℕ) (q : DevPort) → n ≡ L.straight.first + place
    → slice_get (tap_ports (fitted_of L p seen) ++ map (scalar_port mode.Linkage) p.linkage) place ≡ Some q → slice_get (device_of L p seen).ports n ≡ Some q
port_behind L p seen ends n place q is at =
    let f = fitted_of L p seen in
    let many : length f.ports ≡ L.straight.first = count_of_ports L p seen ends in
    let same : n ≡ length f.ports + place = omega arith in
    ap (slice_get (dev_ports f)) same ∙ behind_own f place ∙ at

five_on : (f : Fitted) (place : ℕ) → slice_get (tap_ports f ++ map (scalar_port mode.Linkage) f.linkage) (5 + place) ≡ slice_get (map (scalar_port mode.Linkage) f.linkage) place
five_on f place = let at : 5 + place ≡ suc (suc (suc (suc (suc place)))) = omega arith in ap (slice_get (tap_ports f ++ map (scalar_port mode.Linkage) f.linkage)) at

ports_of : (L : LinkedView) (p : Plan) (seen : List PinSeen) → IsFitting L p seen → HasPorts L p (device_of L p seen)
ports_of L p seen fits =
    let f = fitted_of L p seen in
    let more = tap_ports f ++ map (scalar_port mode.Linkage) p.linkage in
    let many : length f.ports ≡ L.straight.first = count_of_ports L p seen fits.ends in
    let own : length (map dev_port f.ports) ≡ length f.ports = length-map f.ports dev_port in
    let last : length (map (scalar_port mode.Linkage) p.linkage) ≡ length p.linkage = length-map p.linkage (scalar_port mode.Linkage) in
    let five : length more ≡ 5 + length (map (scalar_port mode.Linkage) p.linkage) = omega arith in
    let whole : length (device_of L p seen).ports ≡ length (map dev_port f.ports) + length more = length-append (map dev_port f.ports) more in
    record {
      count = omega arith;
      own = own_port L p seen fits;
      tck = port_behind L p seen fits.ends L.straight.first 0 (scalar_port mode.Input p.tck) (omega arith) refl;
      tms = port_behind L p seen fits.ends (L.straight.first + 1) 1 (scalar_port mode.Input p.tms) refl refl;
      tdi = port_behind L p seen fits.ends (L.straight.first + 2) 2 (scalar_port mode.Input p.tdi) refl refl;
      tdo = port_behind L p seen fits.ends (L.straight.first + 3) 3 (scalar_port mode.Output p.tdo) refl refl;
      trst = port_behind L p seen fits.ends (L.straight.first + 4) 4 (scalar_port mode.Input p.trst) refl refl;
      linkage = λ place line at.
          port_behind L p seen fits.ends (L.straight.first + (5 + place)) (5 + place) (scalar_port mode.Linkage line) refl
          (five_on f place ∙ slice_get-map (scalar_port mode.Linkage) p.linkage place ∙ ap (option_map (scalar_port mode.Linkage)) at);
    }

tap_places_of : (L : LinkedView) (p : Plan) (seen : List PinSeen) → EndsHidden L → HasTapPlaces L (device_of L p seen)
tap_places_of L p seen ends =
    let many : length (fitted_of L p seen).ports ≡ L.straight.first = count_of_ports L p seen ends in
    record {
      tck = many;
      tms = ap (λ (n : ℕ). n + 1) many;
      tdi = ap (λ (n : ℕ). n + 2) many;
      tdo = ap (λ (n : ℕ). n + 3) many;
      trst = ap (λ (n : ℕ). n + 4) many;
    }

pub devices_have_ports : DevicesHavePorts
devices_have_ports L p seen fits = (ports_of L p seen fits, tap_places_of L p seen fits.ends)
