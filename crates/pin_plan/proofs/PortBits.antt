-- The bits of ports without a pin line, port by port.
use Rattle.std.proofs.Common.{◌≡◌, ℕ, suc, ◌+◌, ◌-◌, ◌<◌, Bool, true, false, List, ◌∷◌, ◌++◌, length, map, drop, position, refl, ap, sym, ◌∙◌, arith, Option, Some, None, if◌then◌else◌}
use Rattle.std.specs.Prelude.{slice_get, is_some, is_none}
use Rattle.std.specs.List.{enumerate_from, flat_map}
use Rattle.std.specs.Option.{option_map, option_map_or}
use Rattle.list_laws.specs.Options.{or_else, first_in}
use Rattle.list_laws.proofs.Lists.{left_at, slice_get_there}
use Rattle.list_laws.proofs.Options.{first_in-append}
use Rattle.link_model.specs.Nets.{counted_from}
use Rattle.netlist_model.specs.Lists.{PortView}
use Rattle.netlist_link.specs.Linked.{LinkedView, own_ports}
use Rattle.netlist_link.specs.PinWords.{pin_at}
use Rattle.plan_fitting.specs.declared.fault.FitFault.{FitFault}
use Rattle.plan_fitting.specs.declared.fault.FitFault.TheVariants as fault
use Rattle.plan_fitting.specs.Pins.{PinSeen, same_bit}
use Rattle.plan_fitting.specs.Names.{bits_of_port, named_bit, NamedBit}
use Rattle.plan_fitting.specs.Fits.{bit_fault}
use Rattle.plan_fitting.proofs.OwnPorts.{own_there}
use Rattle.pin_plan.specs.Bits.{missing_at, word_at}
use Rattle.pin_plan.proofs.Lists.{list_any-position}

-- What is left of the bits of a port, from this one on.

abbrev pub bits_left : LinkedView → ℕ → PortView → ℕ → ℕ → List NamedBit
bits_left L number port from width = map (named_bit L number port) (counted_from from (width - from))

-- the first of these without a pin line
abbrev pub missing_left : LinkedView → List PinSeen → ℕ → ℕ → Option FitFault
missing_left L seen number from =
    option_map_or (λ (p : PortView). first_in (bit_fault seen) (bits_left L number p from (length p.nets))) (slice_get L.arena.lists.ports number) None

pub one_bit : (L : LinkedView) (number : ℕ) (port : PortView) (from width : ℕ) → from < width
    → bits_left L number port from width ≡ named_bit L number port from ∷ bits_left L number port (from + 1) width
one_bit L number port from width less =
    let split : width - from ≡ suc (width - suc from) = omega arith in
    let next : suc from ≡ from + 1 = omega arith in
    ap (λ (k : ℕ). map (named_bit L number port) (counted_from from k)) split
    ∙ ap (λ (k : ℕ). named_bit L number port from ∷ map (named_bit L number port) (counted_from k (width - k))) next

-- What is left of the own ports.

abbrev pub ports_left : LinkedView → ℕ → List NamedBit
ports_left L number = flat_map (bits_of_port L) (enumerate_from number (drop number (own_ports L)))

pub one_port : (L : LinkedView) (number : ℕ) (port : PortView) → slice_get (own_ports L) number ≡ Some port
    → ports_left L number ≡ bits_of_port L (number, port) ++ ports_left L (number + 1)
one_port L number port at =
    let next : suc number ≡ number + 1 = omega arith in
    ap (λ (ports : List PortView). flat_map (bits_of_port L) (enumerate_from number ports)) (left_at (own_ports L) number port at)
    ∙ ap (λ (k : ℕ). bits_of_port L (number, port) ++ flat_map (bits_of_port L) (enumerate_from (number + 1) (drop k (own_ports L)))) next

-- A fault in a port, and none.

pub port_faults : (L : LinkedView) (seen : List PinSeen) (number : ℕ) (found : Option FitFault) (whole : Option FitFault) → number < length (own_ports L) → found ≡ missing_at L seen number
    → first_in (bit_fault seen) (ports_left L number) ≡ whole → or_else found (first_in (bit_fault seen) (ports_left L (number + 1))) ≡ whole
port_faults L seen number found whole less is so_far =
    let there = slice_get_there (own_ports L) number less in
    let here : found ≡ first_in (bit_fault seen) (bits_of_port L (number, there.0)) =
    is ∙ ap (λ (o : Option PortView). option_map_or (λ (p : PortView). first_in (bit_fault seen) (bits_of_port L (number, p))) o None) (own_there L number there.0 there.1) in
    ap (λ (o : Option FitFault). or_else o (first_in (bit_fault seen) (ports_left L (number + 1)))) here
    ∙ sym (ap (first_in (bit_fault seen)) (one_port L number there.0 there.1) ∙ first_in-append (bit_fault seen) (bits_of_port L (number, there.0)) (ports_left L (number + 1)))
    ∙ so_far

-- A bit.

abbrev fault_unless : Bool → List ℕ → Option FitFault
fault_unless found word = if found then None else Some (fault.PlanPortMissing word)

-- what stands against a bit of a port
abbrev pub told_at : LinkedView → List PinSeen → ℕ → ℕ → Option FitFault
told_at L seen number from = fault_unless (is_some (position (λ (one : PinSeen). same_bit one.pin (pin_at number from)) seen)) (word_at L (pin_at number from))

bit_told : (seen : List PinSeen) (bit : NamedBit) → bit_fault seen bit ≡ fault_unless (is_some (position (λ (one : PinSeen). same_bit one.pin bit.pin) seen)) bit.word
bit_told seen bit = ap (λ (b : Bool). fault_unless b bit.word) (list_any-position (λ (one : PinSeen). same_bit one.pin bit.pin) seen)

pub left_step : (L : LinkedView) (seen : List PinSeen) (number from width : ℕ) → option_map (λ (p : PortView). length p.nets) (slice_get L.arena.lists.ports number) ≡ Some width → from < width
    → missing_left L seen number from ≡ or_else (told_at L seen number from) (missing_left L seen number (from + 1))
left_step L seen number from width wide less = by (slice_get L.arena.lists.ports number) refl
  where
    at : (p : PortView) → length p.nets ≡ width
        → first_in (bit_fault seen) (bits_left L number p from (length p.nets))
        ≡ or_else (fault_unless (is_some (position (λ (one : PinSeen). same_bit one.pin (pin_at number from)) seen)) (named_bit L number p from).word) (first_in (bit_fault seen) (bits_left L number p (from + 1) (length p.nets)))
    at p long =
        ap (first_in (bit_fault seen)) (one_bit L number p from (length p.nets) (omega (arith, long, less)))
        ∙ ap (λ (o : Option FitFault). or_else o (first_in (bit_fault seen) (bits_left L number p (from + 1) (length p.nets)))) (bit_told seen (named_bit L number p from))

    by : (o : Option PortView) → slice_get L.arena.lists.ports number ≡ o → missing_left L seen number from ≡ or_else (told_at L seen number from) (missing_left L seen number (from + 1))
    by None e = let no : None ≡ Some width = rw e at wide in absurd (cc)
    by (Some p) e = let long : length p.nets ≡ width = let s : Some (length p.nets) ≡ Some width = rw e at wide in cc in rw e (at p long)

-- A bit without a pin line, and one that has one.

pub missing_found : (L : LinkedView) (seen : List PinSeen) (number from width : ℕ) (word : List ℕ) (o : Option ℕ) (whole : Option FitFault)
    → option_map (λ (p : PortView). length p.nets) (slice_get L.arena.lists.ports number) ≡ Some width → from < width
    → o ≡ position (λ (one : PinSeen). same_bit one.pin (pin_at number from)) seen → is_none o ≡ true → word ≡ word_at L (pin_at number from)
    → missing_left L seen number from ≡ whole → Some (fault.PlanPortMissing word) ≡ whole
missing_found L seen number from width word None whole wide less at none is so_far =
    ap (λ (w : List ℕ). Some (fault.PlanPortMissing w)) is
    ∙ ap (λ (b : Option ℕ). or_else (fault_unless (is_some b) (word_at L (pin_at number from))) (missing_left L seen number (from + 1))) at
    ∙ sym (left_step L seen number from width wide less) ∙ so_far
missing_found L seen number from width word (Some place) whole wide less at none is so_far = absurd (cc)

pub missing_passed : (L : LinkedView) (seen : List PinSeen) (number from width : ℕ) (o : Option ℕ) (whole : Option FitFault)
    → option_map (λ (p : PortView). length p.nets) (slice_get L.arena.lists.ports number) ≡ Some width → from < width
    → o ≡ position (λ (one : PinSeen). same_bit one.pin (pin_at number from)) seen → is_none o ≡ false
    → missing_left L seen number from ≡ whole → missing_left L seen number (from + 1) ≡ whole
missing_passed L seen number from width None whole wide less at some so_far = absurd (cc)
missing_passed L seen number from width (Some place) whole wide less at some so_far =
    ap (λ (b : Option ℕ). or_else (fault_unless (is_some b) (word_at L (pin_at number from))) (missing_left L seen number (from + 1))) at
    ∙ sym (left_step L seen number from width wide less) ∙ so_far
