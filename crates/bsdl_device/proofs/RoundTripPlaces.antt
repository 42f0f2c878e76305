-- Ports by their places: where each name stands once, a place and the name of its port say the same.
use Rattle.std.proofs.Common.{◌≡◌, ℕ, zero, suc, ◌+◌, ◌<◌, List, [], ◌∷◌, Bool, true, false, cond, Option, Some, None, map, length, refl, sym, ap, ◌∙◌, arith, eq-eqb, eqb-true}
use Rattle.std.proofs.lemmas.List.{length-map}
use Rattle.std.proofs.lemmas.Bool.{lt-ltb}
use Rattle.std.proofs.lemmas.Option.{slice_get_within}
use Rattle.std.specs.Prelude.{◌==◌, ◌||◌, ◌&&◌, not, is_none, slice_get, unwrap_or, nat_lt}
use Rattle.std.specs.List.{list_any, prefix_len, AllByRecursion}
use Rattle.std.specs.Option.{option_map, option_map_or}
use Rattle.list_laws.proofs.Tests.{or_first, or_second}
use Rattle.list_laws.proofs.Numbers.{eqb-sym, eqb_less}
use Rattle.bsdl_lexicon.specs.Names.{same_name, is_same_name}
use Rattle.bsdl_lexicon.proofs.SameNames.{same_name-true, same_turned}
use Rattle.bsdl_device.specs.declared.values.PortMode.{PortMode}
use Rattle.bsdl_device.specs.declared.values.DevPort.{DevPort}
use Rattle.bsdl_device.specs.declared.values.Device.{Device}
use Rattle.bsdl_device.specs.declared.written.DeclaredPort.{DeclaredPort}
use Rattle.bsdl_device.specs.Patterns.{is_filled}
use Rattle.bsdl_device.specs.Ports.{port_named, is_mode}
use Rattle.bsdl_device.specs.Checks.{any_pair, is_repeated, tap_names, is_scalar_port}
use Rattle.bsdl_device.specs.RowRules.{is_tap_port}
use Rattle.bsdl_device.specs.Denoted.{place_of}
use Rattle.bsdl_device.specs.Canonical.{port_name}
use Rattle.bsdl_device.specs.IsDevice.{names_of, tap_places, is_tap_place, is_scalar_at}
use Rattle.bsdl_device.proofs.RoundTripNames.{same_self}
use Rattle.bsdl_device.proofs.Rebuilt.{as_declared, tap_of}

-- each port has a name, and each name stands once
pub record AreNamed (ports : List DevPort) : Type 0 where
  pub filled : AllByRecursion (λ (p : DevPort). is_filled p.name ≡ true) ports
  pub distinct : is_repeated (names_of ports) ≡ false

-- the names behind the first
behind : (p : DevPort) (ps : List DevPort) → AreNamed (p ∷ ps) → AreNamed ps
behind p ps n = record { filled = n.filled.1; distinct = or_second (list_any (is_same_name p.name) (names_of ps)) (is_repeated (names_of ps)) n.distinct }

none_same : (name : List ℕ) → is_filled name ≡ true → is_same_name [] name ≡ false
none_same [] h = absurd (cc)
none_same (b ∷ bytes) h = by (is_same_name [] (b ∷ bytes)) refl
  where
    by : (x : Bool) → is_same_name [] (b ∷ bytes) ≡ x → is_same_name [] (b ∷ bytes) ≡ false
    by true is = let same : same_name [] (b ∷ bytes) = same_name-true [] (b ∷ bytes) is in absurd (cc)
    by false is = is

-- a name that none of the ports has isn't that at any place
not_at : (name : List ℕ) (ports : List DevPort) (k : ℕ) → is_filled name ≡ true → list_any (is_same_name name) (names_of ports) ≡ false → is_same_name name (port_name ports k) ≡ false
unfolding port_name
not_at name [] k filled none = same_turned name [] ∙ none_same name filled
not_at name (p ∷ ps) zero filled none = or_first (is_same_name name p.name) (list_any (is_same_name name) (names_of ps)) none
not_at name (p ∷ ps) (suc k) filled none = not_at name ps k filled (or_second (is_same_name name p.name) (list_any (is_same_name name) (names_of ps)) none)

first_not_at : (p : DevPort) (ps : List DevPort) (k : ℕ) → AreNamed (p ∷ ps) → is_same_name p.name (port_name ps k) ≡ false
first_not_at p ps k n = not_at p.name ps k n.filled.0 (or_first (list_any (is_same_name p.name) (names_of ps)) (is_repeated (names_of ps)) n.distinct)

eq_suc : (j k : ℕ) → (suc j == suc k) ≡ (j == k)
eq_suc j k = by (suc j == suc k) refl (j == k) refl
  where
    by : (x : Bool) → (suc j == suc k) ≡ x → (y : Bool) → (j == k) ≡ y → (suc j == suc k) ≡ (j == k)
    by true h true l = h ∙ sym l
    by false h false l = h ∙ sym l
    by true h false l = let same : suc j ≡ suc k = eqb-true (suc j) (suc k) h in let back : (j == k) ≡ true = eq-eqb j k (omega arith) in absurd (cc)
    by false h true l = let same : j ≡ k = eqb-true j k l in let back : (suc j == suc k) ≡ true = eq-eqb (suc j) (suc k) (omega arith) in absurd (cc)

-- Names of places.

pub same_at : (ports : List DevPort) → AreNamed ports → (j k : ℕ) → j < length ports → is_same_name (port_name ports j) (port_name ports k) ≡ (j == k)
unfolding port_name
same_at [] n j k within = absurd (omega arith)
same_at (p ∷ ps) n zero zero within = same_self p.name
same_at (p ∷ ps) n zero (suc k) within = first_not_at p ps k n ∙ sym (eqb_less 0 (suc k) (omega arith))
same_at (p ∷ ps) n (suc j) zero within = same_turned (port_name ps j) p.name ∙ first_not_at p ps j n ∙ sym (eqb-sym (suc j) 0 ∙ eqb_less 0 (suc j) (omega arith))
same_at (p ∷ ps) n (suc j) (suc k) within = same_at ps (behind p ps n) j k (omega arith) ∙ sym (eq_suc j k)

-- the port of the name at a place is that at the place
pub named_at : (ports : List DevPort) → AreNamed ports → (k : ℕ) → port_named (map as_declared ports) (port_name ports k) ≡ option_map as_declared (slice_get ports k)
unfolding port_name
named_at [] n k = refl
named_at (p ∷ ps) n zero = ap (λ (b : Bool). cond b (Some (as_declared p)) (port_named (map as_declared ps) p.name)) (same_self p.name)
named_at (p ∷ ps) n (suc k) =
    ap (λ (b : Bool). cond b (Some (as_declared p)) (port_named (map as_declared ps) (port_name ps k))) (same_turned (port_name ps k) p.name ∙ first_not_at p ps k n)
    ∙ named_at ps (behind p ps n) k

prefix_at : (ports : List DevPort) → AreNamed ports → (k : ℕ) → k < length ports → prefix_len (λ (q : DeclaredPort). not (is_same_name (port_name ports k) q.name)) (map as_declared ports) ≡ k
unfolding port_name
prefix_at [] n k within = absurd (omega arith)
prefix_at (p ∷ ps) n zero within = ap (λ (b : Bool). cond (not b) (1 + prefix_len (λ (q : DeclaredPort). not (is_same_name p.name q.name)) (map as_declared ps)) 0) (same_self p.name)
prefix_at (p ∷ ps) n (suc k) within =
    ap (λ (b : Bool). cond (not b) (1 + prefix_len (λ (q : DeclaredPort). not (is_same_name (port_name ps k) q.name)) (map as_declared ps)) 0) (same_turned (port_name ps k) p.name ∙ first_not_at p ps k n)
    ∙ ap (λ (m : ℕ). 1 + m) (prefix_at ps (behind p ps n) k (omega arith)) ∙ add_one k
  where
    add_one : (m : ℕ) → 1 + m ≡ suc m
    add_one m = omega arith

pub place_at : (ports : List DevPort) → AreNamed ports → (k : ℕ) → k < length ports → place_of (map as_declared ports) (port_name ports k) ≡ k
place_at ports n k within =
    let many : length (map as_declared ports) ≡ length ports = length-map ports as_declared in
    ap (λ (m : ℕ). unwrap_or (cond (nat_lt m (length (map as_declared ports))) (Some m) None) 0) (prefix_at ports n k within)
    ∙ ap (λ (b : Bool). unwrap_or (cond b (Some k) None) 0) (lt-ltb k (length (map as_declared ports)) (omega arith))

-- The test access port.

pub scalar_at : (ports : List DevPort) → AreNamed ports → (wanted : PortMode) (k : ℕ) → is_scalar_port (map as_declared ports) wanted (port_name ports k) ≡ is_scalar_at ports wanted k
scalar_at ports n wanted k = ap (λ (o : Option DeclaredPort). option_map_or (λ (p : DeclaredPort). is_none p.range && is_mode wanted p.mode) o false) (named_at ports n k) ∙ by (slice_get ports k)
  where
    by : (o : Option DevPort) → option_map_or (λ (p : DeclaredPort). is_none p.range && is_mode wanted p.mode) (option_map as_declared o) false ≡ option_map_or (λ (p : DevPort). is_none p.range && is_mode wanted p.mode) o false
    by None = refl
    by (Some p) = refl

pub scalar_within : (ports : List DevPort) (wanted : PortMode) (k : ℕ) → is_scalar_at ports wanted k ≡ true → k < length ports
scalar_within ports wanted k h = by (slice_get ports k) refl h
  where
    by : (o : Option DevPort) → slice_get ports k ≡ o → option_map_or (λ (p : DevPort). is_none p.range && is_mode wanted p.mode) o false ≡ true → k < length ports
    by None is m = absurd (cc)
    by (Some p) is m = slice_get_within ports k p is

any_at : (ports : List DevPort) → AreNamed ports → (k : ℕ) → k < length ports → (places : List ℕ) → list_any (is_same_name (port_name ports k)) (map (port_name ports) places) ≡ list_any (λ (j : ℕ). k == j) places
any_at ports n k within [] = refl
any_at ports n k within (j ∷ js) =
    ap (λ (b : Bool). b || list_any (is_same_name (port_name ports k)) (map (port_name ports) js)) (same_at ports n k j within)
    ∙ ap (λ (b : Bool). (k == j) || b) (any_at ports n k within js)

pairs_at : (ports : List DevPort) → AreNamed ports → (places : List ℕ) → AllByRecursion (λ (k : ℕ). k < length ports) places → is_repeated (map (port_name ports) places) ≡ any_pair (λ (a : ℕ) (b : ℕ). a == b) places
pairs_at ports n [] within = refl
pairs_at ports n (k ∷ ks) within =
    ap (λ (b : Bool). b || is_repeated (map (port_name ports) ks)) (any_at ports n k within.0 ks)
    ∙ ap (λ (b : Bool). list_any (λ (j : ℕ). k == j) ks || b) (pairs_at ports n ks within.1)

pub tap_at : (d : Device) → AreNamed d.ports → (k : ℕ) → k < length d.ports → is_tap_port (tap_of d) (port_name d.ports k) ≡ is_tap_place d k
tap_at d n k within = any_at d.ports n k within (tap_places d)

pub tap_repeats_at : (d : Device) → AreNamed d.ports → AllByRecursion (λ (k : ℕ). k < length d.ports) (tap_places d) → is_repeated (tap_names (tap_of d)) ≡ any_pair (λ (a : ℕ) (b : ℕ). a == b) (tap_places d)
tap_repeats_at d n within = pairs_at d.ports n (tap_places d) within
