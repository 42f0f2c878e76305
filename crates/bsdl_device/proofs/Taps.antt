-- The test access port's names, as the ports spell them.
use Rattle.std.proofs.Common.{◌≡◌, ℕ, List, [], ◌∷◌, Bool, false, cond, Option, Some, None, map, refl, sym, ap, ◌∙◌}
use Rattle.std.specs.Prelude.{◌||◌, ◌&&◌, not, is_none}
use Rattle.std.specs.List.{list_any, filter}
use Rattle.std.specs.Option.{option_map_or}
use Rattle.list_laws.proofs.Tests.{or_first, or_second}
use Rattle.bsdl_lexicon.specs.Names.{same_name, is_same_name}
use Rattle.bsdl_device.specs.declared.values.PortMode.{PortMode}
use Rattle.bsdl_device.specs.declared.values.PortMode.TheVariants as mode
use Rattle.bsdl_device.specs.declared.written.DeclaredPort.{DeclaredPort}
use Rattle.bsdl_device.specs.declared.written.TapNames.{TapNames}
use Rattle.bsdl_device.specs.declared.entries.PinEntry.{PinEntry}
use Rattle.bsdl_device.specs.Ports.{port_named, is_mode, bits_of}
use Rattle.bsdl_device.specs.Checks.{is_repeated, tap_names, is_scalar_port, tap_port_misfits}
use Rattle.bsdl_device.specs.RowRules.{is_system_port, system_bits}
use Rattle.bsdl_device.specs.Denoted.{place_of, port_of}
use Rattle.bsdl_device.specs.Canonical.{port_name}
use Rattle.bsdl_device.proofs.RoundTripNames.{same_left, same_right}
use Rattle.bsdl_device.proofs.Lookups.{port_named_same, same_at_place}

-- the same names, without regard to case
pub record SameTap (a b : TapNames) : Type 0 where
  pub tck : same_name a.tck b.tck
  pub tms : same_name a.tms b.tms
  pub tdi : same_name a.tdi b.tdi
  pub tdo : same_name a.tdo b.tdo
  pub trst : same_name a.trst b.trst

-- Lists of names, one by one.

abbrev SameNames : List (List ℕ) → List (List ℕ) → Type 0
SameNames [] [] = Unit {0}
SameNames [] (y ∷ ys) = ⊥
SameNames (x ∷ xs) [] = ⊥
SameNames (x ∷ xs) (y ∷ ys) = same_name x y × SameNames xs ys

same_names : (a b : TapNames) → SameTap a b → SameNames (tap_names a) (tap_names b)
same_names a b s = (s.tck, (s.tms, (s.tdi, (s.tdo, (s.trst, tt)))))

any_same_name : (n m : List ℕ) → same_name n m → (xs ys : List (List ℕ)) → SameNames xs ys → list_any (is_same_name n) xs ≡ list_any (is_same_name m) ys
any_same_name n m same [] [] s = refl
any_same_name n m same [] (y ∷ ys) s = absurd s
any_same_name n m same (x ∷ xs) [] s = absurd s
any_same_name n m same (x ∷ xs) (y ∷ ys) s =
    ap (λ (b : Bool). b || list_any (is_same_name n) xs) (same_left n m x same ∙ same_right x y m s.0)
    ∙ ap (λ (b : Bool). is_same_name m y || b) (any_same_name n m same xs ys s.1)

repeats_same : (xs ys : List (List ℕ)) → SameNames xs ys → is_repeated xs ≡ is_repeated ys
repeats_same [] [] s = refl
repeats_same [] (y ∷ ys) s = absurd s
repeats_same (x ∷ xs) [] s = absurd s
repeats_same (x ∷ xs) (y ∷ ys) s =
    ap (λ (b : Bool). b || is_repeated xs) (any_same_name x y s.0 xs ys s.1)
    ∙ ap (λ (b : Bool). list_any (is_same_name y) ys || b) (repeats_same xs ys s.1)

pub tap_repeats_same : (a b : TapNames) → SameTap a b → is_repeated (tap_names a) ≡ is_repeated (tap_names b)
tap_repeats_same a b s = repeats_same (tap_names a) (tap_names b) (same_names a b s)

scalar_same : (ports : List DeclaredPort) (wanted : PortMode) (a b : List ℕ) → same_name a b → is_scalar_port ports wanted a ≡ is_scalar_port ports wanted b
scalar_same ports wanted a b same = ap (λ (o : Option DeclaredPort). option_map_or (λ (p : DeclaredPort). is_none p.range && is_mode wanted p.mode) o false) (port_named_same ports a b same)

five : Bool → Bool → Bool → Bool → Bool → Bool
five a b c d e = not a || not b || not c || not d || not e

pub tap_misfits_same : (ports : List DeclaredPort) (a b : TapNames) → SameTap a b → tap_port_misfits ports a ≡ tap_port_misfits ports b
unfolding five
tap_misfits_same ports a b s =
    ap (λ (x : Bool). five x (is_scalar_port ports mode.Input a.tms) (is_scalar_port ports mode.Input a.tdi) (is_scalar_port ports mode.Output a.tdo) (is_scalar_port ports mode.Input a.trst)) (scalar_same ports mode.Input a.tck b.tck s.tck)
    ∙ ap (λ (x : Bool). five (is_scalar_port ports mode.Input b.tck) x (is_scalar_port ports mode.Input a.tdi) (is_scalar_port ports mode.Output a.tdo) (is_scalar_port ports mode.Input a.trst)) (scalar_same ports mode.Input a.tms b.tms s.tms)
    ∙ ap (λ (x : Bool). five (is_scalar_port ports mode.Input b.tck) (is_scalar_port ports mode.Input b.tms) x (is_scalar_port ports mode.Output a.tdo) (is_scalar_port ports mode.Input a.trst)) (scalar_same ports mode.Input a.tdi b.tdi s.tdi)
    ∙ ap (λ (x : Bool). five (is_scalar_port ports mode.Input b.tck) (is_scalar_port ports mode.Input b.tms) (is_scalar_port ports mode.Input b.tdi) x (is_scalar_port ports mode.Input a.trst)) (scalar_same ports mode.Output a.tdo b.tdo s.tdo)
    ∙ ap (λ (x : Bool). five (is_scalar_port ports mode.Input b.tck) (is_scalar_port ports mode.Input b.tms) (is_scalar_port ports mode.Input b.tdi) (is_scalar_port ports mode.Output b.tdo) x) (scalar_same ports mode.Input a.trst b.trst s.trst)

pub system_port_same : (a b : TapNames) → SameTap a b → (p : DeclaredPort) → is_system_port a p ≡ is_system_port b p
system_port_same a b s p = ap (λ (x : Bool). not x && not (is_mode mode.Linkage p.mode)) (any_same_name p.name p.name refl (tap_names a) (tap_names b) (same_names a b s))

pub system_bits_same : (a b : TapNames) → SameTap a b → (ports : List DeclaredPort) → system_bits ports a ≡ system_bits ports b
system_bits_same a b s ports = ap bits_of (over ports)
  where
    over : (ps : List DeclaredPort) → filter (is_system_port a) ps ≡ filter (is_system_port b) ps
    over [] = refl
    over (p ∷ ps) = ap (λ (x : Bool). cond x (p ∷ filter (is_system_port a) ps) (filter (is_system_port a) ps)) (system_port_same a b s p) ∙ ap (λ (l : List DeclaredPort). cond (is_system_port b p) (p ∷ l) l) (over ps)

-- The names of a test access port that fits.

-- the names as the ports at their places spell them
abbrev pub spelled_tap : List PinEntry → List DeclaredPort → TapNames → TapNames
spelled_tap entries ports tap = record {
  tdi = port_name (map (port_of entries) ports) (place_of ports tap.tdi);
  tms = port_name (map (port_of entries) ports) (place_of ports tap.tms);
  tdo = port_name (map (port_of entries) ports) (place_of ports tap.tdo);
  trst = port_name (map (port_of entries) ports) (place_of ports tap.trst);
  tck = port_name (map (port_of entries) ports) (place_of ports tap.tck);
}

spelled_scalar : (entries : List PinEntry) (ports : List DeclaredPort) (wanted : PortMode) (name : List ℕ) → not (is_scalar_port ports wanted name) ≡ false → same_name name (port_name (map (port_of entries) ports) (place_of ports name))
spelled_scalar entries ports wanted name h = by (port_named ports name) refl h
  where
    by : (o : Option DeclaredPort) → port_named ports name ≡ o → not (option_map_or (λ (p : DeclaredPort). is_none p.range && is_mode wanted p.mode) o false) ≡ false → same_name name (port_name (map (port_of entries) ports) (place_of ports name))
    by None is k = absurd (cc)
    by (Some p) is k = same_at_place entries ports name p is

pub tap_again : (entries : List PinEntry) (ports : List DeclaredPort) (tap : TapNames) → tap_port_misfits ports tap ≡ false → SameTap tap (spelled_tap entries ports tap)
tap_again entries ports tap h =
    let a = not (is_scalar_port ports mode.Input tap.tck) in
    let b = not (is_scalar_port ports mode.Input tap.tms) in
    let c = not (is_scalar_port ports mode.Input tap.tdi) in
    let d = not (is_scalar_port ports mode.Output tap.tdo) in
    let e = not (is_scalar_port ports mode.Input tap.trst) in
    let four : (((a || b) || c) || d) ≡ false = or_first (((a || b) || c) || d) e h in
    let three : ((a || b) || c) ≡ false = or_first ((a || b) || c) d four in
    let two : (a || b) ≡ false = or_first (a || b) c three in
    record {
      tck = spelled_scalar entries ports mode.Input tap.tck (or_first a b two);
      tms = spelled_scalar entries ports mode.Input tap.tms (or_second a b two);
      tdi = spelled_scalar entries ports mode.Input tap.tdi (or_second (a || b) c three);
      tdo = spelled_scalar entries ports mode.Output tap.tdo (or_second ((a || b) || c) d four);
      trst = spelled_scalar entries ports mode.Input tap.trst (or_second (((a || b) || c) || d) e h);
    }

pub same_turn : (a b : TapNames) → SameTap a b → SameTap b a
same_turn a b s = record { tck = sym s.tck; tms = sym s.tms; tdi = sym s.tdi; tdo = sym s.tdo; trst = sym s.trst }
