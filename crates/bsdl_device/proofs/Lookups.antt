-- Names that are looked up among declared ports.
use Rattle.std.proofs.Common.{◌≡◌, ℕ, ◌+◌, List, [], ◌∷◌, Bool, true, cond, Option, Some, None, map, length, find, refl, sym, ap, subst, ◌∙◌}
use Rattle.std.specs.Prelude.{slice_get, position, unwrap_or, nat_lt, not}
use Rattle.std.specs.List.{position_or_len, prefix_len}
use Rattle.std.specs.Option.{option_map, option_map_or}
use Rattle.std.proofs.lemmas.List.Folds.{find_at}
use Rattle.std.proofs.lemmas.Option.{slice_get-map, slice_get_within}
use Rattle.std.proofs.lemmas.Bool.{lt-ltb}
use Rattle.list_laws.proofs.Options.{found}
use Rattle.bsdl_lexicon.specs.Names.{same_name, is_same_name}
use Rattle.bsdl_lexicon.proofs.SameNames.{same_name-true}
use Rattle.bsdl_device.specs.declared.values.DevPort.{DevPort}
use Rattle.bsdl_device.specs.declared.written.DeclaredPort.{DeclaredPort}
use Rattle.bsdl_device.specs.declared.entries.PinEntry.{PinEntry}
use Rattle.bsdl_device.specs.Ports.{port_named}
use Rattle.bsdl_device.specs.Denoted.{place_of, port_of}
use Rattle.bsdl_device.specs.Canonical.{port_name}
use Rattle.bsdl_device.proofs.RoundTripNames.{same_left, find_same}

-- One name for another.

pub port_named_same : (ports : List DeclaredPort) (a b : List ℕ) → same_name a b → port_named ports a ≡ port_named ports b
port_named_same ports a b same = find_same (λ (p : DeclaredPort). is_same_name a p.name) (λ (p : DeclaredPort). is_same_name b p.name) (λ p. same_left a b p.name same) ports

prefix_same : {A : Type 0} (f g : A → Bool) → ((x : A) → f x ≡ g x) → (xs : List A) → prefix_len f xs ≡ prefix_len g xs
prefix_same f g same [] = refl
prefix_same f g same (x ∷ xs) = ap (λ (b : Bool). cond b (1 + prefix_len f xs) 0) (same x) ∙ ap (λ (n : ℕ). cond (g x) (1 + n) 0) (prefix_same f g same xs)

position_same : {A : Type 0} (f g : A → Bool) → ((x : A) → f x ≡ g x) → (xs : List A) → position f xs ≡ position g xs
position_same f g same xs = ap (λ (n : ℕ). cond (nat_lt n (length xs)) (Some n) None) (prefix_same (λ x. not (f x)) (λ x. not (g x)) (λ x. ap not (same x)) xs)

pub place_of_same : (ports : List DeclaredPort) (a b : List ℕ) → same_name a b → place_of ports a ≡ place_of ports b
place_of_same ports a b same = ap (λ (o : Option ℕ). unwrap_or o 0) (position_same (λ (p : DeclaredPort). is_same_name a p.name) (λ (p : DeclaredPort). is_same_name b p.name) (λ p. same_left a b p.name same) ports)

-- The port at a name's place.

-- where something is found, it stands at its place
pub found_place : {A : Type 0} (test : A → Bool) (xs : List A) (x : A) → find test xs ≡ Some x → slice_get xs (unwrap_or (position test xs) 0) ≡ Some x
found_place {A} test xs x h =
    let there : slice_get xs (position_or_len test xs) ≡ Some x = sym (find_at test xs) ∙ h in
    let within : nat_lt (position_or_len test xs) (length xs) ≡ true = lt-ltb (position_or_len test xs) (length xs) (slice_get_within xs (position_or_len test xs) x there) in
    ap (λ (b : Bool). slice_get xs (unwrap_or (cond b (Some (position_or_len test xs)) None) 0)) within ∙ there

-- the name at the place of a name is that of the port that is found
pub name_at_place : (entries : List PinEntry) (ports : List DeclaredPort) (name : List ℕ) (p : DeclaredPort) → port_named ports name ≡ Some p → port_name (map (port_of entries) ports) (place_of ports name) ≡ p.name
unfolding port_name
name_at_place entries ports name p seen =
    ap (λ (o : Option DevPort). option_map_or (λ (q : DevPort). q.name) o [])
    (slice_get-map (port_of entries) ports (place_of ports name) ∙ ap (λ (o : Option DeclaredPort). option_map (port_of entries) o) (found_place (λ (q : DeclaredPort). is_same_name name q.name) ports p seen))

-- and that is the name, without regard to case
pub same_at_place : (entries : List PinEntry) (ports : List DeclaredPort) (name : List ℕ) (p : DeclaredPort) → port_named ports name ≡ Some p → same_name name (port_name (map (port_of entries) ports) (place_of ports name))
same_at_place entries ports name p seen =
    let same : same_name name p.name = same_name-true name p.name (found (λ (q : DeclaredPort). is_same_name name q.name) ports p seen) in
    subst (λ (n : List ℕ). same_name name n) (sym (name_at_place entries ports name p seen)) same
