-- What tables find under names, by the lists that they are made of.
use Rattle.std.proofs.Common.{◌≡◌, ℕ, suc, ◌+◌, ◌<◌, Bool, true, false, cond, not, ◌||◌, ◌==◌, find, get_or, List, [], ◌∷◌, length, map, count_by, position, Some, None, refl, ap, sym, ◌∙◌, ltb-true, ltb-false}
use Rattle.std.specs.Prelude.{nat_lt}
use Rattle.std.proofs.lemmas.Option.{slice_get-get_or, slice_get_past}
use Rattle.std.proofs.lemmas.List.Folds.{find_at}
use Rattle.std.proofs.lemmas.List.Sums.{sum_by-cons}
use Rattle.std.specs.List.{list_any, position_or_len}
use Rattle.bsdl_lexicon.specs.Names.{is_same_name}
use Rattle.bsdl_lexicon.specs.NameKeys.{names_in}
use Rattle.bsdl_device.specs.declared.written.DeclaredPort.{DeclaredPort}
use Rattle.bsdl_device.specs.declared.entries.PinEntry.{PinEntry}
use Rattle.bsdl_device.specs.Ports.{port_names}
use Rattle.bsdl_device.specs.Checks.{port_not_mapped_once}
use Rattle.bsdl_lexicon.specs.declared.name_key.NameKey.{NameKey}
use Rattle.bsdl_lexicon.proofs.SameNames.{same_turned}
use Rattle.bsdl_port_rules.specs.declared.keys.Uses.{Uses}
use Rattle.bsdl_port_rules.specs.Keys.{uses_for, is_once}
use Rattle.bsdl_port_rules.specs.NameTables.{under_name, FindsPorts}
use Rattle.bsdl_port_rules.proofs.KeyLists.{is_once-uses_for}

-- some key of a name
abbrev pub key_of : List ℕ → NameKey
key_of name = record { 0 = record { ref_ptr = (0, 0); now = name } }

pub place-map : {A B : Type 0} (test : B → Bool) (f : A → B) → (xs : List A) → position_or_len test (map f xs) ≡ position_or_len (λ x. test (f x)) xs
place-map test f [] = refl
place-map test f (x ∷ xs) = ap (λ (n : ℕ). cond (not (test (f x))) (1 + n) 0) (place-map test f xs)

length-map : {A B : Type 0} (f : A → B) → (xs : List A) → length (map f xs) ≡ length xs
length-map f [] = refl
length-map f (x ∷ xs) = ap (λ (n : ℕ). suc n) (length-map f xs)

pub position-map : {A B : Type 0} (test : B → Bool) (f : A → B) → (xs : List A) → position test (map f xs) ≡ position (λ x. test (f x)) xs
position-map test f xs = ap (λ (n : ℕ). cond (nat_lt n (length (map f xs))) (Some n) None) (place-map test f xs) ∙ ap (λ (m : ℕ). cond (nat_lt (position_or_len (λ x. test (f x)) xs) m) (Some (position_or_len (λ x. test (f x)) xs)) None) (length-map f xs)

pub count_by-map : {A B : Type 0} (test : B → Bool) (f : A → B) → (xs : List A) → count_by test (map f xs) ≡ count_by (λ x. test (f x)) xs
count_by-map test f [] = refl
count_by-map test f (x ∷ xs) =
    sum_by-cons (λ y. cond (test y) 1 0) (f x) (map f xs) ∙ ap (λ (n : ℕ). cond (test (f x)) 1 0 + n) (count_by-map test f xs)
    ∙ sym (sum_by-cons (λ y. cond (test (f y)) 1 0) x xs)

count_alike : {A : Type 0} (p q : A → Bool) → ((x : A) → p x ≡ q x) → (xs : List A) → count_by p xs ≡ count_by q xs
count_alike {A} p q same xs = ap (λ (t : A → Bool). count_by t xs) (λ i x. same x i)

-- the first place of a name in a list of its keys
pub places_by_names : (keys : List NameKey) (names : List (List ℕ)) (name : List ℕ) → names_in keys ≡ names
    → position (λ (k : NameKey). is_same_name name k.0.now) keys ≡ position (is_same_name name) names
places_by_names keys names name h = sym (position-map (is_same_name name) (λ (k : NameKey). k.0.now) keys) ∙ ap (position (is_same_name name)) h

pub counts_by_names : (keys : List NameKey) (names : List (List ℕ)) (name : List ℕ) → names_in keys ≡ names
    → count_by (λ (k : NameKey). is_same_name name k.0.now) keys ≡ count_by (is_same_name name) names
counts_by_names keys names name h = sym (count_by-map (is_same_name name) (λ (k : NameKey). k.0.now) keys) ∙ ap (count_by (is_same_name name)) h

-- the table of first places finds ports
pub finds_ports : (ports : List DeclaredPort) (keys : List NameKey) (entries : List (NameKey × ℕ)) → names_in keys ≡ port_names ports
    → ((k : NameKey) → under_name entries k.0.now ≡ position (λ (j : NameKey). is_same_name k.0.now j.0.now) keys) → FindsPorts ports entries
finds_ports ports keys entries names finds = record {
  places = λ name. finds (key_of name) ∙ places_by_names keys (port_names ports) name names ∙ position-map (is_same_name name) (λ (p : DeclaredPort). p.name) ports;
}

-- what stands at the first place
pub found : {A : Type 0} (test : A → Bool) (xs : List A) (i : ℕ) (x : A) → Some i ≡ position test xs → x ≡ get_or xs i x → Some x ≡ find test xs
found {A} test xs i x place is = by (nat_lt (position_or_len test xs) (length xs)) refl
  where
    by : (b : Bool) → nat_lt (position_or_len test xs) (length xs) ≡ b → Some x ≡ find test xs
    by true e =
        let same : Some i ≡ Some (position_or_len test xs) = place ∙ ap (λ (c : Bool). cond c (Some (position_or_len test xs)) None) e in
        let at : i ≡ position_or_len test xs = cc in
        ap (λ (y : A). Some y) (is ∙ ap (λ (n : ℕ). get_or xs n x) at)
        ∙ sym (slice_get-get_or xs (position_or_len test xs) x (ltb-true (position_or_len test xs) (length xs) e)) ∙ sym (find_at test xs)
    by false e = let no : Some i ≡ None = place ∙ ap (λ (c : Bool). cond c (Some (position_or_len test xs)) None) e in absurd (cc)

pub not_found : {A : Type 0} (test : A → Bool) (xs : List A) → None ≡ position test xs → None ≡ find test xs
not_found {A} test xs none = by (nat_lt (position_or_len test xs) (length xs)) refl
  where
    by : (b : Bool) → nat_lt (position_or_len test xs) (length xs) ≡ b → None ≡ find test xs
    by true e = let no : None ≡ Some (position_or_len test xs) = none ∙ ap (λ (c : Bool). cond c (Some (position_or_len test xs)) None) e in absurd (cc)
    by false e = sym (find_at test xs ∙ slice_get_past xs (position_or_len test xs) (ltb-false (position_or_len test xs) (length xs) e))

-- entries that map a port once
mapped_once : (p : DeclaredPort) (list : List PinEntry) (keys : List NameKey) (entries : List (NameKey × Uses)) → names_in keys ≡ map (λ (e : PinEntry). e.port) list
    → ((k : NameKey) → under_name entries k.0.now ≡ uses_for (count_by (λ (j : NameKey). is_same_name k.0.now j.0.now) keys))
    → is_once (under_name entries p.name) ≡ (count_by (λ (e : PinEntry). is_same_name e.port p.name) list == 1)
mapped_once p list keys entries names uses =
    ap is_once (uses (key_of p.name)) ∙ is_once-uses_for (count_by (λ (j : NameKey). is_same_name p.name j.0.now) keys)
    ∙ ap (λ (n : ℕ). n == 1) (
    counts_by_names keys (map (λ (e : PinEntry). e.port) list) p.name names
    ∙ count_by-map (is_same_name p.name) (λ (e : PinEntry). e.port) list
    ∙ count_alike (λ (e : PinEntry). is_same_name p.name e.port) (λ (e : PinEntry). is_same_name e.port p.name) (λ e. same_turned p.name e.port) list
    )

pub all_mapped_once : (list : List PinEntry) (keys : List NameKey) (entries : List (NameKey × Uses)) → names_in keys ≡ map (λ (e : PinEntry). e.port) list
    → ((k : NameKey) → under_name entries k.0.now ≡ uses_for (count_by (λ (j : NameKey). is_same_name k.0.now j.0.now) keys))
    → (ports : List DeclaredPort) → list_any (λ (p : DeclaredPort). not (is_once (under_name entries p.name))) ports ≡ port_not_mapped_once ports list
all_mapped_once list keys entries names uses [] = refl
all_mapped_once list keys entries names uses (p ∷ ps) =
    ap (λ b. not b || list_any (λ (q : DeclaredPort). not (is_once (under_name entries q.name))) ps) (mapped_once p list keys entries names uses)
    ∙ ap (λ b. not (count_by (λ (e : PinEntry). is_same_name e.port p.name) list == 1) || b) (all_mapped_once list keys entries names uses ps)
