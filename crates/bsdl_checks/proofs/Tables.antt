-- What the table of instructions finds, by the entries that it is made of.
use Rattle.std.proofs.Common.{◌≡◌, ℕ, suc, ◌+◌, ◌<◌, ◌≤◌, Bool, true, false, cond, not, List, [], ◌∷◌, length, map, position, Some, None, is_some, refl, ap, sym, ◌∙◌, arith, ltb-true, ltb-false}
use Rattle.std.specs.Prelude.{nat_lt, ◌||◌}
use Rattle.std.specs.Map.{lookup}
use Rattle.std.specs.List.{list_any, position_or_len}
use Rattle.std.proofs.lemmas.Bool.{lt-ltb}
use Rattle.bsdl_lexicon.specs.Names.{is_same_name}
use Rattle.bsdl_lexicon.specs.NameKeys.{names_in}
use Rattle.bsdl_lexicon.specs.declared.name_key.NameKey.{NameKey}
use Rattle.bsdl_device.specs.declared.registers.values.RegisterEntry.{RegisterEntry}
use Rattle.bsdl_checks.specs.OwnNames.{FindsNames}

-- some key of a name
abbrev key_of : List ℕ → NameKey
key_of name = record { 0 = record { ref_ptr = (0, 0); now = name } }

place-map : {A B : Type 0} (test : B → Bool) (f : A → B) (xs : List A) → position_or_len test (map f xs) ≡ position_or_len (λ x. test (f x)) xs
place-map test f [] = refl
place-map test f (x ∷ xs) = ap (λ (n : ℕ). cond (not (test (f x))) (1 + n) 0) (place-map test f xs)

length-map : {A B : Type 0} (f : A → B) (xs : List A) → length (map f xs) ≡ length xs
length-map f [] = refl
length-map f (x ∷ xs) = ap (λ (n : ℕ). suc n) (length-map f xs)

position-map : {A B : Type 0} (test : B → Bool) (f : A → B) (xs : List A) → position test (map f xs) ≡ position (λ x. test (f x)) xs
position-map test f xs =
    ap (λ (n : ℕ). cond (nat_lt n (length (map f xs))) (Some n) None) (place-map test f xs)
    ∙ ap (λ (m : ℕ). cond (nat_lt (position_or_len (λ x. test (f x)) xs) m) (Some (position_or_len (λ x. test (f x)) xs)) None) (length-map f xs)

pub finds_names : (list : List RegisterEntry) (keys : List NameKey) (table : List (NameKey × ℕ)) → names_in keys ≡ map (λ (e : RegisterEntry). e.instruction) list
    → ((k : NameKey) → lookup (λ (j : NameKey). is_same_name k.0.now j.0.now) table ≡ position (λ (j : NameKey). is_same_name k.0.now j.0.now) keys) → FindsNames list table
finds_names list keys table names finds = record {
  places = λ name.
      finds (key_of name) ∙ sym (position-map (is_same_name name) (λ (k : NameKey). k.0.now) keys) ∙ ap (position (is_same_name name)) names
      ∙ position-map (is_same_name name) (λ (e : RegisterEntry). e.instruction) list;
}

-- a place is found just where one passes
within : {A : Type 0} (test : A → Bool) (xs : List A) → nat_lt (position_or_len test xs) (length xs) ≡ list_any test xs
within test [] = refl
within test (x ∷ xs) = by (test x) (nat_lt (position_or_len test xs) (length xs)) refl (within test xs)
  where
    by : (t b : Bool) → nat_lt (position_or_len test xs) (length xs) ≡ b → nat_lt (position_or_len test xs) (length xs) ≡ list_any test xs → nat_lt (cond (not t) (1 + position_or_len test xs) 0) (suc (length xs)) ≡ (t || list_any test xs)
    by true b e rest = lt-ltb 0 (suc (length xs)) (omega arith)
    by false true e rest =
        let below : position_or_len test xs < length xs = ltb-true (position_or_len test xs) (length xs) e in
        lt-ltb (1 + position_or_len test xs) (suc (length xs)) (omega (arith, below)) ∙ sym e ∙ rest
    by false false e rest =
        let past : length xs ≤ position_or_len test xs = ltb-false (position_or_len test xs) (length xs) e in
        none (nat_lt (1 + position_or_len test xs) (suc (length xs))) refl past ∙ sym e ∙ rest
      where
        none : (b : Bool) → nat_lt (1 + position_or_len test xs) (suc (length xs)) ≡ b → length xs ≤ position_or_len test xs → nat_lt (1 + position_or_len test xs) (suc (length xs)) ≡ false
        none true f past = let below : 1 + position_or_len test xs < suc (length xs) = ltb-true (1 + position_or_len test xs) (suc (length xs)) f in absurd (omega (arith, below, past))
        none false f past = f

pub place_is_any : {A : Type 0} (test : A → Bool) (xs : List A) → is_some (position test xs) ≡ list_any test xs
place_is_any test xs = by (nat_lt (position_or_len test xs) (length xs)) ∙ within test xs
  where
    by : (b : Bool) → is_some (cond b (Some (position_or_len test xs)) None) ≡ b
    by true = refl
    by false = refl
