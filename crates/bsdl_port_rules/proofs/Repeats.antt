-- That names come twice, by their keys.
use Rattle.std.proofs.Common.{◌≡◌, ℕ, Bool, ◌||◌, List, [], ◌∷◌, map, refl, ap, ◌∙◌}
use Rattle.std.specs.List.{list_any}
use Rattle.bsdl_lexicon.specs.Names.{is_same_name}
use Rattle.bsdl_lexicon.specs.NameKeys.{names_in}
use Rattle.bsdl_device.specs.Checks.{any_pair, is_repeated}
use Rattle.bsdl_lexicon.specs.declared.name_key.NameKey.{NameKey}

pub list_any-map : {A B : Type 0} (test : B → Bool) (f : A → B) → (xs : List A) → list_any test (map f xs) ≡ list_any (λ x. test (f x)) xs
list_any-map test f [] = refl
list_any-map test f (x ∷ xs) = ap (λ b. test (f x) || b) (list_any-map test f xs)

pub any_pair-map : {A B : Type 0} (test : B → B → Bool) (f : A → B) → (xs : List A) → any_pair test (map f xs) ≡ any_pair (λ x y. test (f x) (f y)) xs
any_pair-map test f [] = refl
any_pair-map test f (x ∷ xs) = ap (λ b. b || any_pair test (map f xs)) (list_any-map (test (f x)) f xs) ∙ ap (λ b. list_any (λ y. test (f x) (f y)) xs || b) (any_pair-map test f xs)

pub repeated_by_keys : (keys : List NameKey) → is_repeated (names_in keys) ≡ any_pair (λ (j k : NameKey). is_same_name j.0.now k.0.now) keys
repeated_by_keys keys = any_pair-map is_same_name (λ (k : NameKey). k.0.now) keys
