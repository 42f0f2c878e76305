-- What a table of modules finds under names.
use Rattle.std.proofs.Common.{◌≡◌, ℕ, suc, ◌+◌, Bool, true, false, cond, not, find, get_or, List, [], ◌∷◌, length, map, position, Some, None, Bor, refl, ap, sym, ◌∙◌, ltb-true, ltb-false}
use Rattle.std.specs.Prelude.{nat_lt}
use Rattle.std.specs.Map.{lookup}
use Rattle.std.specs.List.{position_or_len}
use Rattle.std.specs.Str.{bytes_eq}
use Rattle.std.proofs.lemmas.Option.{slice_get-get_or, slice_get_past}
use Rattle.std.proofs.lemmas.List.Folds.{find_at}
use Rattle.verilog_tree.specs.declared.tree.Module.{Module}
use Rattle.hier_model.specs.WalkNames.{texts, module_names, FindsModules}

-- some borrowed name
abbrev pub lent : List ℕ → Bor (List ℕ)
lent name = record { ref_ptr = (0, 0); now = name }

place-map : {A B : Type 0} (test : B → Bool) (f : A → B) → (xs : List A) → position_or_len test (map f xs) ≡ position_or_len (λ x. test (f x)) xs
place-map test f [] = refl
place-map test f (x ∷ xs) = ap (λ (n : ℕ). cond (not (test (f x))) (1 + n) 0) (place-map test f xs)

length-mapped : {A B : Type 0} (f : A → B) → (xs : List A) → length (map f xs) ≡ length xs
length-mapped f [] = refl
length-mapped f (x ∷ xs) = ap (λ (n : ℕ). suc n) (length-mapped f xs)

-- where the first that passes stands among values of things
pub position-map : {A B : Type 0} (test : B → Bool) (f : A → B) → (xs : List A) → position test (map f xs) ≡ position (λ x. test (f x)) xs
position-map test f xs =
    ap (λ (n : ℕ). cond (nat_lt n (length (map f xs))) (Some n) None) (place-map test f xs)
    ∙ ap (λ (m : ℕ). cond (nat_lt (position_or_len (λ x. test (f x)) xs) m) (Some (position_or_len (λ x. test (f x)) xs)) None) (length-mapped f xs)

-- a table of first places finds modules
pub finds_modules : (modules : List Module) (names : List (Bor (List ℕ))) (entries : List (Bor (List ℕ) × ℕ)) → texts names ≡ module_names modules
    → ((k : Bor (List ℕ)) → lookup (λ (j : Bor (List ℕ)). bytes_eq k.now j.now) entries ≡ position (λ (j : Bor (List ℕ)). bytes_eq k.now j.now) names) → FindsModules modules entries
finds_modules modules names entries same finds = record {
  places = λ name.
      finds (lent name)
      ∙ sym (position-map (bytes_eq name) (λ (k : Bor (List ℕ)). k.now) names)
      ∙ ap (position (bytes_eq name)) same
      ∙ position-map (bytes_eq name) (λ (m : Module). m.name) modules;
}

-- what stands at the first place
pub stands_first : {A : Type 0} (test : A → Bool) (xs : List A) (i : ℕ) (x : A) → Some i ≡ position test xs → x ≡ get_or xs i x → Some x ≡ find test xs
stands_first {A} test xs i x place is = by (nat_lt (position_or_len test xs) (length xs)) refl
  where
    by : (b : Bool) → nat_lt (position_or_len test xs) (length xs) ≡ b → Some x ≡ find test xs
    by true e =
        let same : Some i ≡ Some (position_or_len test xs) = place ∙ ap (λ (c : Bool). cond c (Some (position_or_len test xs)) None) e in
        let at : i ≡ position_or_len test xs = cc in
        ap (λ (y : A). Some y) (is ∙ ap (λ (n : ℕ). get_or xs n x) at)
        ∙ sym (slice_get-get_or xs (position_or_len test xs) x (ltb-true (position_or_len test xs) (length xs) e)) ∙ sym (find_at test xs)
    by false e = let no : Some i ≡ None = place ∙ ap (λ (c : Bool). cond c (Some (position_or_len test xs)) None) e in absurd (cc)

pub stands_nowhere : {A : Type 0} (test : A → Bool) (xs : List A) → None ≡ position test xs → None ≡ find test xs
stands_nowhere {A} test xs none = by (nat_lt (position_or_len test xs) (length xs)) refl
  where
    by : (b : Bool) → nat_lt (position_or_len test xs) (length xs) ≡ b → None ≡ find test xs
    by true e = let no : None ≡ Some (position_or_len test xs) = none ∙ ap (λ (c : Bool). cond c (Some (position_or_len test xs)) None) e in absurd (cc)
    by false e = sym (find_at test xs ∙ slice_get_past xs (position_or_len test xs) (ltb-false (position_or_len test xs) (length xs) e))
