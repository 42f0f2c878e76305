use Rattle.std.proofs.Common.{◌≡◌, ℕ, ◌<◌, Bool, true, false, cond, List, [], ◌∷◌, ◌++◌, length, get_or, set, Option, Some, None, position, refl, sym, ap, subst, ◌∙◌}
use Rattle.std.specs.Prelude.{find, nat_lt}
use Rattle.std.specs.List.{position_or_len}
use Rattle.std.specs.Option.{option_map, option_or}
use Rattle.std.specs.Str.{bytes_eq}
use Rattle.std.specs.Cmp.Lexicographic.{bytes_decides}
use Rattle.std.proofs.lemmas.Option.{cond_some, slice_get-get_or, slice_get_past}
use Rattle.std.proofs.lemmas.Bool.{ltb-true, ltb-false}
use Rattle.std.proofs.lemmas.List.Sums.{passes_at_first}
use Rattle.std.proofs.lemmas.List.Folds.{find-set, find_at, find_past, find-append}
use Rattle.list_laws.proofs.Tests.{never_true}
use Rattle.edge_io.specs.declared.entries.Entry.{Entry}
use Rattle.edge_io.specs.Entries.{value_of}
use Rattle.edge_io.specs.Shelf.{ChangesOne}

cond_none : {A : Type 0} (b : Bool) (x : A) → cond b (Some x) None ≡ None → b ≡ false
cond_none true x h = cc
cond_none false x h = refl

option_or_none : {A : Type 0} (o : Option A) → option_or o None ≡ o
option_or_none None = refl
option_or_none (Some x) = refl

-- what a name stands for, at the place where it is found
found_value : {T : Type 0} (es : List (Entry T)) (i : ℕ) (e : Entry T) (name : List ℕ)
    → position (λ (x : Entry T). bytes_eq x.name name) es ≡ Some i → e ≡ get_or es i e
    → (i < length es) × (i ≡ position_or_len (λ (x : Entry T). bytes_eq x.name name) es) × (e.name ≡ name) × (value_of es name ≡ Some e.value)
found_value {T} es i e name at is =
    let p : Entry T → Bool = λ x. bytes_eq x.name name in
    let first = position_or_len p es in
    let found = cond_some (nat_lt first (length es)) first i at in
    let within : first < length es = ltb-true first (length es) found.0 in
    let here : p (get_or es i e) ≡ true = subst (λ (k : ℕ). p (get_or es k e) ≡ true) found.1 (passes_at_first p es e within) in (
      subst (λ (k : ℕ). k < length es) found.1 within,
      sym found.1,
      ap (λ (x : Entry T). x.name) is ∙ (bytes_decides (get_or es i e).name name).0 here,
      ap (option_map (λ (x : Entry T). x.value)) (find_at p es ∙ slice_get-get_or es first e within ∙ ap (λ (k : ℕ). Some (get_or es k e)) found.1) ∙ ap (λ (x : Entry T). Some x.value) (sym is),
    )

-- what a name stands for, at the place where it is found
pub value_of-found : {T : Type 0} (es : List (Entry T)) (i : ℕ) (e : Entry T) (name : List ℕ)
    → position (λ (x : Entry T). bytes_eq x.name name) es ≡ Some i → e ≡ get_or es i e → value_of es name ≡ Some e.value
value_of-found es i e name at is = (found_value es i e name at is).3

-- a name that is not found stands for nothing
pub value_of-none : {T : Type 0} (es : List (Entry T)) (name : List ℕ)
    → position (λ (x : Entry T). bytes_eq x.name name) es ≡ None → value_of es name ≡ None
value_of-none {T} es name at =
    let p : Entry T → Bool = λ x. bytes_eq x.name name in
    let first = position_or_len p es in
    ap (option_map (λ (x : Entry T). x.value)) (find_at p es ∙ slice_get_past es first (ltb-false first (length es) (cond_none (nat_lt first (length es)) first at)))

-- one entry found by its name gets another value
pub value_of-set : {T : Type 0} (es : List (Entry T)) (i : ℕ) (e : Entry T) (name called : List ℕ) (v : T)
    → position (λ (x : Entry T). bytes_eq x.name name) es ≡ Some i → e ≡ get_or es i e → called ≡ e.name
    → ChangesOne (value_of es) (value_of (set es i (record { name = called; value = v }))) name (λ before after. (before ≡ Some e.value) × (after ≡ Some v))
value_of-set {T} es i e name called v at is same =
    let found = found_value es i e name at is in
    let p : Entry T → Bool = λ x. bytes_eq x.name name in
    let y : Entry T = record { name = called; value = v } in
    let here : p y ≡ true = (bytes_decides called name).1 (same ∙ found.2) in
    record {
      there = (found.3, ap (option_map (λ (x : Entry T). x.value)) (find-set p es i y found.1 found.0 here));
      others = λ other ne.
          let q : Entry T → Bool = λ x. bytes_eq x.name other in
          let no : bytes_eq e.name other ≡ false = never_true _ (λ h. ne (sym ((bytes_decides e.name other).0 h) ∙ found.2)) in
          ap (option_map (λ (x : Entry T). x.value)) (find_past q es i y e (sym (ap (λ (x : Entry T). bytes_eq x.name other) is) ∙ no) (ap (λ n. bytes_eq n other) same ∙ no));
    }

-- an entry is added under a name that had none
pub value_of-push : {T : Type 0} (es : List (Entry T)) (e : Entry T) (name : List ℕ)
    → position (λ (x : Entry T). bytes_eq x.name name) es ≡ None → e.name ≡ name
    → ChangesOne (value_of es) (value_of (es ++ e ∷ [])) name (λ before after. (before ≡ None) × (after ≡ Some e.value))
value_of-push {T} es e name at named =
    let p : Entry T → Bool = λ x. bytes_eq x.name name in
    let first = position_or_len p es in
    let none : find p es ≡ None = find_at p es ∙ slice_get_past es first (ltb-false first (length es) (cond_none (nat_lt first (length es)) first at)) in
    let here : p e ≡ true = (bytes_decides e.name name).1 named in
    let value : Option (Entry T) → Option T = option_map (λ (x : Entry T). x.value) in
    record {
      there = (
        ap value none,
        ap value (find-append p es (e ∷ []) ∙ ap (λ (o : Option (Entry T)). option_or o (find p (e ∷ []))) none ∙ ap (λ (b : Bool). cond b (Some e) None) here),
      );
      others = λ other ne.
          let q : Entry T → Bool = λ x. bytes_eq x.name other in
          let no : q e ≡ false = never_true _ (λ h. ne (sym ((bytes_decides e.name other).0 h) ∙ named)) in
          ap value (find-append q es (e ∷ []) ∙ ap (λ (b : Bool). option_or (find q es) (cond b (Some e) None)) no ∙ option_or_none (find q es));
    }
