-- Options that are told, and the first of several.
use Rattle.std.proofs.Common.{◌≡◌, ℕ, zero, suc, Bool, true, false, cond, if◌then◌else◌, List, [], ◌∷◌, ◌++◌, find, Option, Some, None, is_some, option_map, refl, sym, ap, subst, ◌∙◌}
use Rattle.std.specs.Prelude.{slice_get, Result, Ok, Err, IfErr}
use Rattle.std.specs.Option.{IsSome}
use Rattle.std.specs.Result.{IsErrAnd}
use Rattle.std.specs.List.{AllByRecursion}
use Rattle.list_laws.specs.Options.{or_else, first_in}

-- nothing is no value
pub none_some : {X : Type 0} {x : X} {A : Type 0} → ◌≡◌ {A = Option X} None (Some x) → A
none_some h = cc

pub unit_there : (o : Option (Unit {0})) → is_some o ≡ true → o ≡ Some tt
unit_there (Some x) h = refl
unit_there None h = absurd (cc)

pub unit_absent : (o : Option (Unit {0})) → is_some o ≡ false → o ≡ None
unit_absent (Some x) h = absurd (cc)
unit_absent None h = refl

pub or_else-parts : {X : Type 0} (a b : Option X) → or_else a b ≡ None → (a ≡ None) × (b ≡ None)
or_else-parts None b h = (refl, h)
or_else-parts (Some x) b h = absurd (cc)

-- where a test gives nothing along the list, it gives nothing at a place
pub first_in-at : {X Y : Type 0} (test : X → Option Y) (xs : List X) (k : ℕ) (x : X) → first_in test xs ≡ None → slice_get xs k ≡ Some x → test x ≡ None
first_in-at test [] k x clear here = absurd (cc)
first_in-at {X} test (y ∷ ys) zero x clear here = let same : y ≡ x = cc in rw (sym same) ((or_else-parts (test y) (first_in test ys) clear).0)
first_in-at test (y ∷ ys) (suc k) x clear here = first_in-at test ys k x ((or_else-parts (test y) (first_in test ys) clear).1) here

pub or_else-assoc : {X : Type 0} (a b c : Option X) → or_else (or_else a b) c ≡ or_else a (or_else b c)
or_else-assoc None b c = refl
or_else-assoc (Some x) b c = refl

-- along one list behind another
pub first_in-append : {X Y : Type 0} (test : X → Option Y) (xs ys : List X) → first_in test (xs ++ ys) ≡ or_else (first_in test xs) (first_in test ys)
first_in-append test [] ys = refl
first_in-append test (x ∷ xs) ys = ap (or_else (test x)) (first_in-append test xs ys) ∙ sym (or_else-assoc (test x) (first_in test xs) (first_in test ys))

-- where a test gives nothing at each place, it gives nothing along the list
pub none_along : {X Y : Type 0} (test : X → Option Y) (xs : List X) → AllByRecursion (λ x. test x ≡ None) xs → first_in test xs ≡ None
none_along test [] all = refl
none_along test (x ∷ xs) all = rw all.0 (none_along test xs all.1)

pub some_same : {X : Type 0} (x y : X) (o : Option X) → o ≡ Some x → o ≡ Some y → x ≡ y
some_same x y o e f = cc

-- a choice that gives nothing
pub not_there : {X : Type 0} (b : Bool) (x : X) (rest : Option X) → (if b then Some x else rest) ≡ None → (b ≡ false) × (rest ≡ None)
not_there true x rest h = absurd (cc)
not_there false x rest h = (refl, h)

-- what is found passes
pub found : {X : Type 0} (p : X → Bool) (xs : List X) (x : X) → find p xs ≡ Some x → p x ≡ true
found p [] x h = absurd (cc)
found {X = X} p (y ∷ ys) x h = step (find p ys) (p y) refl (λ k. found p ys x k) h
  where
    step : (rest : Option X) (t : Bool) → p y ≡ t → (rest ≡ Some x → p x ≡ true) → cond t (Some y) rest ≡ Some x → p x ≡ true
    step rest true e more k = let same : y ≡ x = cc in subst (λ (z : X). p z ≡ true) same e
    step rest false e more k = more k

-- a find that gives nothing
pub not_found : {A B : Type 0} (g : A → B) (b : Bool) (x : A) (rest : Option A) → option_map g (cond b (Some x) rest) ≡ None → b ≡ false
not_found g true x rest h = absurd (cc)
not_found g false x rest h = refl

-- a test that is not told
pub not_told : {X : Type 0} (b : Bool) (x : X) → (if b then Some x else None) ≡ None → b ≡ false
not_told true x h = absurd (cc)
not_told false x h = refl

-- what is there, by its test and by its value
pub some_there : {X : Type 0} (o : Option X) → IsSome o → (x : X) × (o ≡ Some x)
some_there None there = absurd (let no : false ≡ true = there in cc)
some_there (Some x) there = (x, refl)

pub is_there : {X : Type 0} (o : Option X) (x : X) → o ≡ Some x → IsSome o
is_there o x e = rw e refl

-- an error of which something holds
pub err_is : {A E : Type 0} (r : Result A E) (f : E) (P : E → Type 0) → IsErrAnd r (λ made. made ≡ f) → P f → IfErr r P
err_is (Ok x) f P is holds = tt
err_is (Err made) f P is holds = subst P (sym is) holds
