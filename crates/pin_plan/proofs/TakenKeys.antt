-- What lines take, by its keys.
use Rattle.std.proofs.Common.{◌≡◌, Bool, false, ◌||◌, List, [], ◌∷◌, ◌++◌, map, refl, ap, sym, ◌∙◌, if◌then◌else◌}
use Rattle.std.specs.List.{list_any}
use Rattle.indexmap.specs.IndexSet.{insert_key}
use Rattle.plan_fitting.specs.Fits.{same_taken}
use Rattle.pin_plan.specs.declared.keys.TakenKey.{TakenKey}
use Rattle.pin_plan.specs.declared.twice.Taken.{Taken}
use Rattle.pin_plan.specs.declared.twice.Taken.TheVariants as taken
use Rattle.pin_plan.specs.Taken.{taken_view, key_of_taken}
use Rattle.pin_plan.specs.contracts.keys.TakenKeyPartialEq.TheImpl.{eq-value}

abbrev pub same_key : TakenKey → TakenKey → Bool
same_key = eq-value.it

-- keys are compared as what is taken is
key_is : (a b : Taken) → same_key (key_of_taken a) (key_of_taken b) ≡ same_taken (taken_view a) (taken_view b)
key_is (taken.PhysicalPin a) (taken.PhysicalPin b) = refl
key_is (taken.PhysicalPin a) (taken.PortBit b other) = refl
key_is (taken.PortBit a word) (taken.PhysicalPin b) = refl
key_is (taken.PortBit a word) (taken.PortBit b other) = refl

any_is : (one : Taken) (ts : List Taken) → list_any (same_key (key_of_taken one)) (map key_of_taken ts) ≡ list_any (same_taken (taken_view one)) (map taken_view ts)
any_is one [] = refl
any_is one (t ∷ ts) = ap (λ (b : Bool). b || list_any (same_key (key_of_taken one)) (map key_of_taken ts)) (key_is one t) ∙ ap (λ (b : Bool). same_taken (taken_view one) (taken_view t) || b) (any_is one ts)

pub key_told : (one : Taken) (key : TakenKey) (keys : List TakenKey) (ts : List Taken) → key ≡ key_of_taken one → keys ≡ map key_of_taken ts
    → list_any (same_key key) keys ≡ list_any (same_taken (taken_view one)) (map taken_view ts)
key_told one key keys ts key_of all =
    ap (λ (k : TakenKey). list_any (same_key k) keys) key_of ∙ ap (list_any (same_key (key_of_taken one))) all ∙ any_is one ts

keys-last : (ts : List Taken) (one : Taken) → map key_of_taken (ts ++ one ∷ []) ≡ map key_of_taken ts ++ key_of_taken one ∷ []
keys-last [] one = refl
keys-last (t ∷ ts) one = ap (λ (l : List TakenKey). key_of_taken t ∷ l) (keys-last ts one)

pub key_added : (one : Taken) (key : TakenKey) (keys new : List TakenKey) (ts : List Taken) → key ≡ key_of_taken one → keys ≡ map key_of_taken ts → list_any (same_key key) keys ≡ false
    → new ≡ insert_key same_key keys key → new ≡ map key_of_taken (ts ++ one ∷ [])
key_added one key keys new ts key_of all fresh is =
    is ∙ ap (λ (b : Bool). if b then keys else keys ++ key ∷ []) fresh
    ∙ ap (λ (k : TakenKey). keys ++ k ∷ []) key_of ∙ ap (λ (l : List TakenKey). l ++ key_of_taken one ∷ []) all ∙ sym (keys-last ts one)
