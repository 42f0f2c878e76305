-- Keys of tables are compared as what they stand for is.
use Rattle.std.proofs.Common.{◌≡◌, ℕ, Bool, true, false, List, [], ◌∷◌, ◌++◌, refl, ap, sym, ◌∙◌, Option, Some, None, eqb-true, if◌then◌else◌}
use Rattle.std.specs.Prelude.{nat_eq}
use Rattle.std.specs.List.{list_any}
use Rattle.std.specs.Option.{option_eq}
use Rattle.indexmap.specs.IndexSet.{insert_key}
use Rattle.list_laws.proofs.Lists.{any_map, any_same, map_push}
use Rattle.list_laws.proofs.Numbers.{eqb_same}
use Rattle.list_laws.proofs.Tests.{and_left, and_right, and_true}
use Rattle.bsdl_device.specs.Instructions.{same_bits}
use Rattle.status_fitting.specs.declared.keys.WireKey.{WireKey}
use Rattle.status_fitting.specs.declared.keys.GivenKey.{GivenKey}
use Rattle.status_fitting.specs.declared.keys.GivenKey.TheVariants as key
use Rattle.status_fitting.specs.declared.keys.PatternKey.{PatternKey}
use Rattle.status_fitting.specs.contracts.keys.GivenKeyPartialEq.TheImpl.{eq-value}
use Rattle.status_fitting.specs.Keys.{same_key, given_of, given_in, pattern_of, patterns_in}
use Rattle.status_fitting.specs.Names.{same_given}

-- Wires.

same_index : (i j : Option ℕ) → option_eq nat_eq i j ≡ true → i ≡ j
same_index None None e = refl
same_index None (Some j) e = absurd (cc)
same_index (Some i) None e = absurd (cc)
same_index (Some i) (Some j) e = ap Some (eqb-true i j e)

index_same : (i : Option ℕ) → option_eq nat_eq i i ≡ true
index_same None = refl
index_same (Some i) = eqb_same i

pub key_parts : (j k : WireKey) → same_key j k ≡ true → (j.number ≡ k.number) × (j.index ≡ k.index)
key_parts j k e = (
  eqb-true j.number k.number (and_left (nat_eq j.number k.number) (option_eq nat_eq j.index k.index) e),
  same_index j.index k.index (and_right (nat_eq j.number k.number) (option_eq nat_eq j.index k.index) e),
)

pub parts_key : (j k : WireKey) → j.number ≡ k.number → j.index ≡ k.index → same_key j k ≡ true
parts_key j k one two =
    and_true (nat_eq j.number k.number) (option_eq nat_eq j.index k.index) (ap (λ (n : ℕ). nat_eq j.number n) (sym one) ∙ eqb_same j.number)
    (ap (λ (i : Option ℕ). option_eq nat_eq j.index i) (sym two) ∙ index_same j.index)

-- Names.

abbrev pub same_given_key : GivenKey → GivenKey → Bool
same_given_key = eq-value.it

given_alike : (a b : GivenKey) → same_given_key a b ≡ same_given (given_of a) (given_of b)
given_alike (key.Register a) (key.Register b) = refl
given_alike (key.Register a) (key.Instruction b) = refl
given_alike (key.Instruction a) (key.Register b) = refl
given_alike (key.Instruction a) (key.Instruction b) = refl

pub any_given : (k : GivenKey) (ks : List GivenKey) → list_any (same_given_key k) ks ≡ list_any (same_given (given_of k)) (given_in ks)
any_given k ks = any_same (same_given_key k) (λ (j : GivenKey). same_given (given_of k) (given_of j)) (λ j. given_alike k j) ks ∙ sym (any_map (same_given (given_of k)) given_of ks)

pub given_added : (k : GivenKey) (ks new : List GivenKey) → list_any (same_given_key k) ks ≡ false → new ≡ insert_key same_given_key ks k → given_in new ≡ given_in ks ++ given_of k ∷ []
given_added k ks new fresh is = ap given_in (is ∙ ap (λ (b : Bool). if b then ks else ks ++ k ∷ []) fresh) ∙ map_push given_of ks k

-- Opcodes.

abbrev pub same_pattern_key : PatternKey → PatternKey → Bool
same_pattern_key a b = same_bits (pattern_of a) (pattern_of b)

pub any_pattern : (k : PatternKey) (ks : List PatternKey) → list_any (same_pattern_key k) ks ≡ list_any (same_bits (pattern_of k)) (patterns_in ks)
any_pattern k ks = sym (any_map (same_bits (pattern_of k)) pattern_of ks)

pub pattern_added : (k : PatternKey) (ks new : List PatternKey) → list_any (same_pattern_key k) ks ≡ false → new ≡ insert_key same_pattern_key ks k → patterns_in new ≡ patterns_in ks ++ pattern_of k ∷ []
pattern_added k ks new fresh is = ap patterns_in (is ∙ ap (λ (b : Bool). if b then ks else ks ++ k ∷ []) fresh) ∙ map_push pattern_of ks k
