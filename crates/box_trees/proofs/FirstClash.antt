-- Hidden names that have a bit of a word.
use Rattle.std.proofs.Common.{◌≡◌, ◌≢◌, ℕ, Bool, true, false, ◌&&◌, ◌||◌, find, List, [], ◌∷◌, ◌++◌, Option, Some, None, refl, sym, ap, ◌∙◌, inl, inr}
use Rattle.std.specs.Prelude.{◌⊎◌}
use Rattle.std.specs.List.{list_any}
use Rattle.std.specs.Option.{option_map_or}
use Rattle.std.specs.Fmt.{decimal}
use Rattle.std.specs.Str.{bytes_eq}
use Rattle.std.specs.Cmp.Lexicographic.{bytes_decides}
use Rattle.list_laws.proofs.Tests.{both_true, and_true, never_true, true_or_false}
use Rattle.list_laws.proofs.Lists.{any_same}
use Rattle.list_laws.proofs.Options.{found}
use Rattle.verilog_tree.specs.declared.tree.Range.{Range}
use Rattle.verilog_tree.specs.declared.tree.Port.{Port}
use Rattle.link_model.specs.Nets.{is_within}
use Rattle.box_model.specs.Ports.{indexes_of}
use Rattle.box_model.specs.Faults.{bit_word, is_bit_word}
use Rattle.box_trees.specs.declared.hidden_names.HiddenName.{HiddenName}
use Rattle.box_trees.specs.HiddenNames.{indexed, IsBracketless, holds_digits, digits_within, is_word_of, is_word_in, clashes_with, is_name}
use Rattle.box_trees.proofs.WordParts.{decimal_bracketless, parts_same}

abbrev first_named : List HiddenName → List ℕ → Option HiddenName
first_named hidden name = find (λ (h : HiddenName). bytes_eq name h.name) hidden

-- Tests that hold together.

same_test : (a b : Bool) → (a ≡ true → b ≡ true) → (b ≡ true → a ≡ true) → a ≡ b
same_test true b there back = sym (there refl)
same_test false b there back = sym (never_true b (λ e. let no : false ≡ true = back e in cc))

under : (w a b : Bool) → a ≡ b → (w && a) ≡ (w && b)
under w a b e = ap (λ (c : Bool). w && c) e

pub none_held : {X : Type 0} (test : X → Bool) → ((x : X) → test x ≡ false) → (xs : List X) → list_any test xs ≡ false
none_held test none [] = refl
none_held test none (x ∷ xs) = ap (λ (b : Bool). b || list_any test xs) (none x) ∙ none_held test none xs

kept : (b : Bool) → (b && true) ≡ b
kept true = refl
kept false = refl

none_under : (w : Bool) → (w && false) ≡ false
none_under true = refl
none_under false = refl

-- The word of a name's digits.

same_word : (n digits : List ℕ) (index : ℕ) → IsBracketless digits → bytes_eq (indexed n digits) (bit_word n index) ≡ bytes_eq digits (decimal index)
same_word n digits index bare =
    same_test (bytes_eq (indexed n digits) (bit_word n index)) (bytes_eq digits (decimal index))
    (λ e. (bytes_decides digits (decimal index)).1 (parts_same n n digits (decimal index) bare (decimal_bracketless index) ((bytes_decides (indexed n digits) (bit_word n index)).0 e)).1)
    (λ e. (bytes_decides (indexed n digits) (bit_word n index)).1 (ap (indexed n) ((bytes_decides digits (decimal index)).0 e)))

other_word : (n name digits : List ℕ) (index : ℕ) → IsBracketless digits → bytes_eq name n ≡ false → bytes_eq (indexed n digits) (bit_word name index) ≡ false
other_word n name digits index bare apart =
    never_true (bytes_eq (indexed n digits) (bit_word name index)) (λ e.
    let same : n ≡ name = (parts_same n name digits (decimal index) bare (decimal_bracketless index) ((bytes_decides (indexed n digits) (bit_word name index)).0 e)).0 in
    let clash : true ≡ false = sym ((bytes_decides name n).1 (sym same)) ∙ apart in cc)

own_word : (n digits : List ℕ) (range : Option Range) → IsBracketless digits → is_word_of (indexed n digits) n range ≡ digits_within range digits
own_word n digits None bare = refl
own_word n digits (Some r) bare =
    any_same (λ (index : ℕ). is_within r index && bytes_eq (indexed n digits) (bit_word n index)) (λ (index : ℕ). is_within r index && bytes_eq digits (decimal index))
    (λ index. under (is_within r index) (bytes_eq (indexed n digits) (bit_word n index)) (bytes_eq digits (decimal index)) (same_word n digits index bare)) (indexes_of r)

no_word : (n name digits : List ℕ) (range : Option Range) → IsBracketless digits → bytes_eq name n ≡ false → is_word_of (indexed n digits) name range ≡ false
no_word n name digits None bare apart = refl
no_word n name digits (Some r) bare apart =
    none_held (λ (index : ℕ). is_within r index && bytes_eq (indexed n digits) (bit_word name index))
    (λ index. under (is_within r index) (bytes_eq (indexed n digits) (bit_word name index)) false (other_word n name digits index bare apart) ∙ none_under (is_within r index)) (indexes_of r)

-- A word without brackets.

no_part : (word : List ℕ) → ((name digits : List ℕ) → IsBracketless digits → word ≢ indexed name digits) → (name : List ℕ) (range : Option Range) → is_word_of word name range ≡ false
no_part word none name None = refl
no_part word none name (Some r) =
    none_held (λ (index : ℕ). is_within r index && bytes_eq word (bit_word name index))
    (λ index. under (is_within r index) (bytes_eq word (bit_word name index)) false (never_true (bytes_eq word (bit_word name index)) (λ e. none name (decimal index) (decimal_bracketless index) ((bytes_decides word (bit_word name index)).0 e)))
    ∙ none_under (is_within r index)) (indexes_of r)

of_none : (word name : List ℕ) (o : Option HiddenName) → ((h : HiddenName) → is_word_of word name h.vector ≡ false) → option_map_or (λ (h : HiddenName). is_word_of word name h.vector) o false ≡ false
of_none word name None none = refl
of_none word name (Some h) none = none h

pub unparted : (hidden : List HiddenName) (word : List ℕ) → ((name digits : List ℕ) → IsBracketless digits → word ≢ indexed name digits) → (name : List ℕ) → false ≡ is_word_in hidden word name
unparted hidden word none name = sym (of_none word name (first_named hidden name) (λ h. no_part word none name h.vector))

-- A word of a bit, by the first hidden port of its name.

abbrev clash_or_none : List HiddenName → List ℕ → List ℕ → Option HiddenName → Bool
clash_or_none hidden digits name None = false
clash_or_none hidden digits name (Some h) = digits_within h.vector digits && bytes_eq name h.name

parted_is : (hidden : List HiddenName) (n digits : List ℕ) (first : Option HiddenName) → IsBracketless digits → first ≡ first_named hidden n → (name : List ℕ) → clash_or_none hidden digits name first ≡ is_word_in hidden (indexed n digits) name
parted_is hidden n digits first bare is name = by (true_or_false (bytes_eq name n)) first is
  where
    by : (bytes_eq name n ≡ true) ⊎ (bytes_eq name n ≡ false) → (o : Option HiddenName) → o ≡ first_named hidden n → clash_or_none hidden digits name o ≡ is_word_in hidden (indexed n digits) name
    by (inl e) None is =
        let same : name ≡ n = (bytes_decides name n).0 e in
        sym (ap (λ (x : List ℕ). option_map_or (λ (h : HiddenName). is_word_of (indexed n digits) name h.vector) (first_named hidden x) false) same
        ∙ ap (λ (o : Option HiddenName). option_map_or (λ (h : HiddenName). is_word_of (indexed n digits) name h.vector) o false) (sym is))
    by (inl e) (Some h) is =
        let same : name ≡ n = (bytes_decides name n).0 e in
        let named : bytes_eq n h.name ≡ true = found (λ (x : HiddenName). bytes_eq n x.name) hidden h (sym is) in
        let here : bytes_eq name h.name ≡ true = ap (λ (x : List ℕ). bytes_eq x h.name) same ∙ named in
        ap (λ (b : Bool). digits_within h.vector digits && b) here ∙ kept (digits_within h.vector digits)
        ∙ sym (own_word n digits h.vector bare)
        ∙ sym (ap (λ (x : List ℕ). option_map_or (λ (k : HiddenName). is_word_of (indexed n digits) x k.vector) (first_named hidden x) false) same
        ∙ ap (λ (o : Option HiddenName). option_map_or (λ (k : HiddenName). is_word_of (indexed n digits) n k.vector) o false) (sym is))
    by (inr e) None is = sym (of_none (indexed n digits) name (first_named hidden name) (λ h. no_word n name digits h.vector bare e))
    by (inr e) (Some h) is =
        let named : n ≡ h.name = (bytes_decides n h.name).0 (found (λ (x : HiddenName). bytes_eq n x.name) hidden h (sym is)) in
        under (digits_within h.vector digits) (bytes_eq name h.name) false (ap (bytes_eq name) (sym named) ∙ e) ∙ none_under (digits_within h.vector digits)
        ∙ sym (of_none (indexed n digits) name (first_named hidden name) (λ k. no_word n name digits k.vector bare e))

pub named_nowhere : (hidden : List HiddenName) (n digits : List ℕ) → IsBracketless digits → None ≡ first_named hidden n → (name : List ℕ) → false ≡ is_word_in hidden (indexed n digits) name
named_nowhere hidden n digits bare none name = parted_is hidden n digits None bare none name

pub named_first : (hidden : List HiddenName) (n digits : List ℕ) (h : HiddenName) (held : Bool) (found_name : List ℕ) → IsBracketless digits → Some h ≡ first_named hidden n → held ≡ digits_within h.vector digits → found_name ≡ h.name
    → (name : List ℕ) → (held && bytes_eq name found_name) ≡ is_word_in hidden (indexed n digits) name
named_first hidden n digits h held found_name bare is within same name =
    ap (λ (b : Bool). b && bytes_eq name found_name) within ∙ ap (λ (x : List ℕ). digits_within h.vector digits && bytes_eq name x) same ∙ parted_is hidden n digits (Some h) bare is name

-- Ports.

scalar_word : (name : List ℕ) (range : Option Range) (q : Port) → q.range ≡ None → is_bit_word name range q ≡ is_word_of q.name name range
scalar_word name None q scalar = refl
scalar_word name (Some r) q scalar = ap (λ (o : Option Range). option_map_or (λ (range : Range). false) o (is_word_of q.name name (Some r))) scalar

vector_word : (name : List ℕ) (range : Option Range) (q : Port) (r : Range) → q.range ≡ Some r → is_bit_word name range q ≡ false
vector_word name None q r vector = refl
vector_word name (Some s) q r vector = ap (λ (o : Option Range). option_map_or (λ (range : Range). false) o (is_word_of q.name name (Some s))) vector

pub vector_apart : (hidden : List HiddenName) (q : Port) (r : Range) → q.range ≡ Some r → (name : List ℕ) → false ≡ clashes_with hidden name q
vector_apart hidden q r vector name = by (first_named hidden name)
  where
    by : (o : Option HiddenName) → false ≡ option_map_or (λ (h : HiddenName). is_bit_word name h.vector q) o false
    by None = refl
    by (Some h) = sym (vector_word name h.vector q r vector)

pub scalar_clash : (hidden : List HiddenName) (q : Port) (word : List ℕ) → q.range ≡ None → word ≡ q.name → (name : List ℕ) → is_word_in hidden word name ≡ clashes_with hidden name q
scalar_clash hidden q word scalar same name = ap (λ (w : List ℕ). is_word_in hidden w name) same ∙ by (first_named hidden name)
  where
    by : (o : Option HiddenName) → option_map_or (λ (h : HiddenName). is_word_of q.name name h.vector) o false ≡ option_map_or (λ (h : HiddenName). is_bit_word name h.vector q) o false
    by None = refl
    by (Some h) = sym (scalar_word name h.vector q scalar)
