-- The views of words are the patterns that they see.
use Rattle.std.proofs.Common.{◌≡◌, ℕ, ◌==◌, Bool, true, false, cond, List, [], ◌∷◌, Option, Some, None, refl, ap, ◌∙◌}
use Rattle.std.specs.Prelude.{◌++◌, option_and_then, codes}
use Rattle.std.specs.Str.{bytes_eq}
use Rattle.std.specs.List.{AllByRecursion}
use Rattle.std.proofs.lemmas.Slice.Eq.{bytes_eq-Decides}
use Rattle.bsdl_lexicon.specs.declared.token.BsdlToken.{BsdlToken}
use Rattle.bsdl_lexicon.specs.declared.token.BsdlToken.TheVariants as word
use Rattle.bsdl_lexicon.specs.Words.{name_in, integer_in, real_in, quoted_in, symbol_in, symbol_byte}
use Rattle.bsdl_lexicon.specs.declared.symbol.BsdlSymbol.{BsdlSymbol}
use Rattle.bsdl_lexicon.specs.declared.symbol.BsdlSymbol.TheVariants.{Colon, Semicolon, Comma, Ampersand}
use borrow.Author.Tests.{eqb-true}
use Rattle.bsdl_device.specs.declared.written.IntegerAttribute.{IntegerAttribute}
use Rattle.bsdl_device.specs.declared.written.StringAttribute.{StringAttribute}
use Rattle.bsdl_device.specs.Patterns.{MatchesBy}
use Rattle.bsdl_device.specs.Shape.{names_words, strings_words, attribute_words, integer_attribute_words, string_attribute_words, Pattern, KeyWord, NameOf, IntegerOf, RealOf, StringOf, Mark, BecomesMark, Fits}
use Rattle.bsdl_device.specs.Readers.{take_at, marks_at}
use Rattle.bsdl_device.specs.Files.{same_string, real_at, key, entity_at, integer_attribute_at, string_attribute_at, mark_in, views, name_at, integer_at, strings_at, names_at}
use Rattle.bsdl_device.proofs.Exact.{Exact, Anything}
use Rattle.bsdl_device.proofs.Choices.{NotNext}
use Rattle.bsdl_device.proofs.Matched.{Spelled, spelled_take, spelled_marks, spelled_skip, spelled_ended, spelled_pair, spelled_made}
use Rattle.bsdl_device.proofs.Listed.{AreSome, spelled_some}

-- a pattern without a value
abbrev pub is_mark : Pattern → Bool
is_mark (KeyWord wanted) = true
is_mark (NameOf name) = false
is_mark (IntegerOf value) = false
is_mark (RealOf real) = false
is_mark (StringOf bytes) = true
is_mark (Mark wanted) = true
is_mark BecomesMark = true

-- no rule of its own
abbrev pub Free : {X : Type 0} → X → Type 0
Free x = Unit {0}

pub all_free : {X : Type 0} (xs : List X) → AllByRecursion (λ (x : X). Free x) xs
all_free [] = tt
all_free (x ∷ xs) = (tt, all_free xs)

-- something, where a test is passed
abbrev pub seen : Bool → Option (Unit {0})
seen b = cond b (Some tt) None

string_there : (wanted : List ℕ) (o : Option (List ℕ)) → option_and_then (same_string wanted) o ≡ Some tt → o ≡ Some wanted
string_there wanted None h = absurd (cc)
string_there wanted (Some bytes) h = go (bytes_eq bytes wanted) refl h
  where
    go : (b : Bool) → bytes_eq bytes wanted ≡ b → seen b ≡ Some tt → Some bytes ≡ Some wanted
    go true e h = ap (λ (l : List ℕ). Some l) ((bytes_eq-Decides bytes wanted).0 e)
    go false e h = absurd (cc)

mark_there : (q : Pattern) (w : BsdlToken) → mark_in q w ≡ Some tt → Fits q w
mark_there (KeyWord wanted) w h = h
mark_there (NameOf name) w h = absurd (cc)
mark_there (IntegerOf value) w h = absurd (cc)
mark_there (RealOf real) w h = absurd (cc)
mark_there (StringOf bytes) w h = string_there bytes (quoted_in w) h
mark_there (Mark wanted) w h = h
mark_there BecomesMark w h = h

mark_back : (q : Pattern) (w : BsdlToken) → is_mark q ≡ true → Fits q w → mark_in q w ≡ Some tt
mark_back (KeyWord wanted) w m h = h
mark_back (NameOf name) w m h = absurd (cc)
mark_back (IntegerOf value) w m h = absurd (cc)
mark_back (RealOf real) w m h = absurd (cc)
mark_back (StringOf bytes) w m h =
    ap (λ (o : Option (List ℕ)). option_and_then (same_string bytes) o) h
    ∙ ap (λ (b : Bool). seen b) ((bytes_eq-Decides bytes bytes).1 refl)
mark_back (Mark wanted) w m h = h
mark_back BecomesMark w m h = h

pub marks_law : (marks : List Pattern) → AllByRecursion (λ q. is_mark q ≡ true) marks → Exact BsdlToken (Unit {0}) (λ ws. marks_at (views marks) ws) (Spelled Fits Free (λ _. marks)) Anything
marks_law marks all = spelled_marks Fits is_mark mark_in mark_there mark_back marks all

pub name_law : Exact BsdlToken (List ℕ) (λ ws. name_at ws) (Spelled Fits Free (λ name. NameOf name ∷ [])) Anything
name_law = spelled_take Fits name_in (λ name. NameOf name) (λ x w h. h) (λ x w h. h)

pub integer_law : Exact BsdlToken ℕ (λ ws. integer_at ws) (Spelled Fits Free (λ value. IntegerOf value ∷ [])) Anything
integer_law = spelled_take Fits integer_in (λ value. IntegerOf value) (λ x w h. h) (λ x w h. h)

pub string_law : Exact BsdlToken (List ℕ) (λ ws. take_at quoted_in ws) (Spelled Fits Free (λ bytes. StringOf bytes ∷ [])) Anything
string_law = spelled_take Fits quoted_in (λ bytes. StringOf bytes) (λ x w h. h) (λ x w h. h)

pub real_law : Exact BsdlToken (List ℕ) (λ ws. real_at ws) (Spelled Fits Free (λ real. RealOf real ∷ [])) Anything
real_law = spelled_take Fits real_in (λ real. RealOf real) (λ x w h. h) (λ x w h. h)

pub strings_law : Exact BsdlToken (List (List ℕ)) (λ ws. strings_at ws) (Spelled Fits (AreSome Free) strings_words) (NotNext (symbol_in Ampersand))
strings_law = spelled_some Fits (λ bytes. StringOf bytes ∷ []) (Mark Ampersand) (symbol_in Ampersand) (λ w h. h) (λ w h. h) string_law

pub names_law : Exact BsdlToken (List (List ℕ)) (λ ws. names_at ws) (Spelled Fits (AreSome Free) names_words) (NotNext (symbol_in Comma))
names_law = spelled_some Fits (λ name. NameOf name ∷ []) (Mark Comma) (symbol_in Comma) (λ w h. h) (λ w h. h) name_law

-- Attributes.

pub entity_law : (kind : List ℕ) → Exact BsdlToken (List ℕ) (λ ws. entity_at kind ws) (Spelled Fits Free (λ entity. attribute_words kind entity)) Anything
entity_law kind =
    let before : List Pattern = key (codes "attribute") ∷ key kind ∷ key (codes "of") ∷ [] in
    let behind : List Pattern = Mark Colon ∷ key (codes "entity") ∷ key (codes "is") ∷ [] in
    spelled_ended Fits (views behind) behind (λ entity. before ++ NameOf entity ∷ []) (spelled_skip Fits (views before) before (λ entity. NameOf entity ∷ []) (marks_law before (refl, (refl, (refl, tt)))) name_law) (marks_law behind (refl, (refl, (refl, tt)))) (λ b left m. tt)

-- one symbol is no other
symbol_differs : (s t : BsdlSymbol) → (symbol_byte s == symbol_byte t) ≡ false → (w : BsdlToken) → symbol_in s w ≡ Some tt → symbol_in t w ≡ None
symbol_differs s t other (word.Name n) h = absurd (cc)
symbol_differs s t other (word.Integer v) h = absurd (cc)
symbol_differs s t other (word.Real r) h = absurd (cc)
symbol_differs s t other (word.Quoted q) h = absurd (cc)
symbol_differs s t other (word.Symbol u) h = go (symbol_byte u == symbol_byte s) refl h
  where
    go : (b : Bool) → (symbol_byte u == symbol_byte s) ≡ b → seen b ≡ Some tt → symbol_in t (word.Symbol u) ≡ None
    go true e k =
        let same : symbol_byte u ≡ symbol_byte s = eqb-true (symbol_byte u) (symbol_byte s) e in
        ap (λ (byte : ℕ). seen (byte == symbol_byte t)) same ∙ ap (λ (b : Bool). seen b) other
    go false e k = absurd (cc)
symbol_differs s t other word.Becomes h = absurd (cc)

-- words that begin with one symbol don't begin with another
pub symbol_next : (s t : BsdlSymbol) → (symbol_byte s == symbol_byte t) ≡ false → (patterns : List Pattern) (b left : List BsdlToken) → MatchesBy Fits (Mark s ∷ patterns) b → NotNext (symbol_in t) (b ++ left)
symbol_next s t other patterns [] left m = absurd m
symbol_next s t other patterns (w ∷ b) left m = symbol_differs s t other w m.0

pub integer_attribute_law : (kind : List ℕ) → Exact BsdlToken IntegerAttribute (λ ws. integer_attribute_at kind ws) (Spelled Fits Free (λ a. integer_attribute_words kind a)) Anything
integer_attribute_law kind =
    let last : List Pattern = Mark Semicolon ∷ [] in
    let make : List ℕ × ℕ → IntegerAttribute = λ z. record { entity = z.0; value = z.1 } in
    let part : IntegerAttribute → List ℕ × ℕ = λ a. (a.entity, a.value) in
    spelled_made Fits Free (λ a. integer_attribute_words kind a) make part (λ a. refl) (λ x h. tt) (λ y h. (tt, tt)) (λ x. refl) (λ y. refl)
    (spelled_pair Fits Free (λ _ _. Unit {0}) (λ entity. attribute_words kind entity) (λ _ value. IntegerOf value ∷ last) (entity_law kind)
    (λ _. spelled_ended Fits (views last) last (λ value. IntegerOf value ∷ []) integer_law (marks_law last (refl, tt)) (λ b left m. tt)) (λ x y b left m t. tt))

-- strings are filled
abbrev pub HasStrings : StringAttribute → Type 0
HasStrings a = AreSome Free a.strings

pub string_attribute_law : (kind : List ℕ) → Exact BsdlToken StringAttribute (λ ws. string_attribute_at kind ws) (Spelled Fits HasStrings (λ a. string_attribute_words kind a)) Anything
string_attribute_law kind =
    let last : List Pattern = Mark Semicolon ∷ [] in
    let make : List ℕ × List (List ℕ) → StringAttribute = λ z. record { entity = z.0; strings = z.1 } in
    let part : StringAttribute → List ℕ × List (List ℕ) = λ a. (a.entity, a.strings) in
    spelled_made Fits HasStrings (λ a. string_attribute_words kind a) make part (λ a. refl) (λ x h. h.1) (λ y h. (tt, h)) (λ x. refl) (λ y. refl)
    (spelled_pair Fits Free (λ _ strings. AreSome Free strings) (λ entity. attribute_words kind entity) (λ _ strings. strings_words strings ++ last) (entity_law kind)
    (λ _. spelled_ended Fits (views last) last strings_words strings_law (marks_law last (refl, tt)) (λ b left m. symbol_next Semicolon Ampersand refl [] b left m)) (λ x y b left m t. tt))
