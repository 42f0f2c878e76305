-- Sections are read from their words alone, and from all of them.
use Rattle.std.proofs.Common.{◌≡◌, ℕ, false, List, [], ◌∷◌, Option, Some, None, refl, sym, ap, subst, ◌∙◌, append_assoc, append-nil, inl, inr}
use Rattle.std.specs.Prelude.{◌++◌, codes}
use Rattle.std.specs.Option.{option_map_or}
use Rattle.bsdl_lexicon.specs.declared.token.BsdlToken.{BsdlToken}
use Rattle.bsdl_lexicon.specs.declared.symbol.BsdlSymbol.TheVariants.{LeftParenthesis, RightParenthesis, Colon, Semicolon, Comma, Ampersand}
use Rattle.bsdl_lexicon.specs.Names.{is_same_name}
use Rattle.bsdl_lexicon.specs.Words.{key_in, symbol_in}
use Rattle.bsdl_device.specs.declared.values.PortMode.{PortMode}
use Rattle.bsdl_device.specs.declared.written.WrittenRange.{WrittenRange}
use Rattle.bsdl_device.specs.declared.written.PortDeclaration.{PortDeclaration}
use Rattle.bsdl_device.specs.declared.written.StringAttribute.{StringAttribute}
use Rattle.bsdl_device.specs.Patterns.{MatchesBy, separated_by}
use Rattle.bsdl_device.specs.Shape.{Pattern, KeyWord, NameOf, Mark, Fits, mode_word, names_words, type_words, declaration_words, strings_words, string_attribute_words}
use Rattle.bsdl_device.specs.Readers.{Read, done, after, skip_at, ended_at, pair_at, made_at}
use Rattle.bsdl_device.specs.Files.{views, key, range_at, type_at, declaration_at, declarations_at, strings_behind, optional_before, access_behind, registers_at}
use Rattle.bsdl_device.proofs.Exact.{Exact, Anything, exact_weaker, exact_done, exact_after, Then}
use Rattle.bsdl_device.proofs.Choices.{NotNext, EitherWay, exact_either}
use Rattle.bsdl_device.proofs.Matched.{Spelled, spelled_skip, spelled_ended, spelled_pair, spelled_made}
use Rattle.bsdl_device.proofs.Listed.{AreSome, spelled_some}
use Rattle.bsdl_device.proofs.Views.{Free, marks_law, name_law, names_law, strings_law, symbol_next, HasStrings}
use Rattle.bsdl_device.proofs.Declarations.{IsRange, range_words, range_law, mode_law, key_differs}

-- Types.

abbrev pub IsType : Option WrittenRange → Type 0
IsType None = Unit {0}
IsType (Some r) = IsRange r

abbrev vector_words : WrittenRange → List Pattern
vector_words r = ((key (codes "bit_vector") ∷ Mark LeftParenthesis ∷ []) ++ range_words r) ++ Mark RightParenthesis ∷ []

abbrev ended_vector : List BsdlToken → Read BsdlToken WrittenRange
ended_vector ws = ended_at (skip_at (views (key (codes "bit_vector") ∷ Mark LeftParenthesis ∷ [])) range_at) (views (Mark RightParenthesis ∷ [])) ws

vector_law : Exact BsdlToken WrittenRange (λ ws. ended_vector ws) (Spelled Fits IsRange vector_words) Anything
vector_law =
    let before : List Pattern = key (codes "bit_vector") ∷ Mark LeftParenthesis ∷ [] in
    let behind : List Pattern = Mark RightParenthesis ∷ [] in
    spelled_ended Fits (views behind) behind (λ r. before ++ range_words r) (spelled_skip Fits (views before) before range_words (marks_law before (refl, (refl, tt))) range_law) (marks_law behind (refl, tt)) (λ b left m. tt)

abbrev Vector : Option WrittenRange → List BsdlToken → Type 0
Vector o p = Then (Spelled Fits IsRange vector_words) (λ r z q. (z ≡ Some r) × (q ≡ [])) o p

made_vector_law : Exact BsdlToken (Option WrittenRange) (λ ws. after (ended_vector ws) (λ r a. done (Some r) a)) Vector Anything
made_vector_law = exact_after vector_law (λ r. exact_done (Some r)) (λ x y b left t s. tt)

pub type_law : Exact BsdlToken (Option WrittenRange) (λ ws. type_at ws) (Spelled Fits IsType type_words) Anything
type_law = exact_weaker (exact_either (key_in (codes "bit")) (λ _. exact_done None) made_vector_law unseen) there back
  where
    Bit : Option WrittenRange → List BsdlToken → Type 0
    Bit o q = (o ≡ None) × (q ≡ [])

    unseen_first : (r : WrittenRange) (a left : List BsdlToken) → MatchesBy Fits (vector_words r) a → NotNext (key_in (codes "bit")) (a ++ left)
    unseen_first r [] left m = absurd m
    unseen_first r (w ∷ a) left m = key_differs (codes "bit_vector") (codes "bit") refl w m.0

    only : (a b p : List BsdlToken) → b ≡ [] → p ≡ a ++ b → p ≡ a
    only a b p nil join = join ∙ ap (λ (q : List BsdlToken). a ++ q) nil ∙ append-nil a

    unseen : (o : Option WrittenRange) (p left : List BsdlToken) → Vector o p → Anything left → NotNext (key_in (codes "bit")) (p ++ left)
    unseen o p left (r, a, b, s, e, join) any = subst (λ (q : List BsdlToken). NotNext (key_in (codes "bit")) (q ++ left)) (sym (only a b p e.1 join)) (unseen_first r a left s.1)

    S : Option WrittenRange → List BsdlToken → Type 0
    S o p = Spelled Fits IsType type_words o p

    there : (o : Option WrittenRange) (p : List BsdlToken) → EitherWay (key_in (codes "bit")) (λ (u : Unit {0}). Bit) Vector o p → S o p
    there o p (inl (u, w, b, seen, e, is)) =
        let are : p ≡ w ∷ [] = is ∙ ap (λ (q : List BsdlToken). w ∷ q) e.1 in
        subst (λ (z : Option WrittenRange). S z p) (sym e.0) (subst (λ (q : List BsdlToken). S None q) (sym are) (tt, (seen, tt)))
    there o p (inr (r, a, b, s, e, join)) =
        subst (λ (z : Option WrittenRange). S z p) (sym e.0) (subst (λ (q : List BsdlToken). S (Some r) q) (sym (only a b p e.1 join)) s)

    back : (o : Option WrittenRange) (p : List BsdlToken) → S o p → EitherWay (key_in (codes "bit")) (λ (u : Unit {0}). Bit) Vector o p
    back None [] s = absurd s.1
    back None (w ∷ []) s = inl (tt, w, [], s.1.0, (refl, refl), refl)
    back None (w ∷ v ∷ p) s = absurd s.1.1
    back (Some r) p s = inr (r, p, [], s, (refl, refl), sym (append-nil p))

-- Declarations.

abbrev pub IsDeclaration : PortDeclaration → Type 0
IsDeclaration d = AreSome Free d.names × IsType d.range

pub declaration_law : Exact BsdlToken PortDeclaration (λ ws. declaration_at ws) (Spelled Fits IsDeclaration declaration_words) Anything
declaration_law =
    let colon : List Pattern = Mark Colon ∷ [] in
    let make : List (List ℕ) × (PortMode × Option WrittenRange) → PortDeclaration = λ z. record { names = z.0; mode = z.1.0; range = z.1.1 } in
    let part : PortDeclaration → List (List ℕ) × (PortMode × Option WrittenRange) = λ d. (d.names, (d.mode, d.range)) in
    spelled_made Fits IsDeclaration declaration_words make part (λ d. refl) (λ x h. (h.0, h.1.1)) (λ y h. (h.0, (tt, h.1)))
    (λ x. append_assoc (names_words x.0) colon (KeyWord (mode_word x.1.0) ∷ type_words x.1.1))
    (λ y. sym (append_assoc (names_words y.names) colon (KeyWord (mode_word y.mode) ∷ type_words y.range)))
    (spelled_pair Fits (AreSome Free) (λ _ z. Unit {0} × IsType z.1) (λ names. names_words names ++ colon) (λ _ z. KeyWord (mode_word z.0) ∷ type_words z.1)
    (spelled_ended Fits (views colon) colon names_words names_law (marks_law colon (refl, tt)) (λ b left m. symbol_next Colon Comma refl [] b left m))
    (λ _. spelled_pair Fits Free (λ _ range. IsType range) (λ m. KeyWord (mode_word m) ∷ []) (λ _ range. type_words range) mode_law (λ _. type_law) (λ x y b l m t. tt)) (λ x y b l m t. tt))

pub declarations_law : Exact BsdlToken (List PortDeclaration) (λ ws. declarations_at ws) (Spelled Fits (AreSome IsDeclaration) (λ list. separated_by (Mark Semicolon) declaration_words list)) (NotNext (symbol_in Semicolon))
declarations_law = spelled_some Fits declaration_words (Mark Semicolon) (symbol_in Semicolon) (λ w h. h) (λ w h. h) declaration_law

-- Attributes of strings, behind their kind.

abbrev pub behind_words : StringAttribute → List Pattern
behind_words a = KeyWord (codes "of") ∷ NameOf a.entity ∷ Mark Colon ∷ KeyWord (codes "entity") ∷ KeyWord (codes "is") ∷ strings_words a.strings ++ Mark Semicolon ∷ []

pub behind_law : Exact BsdlToken StringAttribute (λ ws. strings_behind ws) (Spelled Fits HasStrings behind_words) Anything
behind_law =
    let first : List Pattern = key (codes "of") ∷ [] in
    let middle : List Pattern = Mark Colon ∷ key (codes "entity") ∷ key (codes "is") ∷ [] in
    let last : List Pattern = Mark Semicolon ∷ [] in
    let make : List ℕ × List (List ℕ) → StringAttribute = λ z. record { entity = z.0; strings = z.1 } in
    let part : StringAttribute → List ℕ × List (List ℕ) = λ a. (a.entity, a.strings) in
    spelled_made Fits HasStrings behind_words make part (λ a. refl) (λ x h. h.1) (λ y h. (tt, h)) (λ x. refl) (λ y. refl)
    (spelled_pair Fits Free (λ _ strings. AreSome Free strings) (λ name. (first ++ NameOf name ∷ []) ++ middle) (λ _ strings. strings_words strings ++ last)
    (spelled_ended Fits (views middle) middle (λ name. first ++ NameOf name ∷ []) (spelled_skip Fits (views first) first (λ name. NameOf name ∷ []) (marks_law first (refl, tt)) name_law) (marks_law middle (refl, (refl, (refl, tt)))) (λ b left m. tt))
    (λ _. spelled_ended Fits (views last) last strings_words strings_law (marks_law last (refl, tt)) (λ b left m. symbol_next Semicolon Ampersand refl [] b left m)) (λ x y b left m t. tt))

-- An attribute that may be left out.

abbrev pub HasCode : Option StringAttribute → Type 0
HasCode None = Unit {0}
HasCode (Some a) = HasStrings a

abbrev pub MayHave : {Y : Type 0} → (Y → Type 0) → Option StringAttribute × Y → Type 0
MayHave ok z = HasCode z.0 × ok z.1

abbrev pub optional_words : {Y : Type 0} → List ℕ → (Y → List Pattern) → Option StringAttribute → Y → List Pattern
optional_words kind words None y = words y
optional_words kind words (Some i) y = KeyWord kind ∷ (behind_words i ++ (KeyWord (codes "attribute") ∷ words y))

-- no spelling of what follows begins with the kind
abbrev pub IsUnseen : {Y : Type 0} → List ℕ → (Y → List Pattern) → Type 0
IsUnseen {Y} kind words = (y : Y) (p left : List BsdlToken) → MatchesBy Fits (words y) p → NotNext (key_in kind) (p ++ left)

pub begins_unseen : (a b : List ℕ) → is_same_name a b ≡ false → (more : List Pattern) (p left : List BsdlToken) → MatchesBy Fits (KeyWord a ∷ more) p → NotNext (key_in b) (p ++ left)
begins_unseen a b apart more [] left m = absurd m
begins_unseen a b apart more (w ∷ p) left m = key_differs a b apart w m.0

abbrev Coded : {Y : Type 0} → (Y → Type 0) → (Y → List Pattern) → Option StringAttribute × Y → List BsdlToken → Type 0
Coded {Y} ok words y p = Then (Spelled Fits (λ (z : StringAttribute × Y). HasStrings z.0 × ok z.1) (λ z. behind_words z.0 ++ (KeyWord (codes "attribute") ∷ words z.1))) (λ z v q. (v ≡ (Some z.0, z.1)) × (q ≡ [])) y p

abbrev Plain : {Y : Type 0} → (Y → Type 0) → (Y → List Pattern) → Option StringAttribute × Y → List BsdlToken → Type 0
Plain ok words y p = Then (Spelled Fits ok words) (λ a v q. (v ≡ (None, a)) × (q ≡ [])) y p

abbrev coded_at : {Y : Type 0} → (List BsdlToken → Read BsdlToken Y) → List BsdlToken → Read BsdlToken (Option StringAttribute × Y)
coded_at next ws = made_at (λ z. (Some z.0, z.1)) (pair_at strings_behind (λ _ d. skip_at (views (key (codes "attribute") ∷ [])) next d)) ws

abbrev plain_at : {Y : Type 0} → (List BsdlToken → Read BsdlToken Y) → List BsdlToken → Read BsdlToken (Option StringAttribute × Y)
plain_at next ws = made_at (λ x. (None, x)) next ws

coded_law : {Y : Type 0} (next : List BsdlToken → Read BsdlToken Y) (ok : Y → Type 0) (words : Y → List Pattern) → Exact BsdlToken Y (λ ws. next ws) (Spelled Fits ok words) Anything
    → Exact BsdlToken (Option StringAttribute × Y) (λ ws. coded_at next ws) (Coded ok words) Anything
coded_law {Y} next ok words law =
    let mark : List Pattern = key (codes "attribute") ∷ [] in
    exact_after (spelled_pair Fits HasStrings (λ _ y. ok y) behind_words (λ _ y. mark ++ words y) behind_law (λ _. spelled_skip Fits (views mark) mark words (marks_law mark (refl, tt)) law) (λ x y b left m t. tt)) (λ z. exact_done (coded z)) (λ x y b left t s. tt)
  where
    coded : StringAttribute × Y → Option StringAttribute × Y
    coded z = (Some z.0, z.1)

plain_law : {Y : Type 0} (next : List BsdlToken → Read BsdlToken Y) (ok : Y → Type 0) (words : Y → List Pattern) → Exact BsdlToken Y (λ ws. next ws) (Spelled Fits ok words) Anything
    → Exact BsdlToken (Option StringAttribute × Y) (λ ws. plain_at next ws) (Plain ok words) Anything
plain_law {Y} next ok words law = exact_after law (λ a. exact_done (uncoded a)) (λ x y b left t s. tt)
  where
    uncoded : Y → Option StringAttribute × Y
    uncoded a = (None, a)

pub optional_law : {Y : Type 0} (kind : List ℕ) (next : List BsdlToken → Read BsdlToken Y) (ok : Y → Type 0) (words : Y → List Pattern)
    → Exact BsdlToken Y (λ ws. next ws) (Spelled Fits ok words) Anything → IsUnseen kind words
    → Exact BsdlToken (Option StringAttribute × Y) (λ ws. optional_before kind next ws) (Spelled Fits (MayHave ok) (λ z. optional_words kind words z.0 z.1)) Anything
optional_law {Y} kind next ok words law unseen_here =
    exact_weaker (exact_either (key_in kind) (λ _. coded_law next ok words law) (plain_law next ok words law) unseen) there back
  where
    only : (a b p : List BsdlToken) → b ≡ [] → p ≡ a ++ b → p ≡ a
    only a b p nil join = join ∙ ap (λ (q : List BsdlToken). a ++ q) nil ∙ append-nil a

    unseen : (y : Option StringAttribute × Y) (p left : List BsdlToken) → Plain ok words y p → Anything left → NotNext (key_in kind) (p ++ left)
    unseen y p left (x, a, b, s, e, join) any = subst (λ (q : List BsdlToken). NotNext (key_in kind) (q ++ left)) (sym (only a b p e.1 join)) (unseen_here x a left s.1)

    S : Option StringAttribute × Y → List BsdlToken → Type 0
    S y p = Spelled Fits (MayHave ok) (λ (z : Option StringAttribute × Y). optional_words kind words z.0 z.1) y p

    there : (y : Option StringAttribute × Y) (p : List BsdlToken) → EitherWay (key_in kind) (λ (u : Unit {0}). Coded ok words) (Plain ok words) y p → S y p
    there y p (inl (u, w, c, seen, (z, a, b, s, e, join), is)) =
        let are : p ≡ w ∷ a = is ∙ ap (λ (q : List BsdlToken). w ∷ q) (only a b c e.1 join) in
        subst (λ (v : Option StringAttribute × Y). S v p) (sym e.0) (subst (λ (q : List BsdlToken). S (Some z.0, z.1) q) (sym are) (s.0, (seen, s.1)))
    there y p (inr (x, a, b, s, e, join)) =
        subst (λ (v : Option StringAttribute × Y). S v p) (sym e.0) (subst (λ (q : List BsdlToken). S (None, x) q) (sym (only a b p e.1 join)) ((tt, s.0), s.1))

    back : (y : Option StringAttribute × Y) (p : List BsdlToken) → S y p → EitherWay (key_in kind) (λ (u : Unit {0}). Coded ok words) (Plain ok words) y p
    back (None, x) p s = inr (x, p, [], (s.0.1, s.1), (refl, refl), sym (append-nil p))
    back (Some i, x) [] s = absurd s.1
    back (Some i, x) (w ∷ p) s = inl (tt, w, p, s.1.0, ((i, x), p, [], (s.0, s.1.1), (refl, refl), sym (append-nil p)), refl)

-- The identification register and register access.

abbrev pub Attributes : Type 0
Attributes = Option StringAttribute × (Option StringAttribute × StringAttribute)

abbrev pub access_words : StringAttribute → List Pattern
access_words a = KeyWord (codes "REGISTER_ACCESS") ∷ behind_words a

pub access_law : Exact BsdlToken StringAttribute (λ ws. access_behind ws) (Spelled Fits HasStrings access_words) Anything
access_law =
    let mark : List Pattern = key (codes "REGISTER_ACCESS") ∷ [] in
    spelled_skip Fits (views mark) mark behind_words (marks_law mark (refl, tt)) behind_law

pub access_unseen : IsUnseen (codes "USERCODE_REGISTER") access_words
access_unseen a p left m = begins_unseen (codes "REGISTER_ACCESS") (codes "USERCODE_REGISTER") refl (behind_words a) p left m

abbrev pub user_words : Option StringAttribute × StringAttribute → List Pattern
user_words z = optional_words (codes "USERCODE_REGISTER") access_words z.0 z.1

abbrev pub user_at : List BsdlToken → Read BsdlToken (Option StringAttribute × StringAttribute)
user_at ws = optional_before (codes "USERCODE_REGISTER") access_behind ws

pub user_law : Exact BsdlToken (Option StringAttribute × StringAttribute) (λ ws. user_at ws) (Spelled Fits (MayHave HasStrings) user_words) Anything
user_law = optional_law (codes "USERCODE_REGISTER") access_behind HasStrings access_words access_law access_unseen

pub user_unseen : IsUnseen (codes "IDCODE_REGISTER") user_words
user_unseen (None, a) p left m = begins_unseen (codes "REGISTER_ACCESS") (codes "IDCODE_REGISTER") refl (behind_words a) p left m
user_unseen (Some i, a) p left m =
    begins_unseen (codes "USERCODE_REGISTER") (codes "IDCODE_REGISTER") refl (behind_words i ++ (KeyWord (codes "attribute") ∷ access_words a)) p left m

abbrev pub HaveStrings : Attributes → Type 0
HaveStrings z = MayHave (MayHave HasStrings) z

abbrev pub registers_words : Attributes → List Pattern
registers_words z = optional_words (codes "IDCODE_REGISTER") user_words z.0 z.1

pub registers_law : Exact BsdlToken Attributes (λ ws. registers_at ws) (Spelled Fits HaveStrings (λ z. KeyWord (codes "attribute") ∷ registers_words z)) Anything
registers_law =
    let first : List Pattern = key (codes "attribute") ∷ [] in
    spelled_skip Fits (views first) first registers_words (marks_law first (refl, tt))
    (optional_law (codes "IDCODE_REGISTER") user_at (MayHave HasStrings) user_words user_law user_unseen)

-- these are the words of both sections
abbrev pub sections_words : Attributes → List Pattern
sections_words z = (option_map_or (string_attribute_words (codes "IDCODE_REGISTER")) z.0 [] ++ option_map_or (string_attribute_words (codes "USERCODE_REGISTER")) z.1.0 [])
    ++ string_attribute_words (codes "REGISTER_ACCESS") z.1.1

in_line : (o u : Option StringAttribute) (a : StringAttribute) → KeyWord (codes "attribute") ∷ registers_words (o, (u, a))
    ≡ option_map_or (string_attribute_words (codes "IDCODE_REGISTER")) o [] ++ (option_map_or (string_attribute_words (codes "USERCODE_REGISTER")) u [] ++ string_attribute_words (codes "REGISTER_ACCESS") a)
in_line None None a = refl
in_line None (Some j) a = refl
in_line (Some i) None a = refl
in_line (Some i) (Some j) a = refl

pub registers_are : (z : Attributes) → KeyWord (codes "attribute") ∷ registers_words z ≡ sections_words z
registers_are (o, (u, a)) = in_line o u a
    ∙ sym (append_assoc (option_map_or (string_attribute_words (codes "IDCODE_REGISTER")) o []) (option_map_or (string_attribute_words (codes "USERCODE_REGISTER")) u []) (string_attribute_words (codes "REGISTER_ACCESS") a))

pub registers_are_law : Exact BsdlToken Attributes (λ ws. registers_at ws) (Spelled Fits HaveStrings sections_words) Anything
registers_are_law = exact_weaker registers_law
    (λ z p s. (s.0, subst (λ (l : List Pattern). MatchesBy Fits l p) (registers_are z) s.1))
    (λ z p s. (s.0, subst (λ (l : List Pattern). MatchesBy Fits l p) (sym (registers_are z)) s.1))
