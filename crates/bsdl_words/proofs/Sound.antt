use Rattle.std.proofs.Common.{◌≡◌, ℕ, ◌+◌, ◌<◌, ◌≤◌, List, [], ◌∷◌, ◌++◌, length, Option, Some, true, refl, sym, ap, subst, ◌∙◌, arith, append_assoc, length-append, IsTrue, not, ◌==◌, inl, inr}
use Rattle.std.specs.Prelude.{nat_lt, nat_le, option_and_then}
use Rattle.std.specs.List.{AllByRecursion}
use Rattle.std.proofs.lemmas.Bool.{ltb-true, leb-true}
use Rattle.std.proofs.lemmas.Bool.Decides.{nat_tests}
use borrow.Author.Tests.{eqb-true}
use Rattle.std.proofs.lemmas.Option.{same_Some, none-some, cond_some}
use Rattle.std.proofs.lemmas.List.{append-nil}
use Rattle.list_laws.proofs.Lists.{all_append}
use Rattle.bsdl_lexicon.specs.declared.token.BsdlSpanned.{BsdlSpanned}
use Rattle.bsdl_lexicon.specs.declared.token.BsdlToken.TheVariants as word
use Rattle.bsdl_lexicon.specs.declared.symbol.BsdlSymbol.{BsdlSymbol}
use Rattle.bsdl_lexicon.specs.declared.symbol.BsdlSymbol.TheVariants.{LeftParenthesis, RightParenthesis, Colon, Semicolon, Comma, Ampersand, Dot}
use Rattle.bsdl_lexicon.specs.Bytes.{is_blank, is_letter, is_digit, is_letter_or_digit, is_name_byte, is_exponent_mark, is_sign, is_quotable}
use Rattle.bsdl_lexicon.specs.Words.{spanned, symbol_byte}
use Rattle.bsdl_lexicon.specs.Pieces.{Piece, blank, comment, identifier, integer, real, quoted, symbol, becomes, spelling, IsPiece, Ends, EndsSymbol, IsOneLine, IsIdentifier, IsReal, word_at, CutFrom}
use Rattle.bsdl_words.specs.declared.mode.Mode.{Mode}
use Rattle.bsdl_words.specs.declared.mode.Mode.TheVariants as in_
use Rattle.bsdl_words.specs.Machine.{State, state, between, symbol_with, real_ends, with_name, with_integer, with_real, with_quoted, with_colon, with_becomes}
use Rattle.word_cutter.proofs.Cases.{and_then_cond, and_then_map}
use Rattle.word_cutter.proofs.KeptWords.{byte_more}
use Rattle.bsdl_words.proofs.Outcome.{outcome}
use Rattle.bsdl_words.proofs.Bytes.{letter_or_digit, no_clings}
use Rattle.bsdl_words.proofs.Begun.{name_push, underscore_push, Pointed, Fractioned, Marked, Signed, Powered, pointed, fraction_first, fraction_push, marked, signed, power_first, power_signed, power_push, real_of_fraction, real_of_power}

-- What the bytes of the piece that was begun are.

abbrev IsOpen : Mode → ℕ → ℕ → List ℕ → List ℕ → Type 0
IsOpen in_.Between at from p begun = begun ≡ []
IsOpen in_.Dash at from p begun = begun ≡ 45 ∷ []
IsOpen in_.Comment at from p begun = (text : List ℕ) × (begun ≡ 45 ∷ 45 ∷ text) × IsOneLine text
IsOpen in_.Colon at from p begun = (begun ≡ 58 ∷ []) × (from ≡ at)
IsOpen in_.Name at from p begun = (begun ≡ p) × IsIdentifier p × (from ≡ at)
IsOpen in_.Underscore at from p begun = (q : List ℕ) × (begun ≡ p) × (p ≡ q ++ 95 ∷ []) × IsIdentifier q × (length q < 254) × (from ≡ at)
IsOpen in_.Digits at from p begun = (begun ≡ p) × (0 < length p) × (length p ≤ 30) × AllByRecursion (λ c. IsTrue (is_digit c)) p × (from ≡ at)
IsOpen in_.Point at from p begun = (begun ≡ p) × Pointed p × (from ≡ at)
IsOpen in_.Fraction at from p begun = (begun ≡ p) × Fractioned p × (from ≡ at)
IsOpen in_.Exponent at from p begun = (begun ≡ p) × Marked p × (from ≡ at)
IsOpen in_.Sign at from p begun = (begun ≡ p) × Signed p × (from ≡ at)
IsOpen in_.Power at from p begun = (begun ≡ p) × Powered p × (from ≡ at)
IsOpen in_.Quoted at from p begun = (begun ≡ 34 ∷ p) × AllByRecursion (λ c. IsTrue (is_quotable c)) p × (from ≡ at)

-- the words of what was begun and what follows
record Goes (at : ℕ) (bytes : List ℕ) (words all : List BsdlSpanned) : Type 0 where
  more : List BsdlSpanned
  all_are : all ≡ words ++ more
  cut : CutFrom at bytes more

-- what is to be shown of these bytes, from every state
abbrev Later : List ℕ → Type 0
Later bytes = (m : Mode) (at now from : ℕ) (words : List BsdlSpanned) (p begun : List ℕ) (all : List BsdlSpanned) → now ≡ at + length begun → IsOpen m at from p begun → outcome now (state words m from p) bytes ≡ Some all → Goes at (begun ++ bytes) words all

-- Pieces before a text.

put_piece : (p : Piece) (at : ℕ) (rest : List ℕ) (more : List BsdlSpanned) → IsPiece p → Ends p rest → CutFrom (at + length (spelling p)) rest more → CutFrom at (spelling p ++ rest) (word_at at p ++ more)
put_piece p at rest more is ends cut = record {
  pieces = p ∷ cut.pieces;
  are = (is, subst (λ (x : List ℕ). Ends p x) cut.text ends, cut.are);
  text = ap (λ (x : List ℕ). spelling p ++ x) cut.text;
  words_are = ap (λ (x : List BsdlSpanned). word_at at p ++ x) cut.words_are;
}

no_pieces : (at : ℕ) → CutFrom at [] []
no_pieces at = record { pieces = []; are = tt; text = refl; words_are = refl }

-- what was begun is this piece
done : (q : Piece) (at now : ℕ) (begun rest : List ℕ) (words all : List BsdlSpanned) → begun ≡ spelling q → now ≡ at + length begun → IsPiece q → Ends q rest → Goes now rest (words ++ word_at at q) all → Goes at (begun ++ rest) words all
done q at now begun rest words all spelled here is ends goes =
    subst (λ (l : List ℕ). Goes at (l ++ rest) words all) (sym spelled) record {
      more = word_at at q ++ goes.more;
      all_are = goes.all_are ∙ append_assoc words (word_at at q) goes.more;
      cut = put_piece q at rest goes.more is ends (subst (λ (x : ℕ). CutFrom x rest goes.more) (here ∙ ap (λ (l : List ℕ). at + length l) spelled) goes.cut);
    }

-- the same where the piece is no word
done_silent : (q : Piece) (at now : ℕ) (begun rest : List ℕ) (words all : List BsdlSpanned) → word_at at q ≡ [] → begun ≡ spelling q → now ≡ at + length begun → IsPiece q → Ends q rest → Goes now rest words all → Goes at (begun ++ rest) words all
done_silent q at now begun rest words all silent spelled here is ends goes =
    done q at now begun rest words all spelled here is ends
    (subst (λ (l : List BsdlSpanned). Goes now rest l all) (sym (ap (λ (l : List BsdlSpanned). words ++ l) silent ∙ append-nil words)) goes)

-- nothing follows
goes_end : (now : ℕ) (words all : List BsdlSpanned) → Some words ≡ Some all → Goes now [] words all
goes_end now words all h = record { more = []; all_are = sym (same_Some words all h) ∙ sym (append-nil words); cut = no_pieces now }

-- between two pieces
goes_between : (bytes : List ℕ) → Later bytes → (now : ℕ) (words all : List BsdlSpanned) → outcome now (between words) bytes ≡ Some all → Goes now bytes words all
goes_between bytes later now words all h = later in_.Between now now 0 words [] [] all (omega arith) refl h

-- a byte more of what was begun
moved : (at : ℕ) (begun bytes : List ℕ) (b : ℕ) (words all : List BsdlSpanned) → Goes at ((begun ++ b ∷ []) ++ bytes) words all → Goes at (begun ++ b ∷ bytes) words all
moved at begun bytes b words all goes = subst (λ (x : List ℕ). Goes at x words all) (append_assoc begun (b ∷ []) bytes) goes

on : (b : ℕ) (bytes : List ℕ) → Later bytes → (m : Mode) (at now from : ℕ) (words : List BsdlSpanned) (p begun : List ℕ) (all : List BsdlSpanned) → now ≡ at + length begun → IsOpen m at from p (begun ++ b ∷ []) → outcome (now + 1) (state words m from p) bytes ≡ Some all → Goes at (begun ++ b ∷ bytes) words all
on b bytes later m at now from words p begun all here is h =
    moved at begun bytes b words all (later m at (now + 1) from words p (begun ++ b ∷ []) all (omega (arith, here, length-append begun (b ∷ []))) is h)

-- what was begun is this piece once the byte came
shut : (b : ℕ) (bytes : List ℕ) → Later bytes → (q : Piece) (at now : ℕ) (begun : List ℕ) (words all : List BsdlSpanned) → begun ++ b ∷ [] ≡ spelling q → now ≡ at + length begun → IsPiece q → Ends q bytes → outcome (now + 1) (between (words ++ word_at at q)) bytes ≡ Some all → Goes at (begun ++ b ∷ bytes) words all
shut b bytes later q at now begun words all spelled here is ends h =
    moved at begun bytes b words all (done q at (now + 1) (begun ++ b ∷ []) bytes words all spelled (omega (arith, here, length-append begun (b ∷ []))) is ends (goes_between bytes later (now + 1) (words ++ word_at at q) all h))

-- the end of a line, which is white space
line_end : (b : ℕ) (bytes : List ℕ) → Later bytes → (now : ℕ) (words all : List BsdlSpanned) → (b == 10) ≡ true → outcome (now + 1) (between words) bytes ≡ Some all → Goes now (b ∷ bytes) words all
line_end b bytes later now words all is h =
    let blank_is : is_blank b ≡ true = grind (arith, nat_tests) in
    done_silent (blank b) now (now + 1) (b ∷ []) bytes words all refl refl refl blank_is tt (goes_between bytes later (now + 1) words all h)

-- what a symbol's byte is
symbol_with_is : (s : BsdlSymbol) (b : ℕ) → symbol_with b ≡ Some s → b ≡ symbol_byte s
symbol_with_is LeftParenthesis b h = grind (arith, nat_tests)
symbol_with_is RightParenthesis b h = grind (arith, nat_tests)
symbol_with_is Colon b h = grind (arith, nat_tests)
symbol_with_is Semicolon b h = grind (arith, nat_tests)
symbol_with_is Comma b h = grind (arith, nat_tests)
symbol_with_is Ampersand b h = grind (arith, nat_tests)
symbol_with_is Dot b h = grind (arith, nat_tests)

symbol_with_other : (b : ℕ) → symbol_with b ≡ Some Colon → ⊥
symbol_with_other b h = grind (arith, nat_tests)

symbol_ends : (s : BsdlSymbol) (b : ℕ) (rest : List ℕ) → symbol_with b ≡ Some s → EndsSymbol s rest
symbol_ends LeftParenthesis b rest h = tt
symbol_ends RightParenthesis b rest h = tt
symbol_ends Colon b rest h = absurd (symbol_with_other b h)
symbol_ends Semicolon b rest h = tt
symbol_ends Comma b rest h = tt
symbol_ends Ampersand b rest h = tt
symbol_ends Dot b rest h = tt

-- the byte begins a piece
begin_goes : (b : ℕ) (bytes : List ℕ) (at : ℕ) (words all : List BsdlSpanned) → Later bytes → outcome at (between words) (b ∷ bytes) ≡ Some all → Goes at (b ∷ bytes) words all
begin_goes b bytes at words all later h =
    let f : State → Option (List BsdlSpanned) = λ t. outcome (at + 1) t bytes in
    elim (and_then_cond f (is_blank b) _ _ _ h) [
      | inl w ↦ done_silent (blank b) at (at + 1) (b ∷ []) bytes words all refl refl refl w.0 tt (goes_between bytes later (at + 1) words all w.1)
      | inr w ↦ elim (and_then_cond f (is_letter b) _ _ _ w.1) [
        | inl v ↦ later in_.Name at (at + 1) at words (b ∷ []) (b ∷ []) all refl (refl, (v.0, tt, tt, omega arith), refl) v.1
        | inr v ↦ elim (and_then_cond f (is_digit b) _ _ _ v.1) [
          | inl u ↦ later in_.Digits at (at + 1) at words (b ∷ []) (b ∷ []) all refl (refl, omega arith, omega arith, (u.0, tt), refl) u.1
          | inr u ↦ elim (and_then_cond f (b == 34) _ _ _ u.1) [
            | inl t ↦ later in_.Quoted at (at + 1) at words [] (b ∷ []) all refl (ap (λ (x : ℕ). x ∷ []) (eqb-true b 34 t.0), tt, refl) t.1
            | inr t ↦ elim (and_then_cond f (b == 45) _ _ _ t.1) [
              | inl s ↦ later in_.Dash at (at + 1) 0 words [] (b ∷ []) all refl (ap (λ (x : ℕ). x ∷ []) (eqb-true b 45 s.0)) s.1
              | inr s ↦ elim (and_then_cond f (b == 58) _ _ _ s.1) [
                | inl r ↦ later in_.Colon at (at + 1) at words [] (b ∷ []) all refl (ap (λ (x : ℕ). x ∷ []) (eqb-true b 58 r.0), refl) r.1
                | inr r ↦ put_symbol (and_then_map f _ (symbol_with b) all r.1)
              ]
            ]
          ]
        ]
      ]
    ] where
      put_symbol : (s : BsdlSymbol) × (symbol_with b ≡ Some s) × (outcome (at + 1) (between (words ++ spanned (word.Symbol s) at 1 ∷ [])) bytes ≡ Some all) → Goes at (b ∷ bytes) words all
      put_symbol (s, is, goes) =
          done (symbol s) at (at + 1) (b ∷ []) bytes words all (ap (λ (x : ℕ). x ∷ []) (symbol_with_is s b is)) refl tt (symbol_ends s b bytes is) (goes_between bytes later (at + 1) (words ++ spanned (word.Symbol s) at 1 ∷ []) all goes)

-- The text ends here.

later_end : Later []
later_end in_.Between at now from words p begun all here is h =
    let goes : Goes now [] words all = goes_end now words all h in
    let at_now : now ≡ at = omega (arith, here, ap length is) in
    subst (λ (x : List ℕ). Goes at (x ++ []) words all) (sym is) (subst (λ (x : ℕ). Goes x [] words all) at_now goes)
later_end in_.Dash at now from words p begun all here is h = absurd (none-some all h)
later_end in_.Comment at now from words p begun all here is h =
    done_silent (comment is.0) at now begun [] words all refl is.1 here is.2 tt (goes_end now words all h)
later_end in_.Colon at now from words p begun all here is h =
    done (symbol Colon) at now begun [] words all is.0 here tt tt (goes_end now (with_colon words at) all (ap (λ (x : ℕ). Some (with_colon words x)) (sym is.1) ∙ h))
later_end in_.Name at now from words p begun all here is h =
    done (identifier p) at now begun [] words all is.0 here is.1 tt (goes_end now (with_name words at p) all (ap (λ (x : ℕ). Some (with_name words x p)) (sym is.2) ∙ h))
later_end in_.Underscore at now from words p begun all here is h = absurd (none-some all h)
later_end in_.Digits at now from words p begun all here is h =
    let few = cond_some (nat_le (length p) 9) (with_integer words from p) all h in
    done (integer p) at now begun [] words all is.0 here ((is.1, is.3), leb-true (length p) 9 few.0) tt (goes_end now (with_integer words at p) all (ap (λ (x : ℕ). Some (with_integer words x p)) (sym is.4) ∙ ap Some few.1))
later_end in_.Point at now from words p begun all here is h = absurd (none-some all h)
later_end in_.Fraction at now from words p begun all here is h =
    done (real p) at now begun [] words all is.0 here (real_of_fraction p is.1) tt (goes_end now (with_real words at p) all (ap (λ (x : ℕ). Some (with_real words x p)) (sym is.2) ∙ h))
later_end in_.Exponent at now from words p begun all here is h = absurd (none-some all h)
later_end in_.Sign at now from words p begun all here is h = absurd (none-some all h)
later_end in_.Power at now from words p begun all here is h =
    done (real p) at now begun [] words all is.0 here (real_of_power p is.1) tt (goes_end now (with_real words at p) all (ap (λ (x : ℕ). Some (with_real words x p)) (sym is.2) ∙ h))
later_end in_.Quoted at now from words p begun all here is h = absurd (none-some all h)

-- One byte more comes.

-- what is to be shown of a byte and these bytes, from a state of this mode
abbrev Further : ℕ → List ℕ → Mode → Type 0
Further b bytes m = (at now from : ℕ) (words : List BsdlSpanned) (p begun : List ℕ) (all : List BsdlSpanned) → now ≡ at + length begun → IsOpen m at from p begun → outcome now (state words m from p) (b ∷ bytes) ≡ Some all → Goes at (begun ++ b ∷ bytes) words all

between_further : (b : ℕ) (bytes : List ℕ) → Later bytes → Further b bytes in_.Between
between_further b bytes later at now from words p begun all here is h =
    let at_now : now ≡ at = omega (arith, here, ap length is) in
    subst (λ (x : List ℕ). Goes at (x ++ b ∷ bytes) words all) (sym is) (subst (λ (x : ℕ). Goes x (b ∷ bytes) words all) at_now (begin_goes b bytes now words all later h))

dash_further : (b : ℕ) (bytes : List ℕ) → Later bytes → Further b bytes in_.Dash
dash_further b bytes later at now from words p begun all here is h =
    let f : State → Option (List BsdlSpanned) = λ t. outcome (now + 1) t bytes in
    elim (and_then_cond f (b == 45) _ _ _ h) [
      | inl w ↦ on b bytes later in_.Comment at now 0 words [] begun all here ([], byte_more begun (45 ∷ []) b 45 is (eqb-true b 45 w.0), tt) w.1
      | inr w ↦ absurd (none-some all w.1)
    ]

comment_further : (b : ℕ) (bytes : List ℕ) → Later bytes → Further b bytes in_.Comment
comment_further b bytes later at now from words p begun all here is h =
    let f : State → Option (List BsdlSpanned) = λ t. outcome (now + 1) t bytes in
    elim (and_then_cond f (b == 10) _ _ _ h) [
      | inl w ↦ done_silent (comment is.0) at now begun (b ∷ bytes) words all refl is.1 here is.2 (ap not w.0) (line_end b bytes later now words all w.0 w.1)
      | inr w ↦ on b bytes later in_.Comment at now 0 words [] begun all here (is.0 ++ b ∷ [], byte_more begun (45 ∷ 45 ∷ is.0) b b is.1 refl, all_append _ is.0 (b ∷ []) is.2 (w.0, tt)) w.1
    ]

colon_further : (b : ℕ) (bytes : List ℕ) → Later bytes → Further b bytes in_.Colon
colon_further b bytes later at now from words p begun all here is h =
    let f : State → Option (List BsdlSpanned) = λ t. outcome (now + 1) t bytes in
    elim (and_then_cond f (b == 61) _ _ _ h) [
      | inl w ↦
          shut b bytes later becomes at now begun words all (byte_more begun (58 ∷ []) b 61 is.0 (eqb-true b 61 w.0)) here tt tt
          (ap (λ (x : ℕ). outcome (now + 1) (between (with_becomes words x)) bytes) (sym is.1) ∙ w.1)
      | inr w ↦ done (symbol Colon) at now begun (b ∷ bytes) words all is.0 here tt w.0 (begin_goes b bytes now (with_colon words at) all later (ap (λ (x : ℕ). outcome now (between (with_colon words x)) (b ∷ bytes)) (sym is.1) ∙ w.1))
    ]

name_further : (b : ℕ) (bytes : List ℕ) → Later bytes → Further b bytes in_.Name
name_further b bytes later at now from words p begun all here is h =
    let f : State → Option (List BsdlSpanned) = λ t. outcome (now + 1) t bytes in
    elim (and_then_cond f (is_name_byte b) _ _ _ h) [
      | inl w ↦ elim (and_then_cond f (b == 95) _ _ _ w.1) [
        | inl v ↦ elim (and_then_cond f (nat_lt (length p) 254) _ _ _ v.1) [
          | inl u ↦ on b bytes later in_.Underscore at now from words (p ++ b ∷ []) begun all here (p, byte_more begun p b b is.0 refl, ap (λ (x : ℕ). p ++ x ∷ []) (eqb-true b 95 v.0), is.1, ltb-true (length p) 254 u.0, is.2) u.1
          | inr u ↦ absurd (none-some all u.1)
        ]
        | inr v ↦ elim (and_then_cond f (nat_lt (length p) 255) _ _ _ v.1) [
          | inl u ↦ on b bytes later in_.Name at now from words (p ++ b ∷ []) begun all here (byte_more begun p b b is.0 refl, name_push p b is.1 (letter_or_digit b w.0 v.0) (ltb-true (length p) 255 u.0), is.2) u.1
          | inr u ↦ absurd (none-some all u.1)
        ]
      ]
      | inr w ↦ done (identifier p) at now begun (b ∷ bytes) words all is.0 here is.1 w.0 (begin_goes b bytes now (with_name words at p) all later (ap (λ (x : ℕ). outcome now (between (with_name words x p)) (b ∷ bytes)) (sym is.2) ∙ w.1))
    ]

underscore_further : (b : ℕ) (bytes : List ℕ) → Later bytes → Further b bytes in_.Underscore
underscore_further b bytes later at now from words p begun all here is h =
    let f : State → Option (List BsdlSpanned) = λ t. outcome (now + 1) t bytes in
    elim (and_then_cond f (is_letter_or_digit b) _ _ _ h) [
      | inl w ↦ on b bytes later in_.Name at now from words (p ++ b ∷ []) begun all here (byte_more begun p b b is.1 refl, subst (λ (l : List ℕ). IsIdentifier (l ++ b ∷ [])) (sym is.2) (underscore_push is.0 b is.3 w.0 is.4), is.5) w.1
      | inr w ↦ absurd (none-some all w.1)
    ]

digits_further : (b : ℕ) (bytes : List ℕ) → Later bytes → Further b bytes in_.Digits
digits_further b bytes later at now from words p begun all here is h =
    let f : State → Option (List BsdlSpanned) = λ t. outcome (now + 1) t bytes in
    elim (and_then_cond f (is_digit b) _ _ _ h) [
      | inl w ↦ elim (and_then_cond f (nat_lt (length p) 30) _ _ _ w.1) [
        | inl v ↦ on b bytes later in_.Digits at now from words (p ++ b ∷ []) begun all here (byte_more begun p b b is.0 refl, omega (arith, length-append p (b ∷ [])), omega (arith, length-append p (b ∷ []), ltb-true (length p) 30 v.0), all_append _ p (b ∷ []) is.3 (w.0, tt), is.4) v.1
        | inr v ↦ absurd (none-some all v.1)
      ]
      | inr w ↦ elim (and_then_cond f (b == 46) _ _ _ w.1) [
        | inl v ↦ on b bytes later in_.Point at now from words (p ++ b ∷ []) begun all here (byte_more begun p b b is.0 refl, subst (λ (x : ℕ). Pointed (p ++ x ∷ [])) (sym (eqb-true b 46 v.0)) (pointed p (is.1, is.3) is.2), is.4) v.1
        | inr v ↦ elim (and_then_cond f (is_name_byte b) _ _ _ v.1) [
          | inl u ↦ absurd (none-some all u.1)
          | inr u ↦ elim (and_then_cond f (nat_le (length p) 9) _ _ _ u.1) [
            | inl t ↦ done (integer p) at now begun (b ∷ bytes) words all is.0 here ((is.1, is.3), leb-true (length p) 9 t.0) (no_clings b u.0 v.0) (begin_goes b bytes now (with_integer words at p) all later (ap (λ (x : ℕ). outcome now (between (with_integer words x p)) (b ∷ bytes)) (sym is.4) ∙ t.1))
            | inr t ↦ absurd (none-some all t.1)
          ]
        ]
      ]
    ]

point_further : (b : ℕ) (bytes : List ℕ) → Later bytes → Further b bytes in_.Point
point_further b bytes later at now from words p begun all here is h =
    let f : State → Option (List BsdlSpanned) = λ t. outcome (now + 1) t bytes in
    elim (and_then_cond f (is_digit b) _ _ _ h) [
      | inl w ↦ on b bytes later in_.Fraction at now from words (p ++ b ∷ []) begun all here (byte_more begun p b b is.0 refl, fraction_first p b is.1 w.0, is.2) w.1
      | inr w ↦ absurd (none-some all w.1)
    ]

-- a real number that may end before the byte
real_shut : (b : ℕ) (bytes : List ℕ) → Later bytes → (at now from : ℕ) (words : List BsdlSpanned) (p begun : List ℕ) (all : List BsdlSpanned) → now ≡ at + length begun → begun ≡ p → IsReal p → from ≡ at → option_and_then (λ t. outcome (now + 1) t bytes) (real_ends now words from p b) ≡ Some all → Goes at (begun ++ b ∷ bytes) words all
real_shut b bytes later at now from words p begun all here spelled is starts h =
    let f : State → Option (List BsdlSpanned) = λ t. outcome (now + 1) t bytes in
    elim (and_then_cond f (is_name_byte b) _ _ _ h) [
      | inl w ↦ absurd (none-some all w.1)
      | inr w ↦ done (real p) at now begun (b ∷ bytes) words all spelled here is w.0 (begin_goes b bytes now (with_real words at p) all later (ap (λ (x : ℕ). outcome now (between (with_real words x p)) (b ∷ bytes)) (sym starts) ∙ w.1))
    ]

fraction_further : (b : ℕ) (bytes : List ℕ) → Later bytes → Further b bytes in_.Fraction
fraction_further b bytes later at now from words p begun all here is h =
    let f : State → Option (List BsdlSpanned) = λ t. outcome (now + 1) t bytes in
    elim (and_then_cond f (is_digit b) _ _ _ h) [
      | inl w ↦ elim (and_then_cond f (nat_lt (length p) 32) _ _ _ w.1) [
        | inl v ↦ on b bytes later in_.Fraction at now from words (p ++ b ∷ []) begun all here (byte_more begun p b b is.0 refl, fraction_push p b is.1 w.0 (ltb-true (length p) 32 v.0), is.2) v.1
        | inr v ↦ absurd (none-some all v.1)
      ]
      | inr w ↦ elim (and_then_cond f (is_exponent_mark b) _ _ _ w.1) [
        | inl v ↦ elim (and_then_cond f (nat_lt (length p) 31) _ _ _ v.1) [
          | inl u ↦ on b bytes later in_.Exponent at now from words (p ++ b ∷ []) begun all here (byte_more begun p b b is.0 refl, marked p b is.1 v.0 (ltb-true (length p) 31 u.0), is.2) u.1
          | inr u ↦ absurd (none-some all u.1)
        ]
        | inr v ↦ real_shut b bytes later at now from words p begun all here is.0 (real_of_fraction p is.1) is.2 v.1
      ]
    ]

exponent_further : (b : ℕ) (bytes : List ℕ) → Later bytes → Further b bytes in_.Exponent
exponent_further b bytes later at now from words p begun all here is h =
    let f : State → Option (List BsdlSpanned) = λ t. outcome (now + 1) t bytes in
    elim (and_then_cond f (is_digit b) _ _ _ h) [
      | inl w ↦ on b bytes later in_.Power at now from words (p ++ b ∷ []) begun all here (byte_more begun p b b is.0 refl, power_first p b is.1 w.0, is.2) w.1
      | inr w ↦ elim (and_then_cond f (is_sign b) _ _ _ w.1) [
        | inl v ↦ elim (and_then_cond f (nat_lt (length p) 31) _ _ _ v.1) [
          | inl u ↦ on b bytes later in_.Sign at now from words (p ++ b ∷ []) begun all here (byte_more begun p b b is.0 refl, signed p b is.1 v.0 (ltb-true (length p) 31 u.0), is.2) u.1
          | inr u ↦ absurd (none-some all u.1)
        ]
        | inr v ↦ absurd (none-some all v.1)
      ]
    ]

sign_further : (b : ℕ) (bytes : List ℕ) → Later bytes → Further b bytes in_.Sign
sign_further b bytes later at now from words p begun all here is h =
    let f : State → Option (List BsdlSpanned) = λ t. outcome (now + 1) t bytes in
    elim (and_then_cond f (is_digit b) _ _ _ h) [
      | inl w ↦ on b bytes later in_.Power at now from words (p ++ b ∷ []) begun all here (byte_more begun p b b is.0 refl, power_signed p b is.1 w.0, is.2) w.1
      | inr w ↦ absurd (none-some all w.1)
    ]

power_further : (b : ℕ) (bytes : List ℕ) → Later bytes → Further b bytes in_.Power
power_further b bytes later at now from words p begun all here is h =
    let f : State → Option (List BsdlSpanned) = λ t. outcome (now + 1) t bytes in
    elim (and_then_cond f (is_digit b) _ _ _ h) [
      | inl w ↦ elim (and_then_cond f (nat_lt (length p) 32) _ _ _ w.1) [
        | inl v ↦ on b bytes later in_.Power at now from words (p ++ b ∷ []) begun all here (byte_more begun p b b is.0 refl, power_push p b is.1 w.0 (ltb-true (length p) 32 v.0), is.2) v.1
        | inr v ↦ absurd (none-some all v.1)
      ]
      | inr w ↦ real_shut b bytes later at now from words p begun all here is.0 (real_of_power p is.1) is.2 w.1
    ]

quoted_further : (b : ℕ) (bytes : List ℕ) → Later bytes → Further b bytes in_.Quoted
quoted_further b bytes later at now from words p begun all here is h =
    let f : State → Option (List BsdlSpanned) = λ t. outcome (now + 1) t bytes in
    elim (and_then_cond f (b == 34) _ _ _ h) [
      | inl w ↦
          shut b bytes later (quoted p) at now begun words all (byte_more begun (34 ∷ p) b 34 is.0 (eqb-true b 34 w.0)) here is.1 tt
          (ap (λ (x : ℕ). outcome (now + 1) (between (with_quoted words x p)) bytes) (sym is.2) ∙ w.1)
      | inr w ↦ elim (and_then_cond f (is_quotable b) _ _ _ w.1) [
        | inl v ↦ on b bytes later in_.Quoted at now from words (p ++ b ∷ []) begun all here (byte_more begun (34 ∷ p) b b is.0 refl, all_append _ p (b ∷ []) is.1 (v.0, tt), is.2) v.1
        | inr v ↦ absurd (none-some all v.1)
      ]
    ]

later_more : (b : ℕ) (bytes : List ℕ) → Later bytes → Later (b ∷ bytes)
later_more b bytes later in_.Between = between_further b bytes later
later_more b bytes later in_.Dash = dash_further b bytes later
later_more b bytes later in_.Comment = comment_further b bytes later
later_more b bytes later in_.Colon = colon_further b bytes later
later_more b bytes later in_.Name = name_further b bytes later
later_more b bytes later in_.Underscore = underscore_further b bytes later
later_more b bytes later in_.Digits = digits_further b bytes later
later_more b bytes later in_.Point = point_further b bytes later
later_more b bytes later in_.Fraction = fraction_further b bytes later
later_more b bytes later in_.Exponent = exponent_further b bytes later
later_more b bytes later in_.Sign = sign_further b bytes later
later_more b bytes later in_.Power = power_further b bytes later
later_more b bytes later in_.Quoted = quoted_further b bytes later

from_each : (bytes : List ℕ) → Later bytes
from_each [] = later_end
from_each (b ∷ bytes) = later_more b bytes (from_each bytes)

-- what the machine gives are the words of the text
pub sound : (bytes : List ℕ) (all : List BsdlSpanned) → outcome 0 (between []) bytes ≡ Some all → CutFrom 0 bytes all
sound bytes all h =
    let goes : Goes 0 bytes [] all = goes_between bytes (from_each bytes) 0 [] all h in
    subst (λ (x : List BsdlSpanned). CutFrom 0 bytes x) (sym goes.all_are) goes.cut
