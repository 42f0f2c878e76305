use Rattle.std.proofs.Common.{◌≡◌, ℕ, ◌+◌, ◌<◌, ◌≤◌, List, [], ◌∷◌, ◌++◌, length, slice_get, Option, Some, Bool, true, false, refl, sym, ap, subst, ◌∙◌, arith, append_assoc, length-append, IsTrue, not, ◌==◌, inl, inr}
use Rattle.std.specs.Prelude.{nat_lt, option_and_then, codes, if◌then◌else◌}
use Rattle.std.specs.Option.{option_map_or}
use Rattle.std.specs.List.{AllByRecursion}
use Rattle.std.specs.Str.{bytes_eq}
use Rattle.std.proofs.lemmas.Slice.Eq.{bytes_eq-Decides}
use Rattle.std.proofs.lemmas.Bool.{ltb-true, leb-true}
use Rattle.std.proofs.lemmas.Bool.Decides.{nat_tests}
use borrow.Author.Tests.{eqb-true}
use Rattle.std.proofs.lemmas.Option.{same_Some, none-some, cond_some}
use Rattle.std.proofs.lemmas.List.{append-nil}
use Rattle.list_laws.proofs.Lists.{all_append}
use Rattle.list_laws.proofs.Tests.{true_or_false}
use Rattle.verilog_lexicon.specs.declared.word.Spanned.{Spanned}
use Rattle.verilog_lexicon.specs.declared.word.Word.TheVariants as word
use Rattle.verilog_lexicon.specs.declared.symbol.Symbol.{Symbol}
use Rattle.verilog_lexicon.specs.declared.symbol.Symbol.TheVariants.{LeftParenthesis, RightParenthesis, LeftBracket, RightBracket, Colon, Comma, Semicolon, Dot, Equals}
use Rattle.verilog_lexicon.specs.Bytes.{is_blank, is_letter, is_digit, is_name_byte, clings, is_escaped_byte, is_base}
use Rattle.verilog_lexicon.specs.Words.{spanned, symbol_byte}
use Rattle.verilog_lexicon.specs.Pieces.{Piece, blank, line_comment, block_comment, attribute, line_directive, bare_directive, simple_name, escaped_name, number, constant, symbol, spelling, IsPiece, IsName, IsNumber, IsOneLine, HoldsNoStarBefore, TakesLine, Ends, EndsSymbol, NotFirst, word_at, CutFrom}
use Rattle.verilog_words.specs.declared.mode.Mode.{Mode}
use Rattle.verilog_words.specs.declared.mode.Mode.TheVariants as in_
use Rattle.verilog_words.specs.declared.mode.Enclosure.{Enclosure}
use Rattle.verilog_words.specs.declared.mode.Enclosure.TheVariants.{BlockComment, Attribute}
use Rattle.verilog_words.specs.declared.mode.Directive.{Directive}
use Rattle.verilog_words.specs.declared.mode.Directive.TheVariants.{Timescale, DefaultNettype, Celldefine, Endcelldefine}
use Rattle.verilog_words.specs.Machine.{State, state, between, closer, directive_name, takes_line, is_whole, goes_on, after_directive, in_line, symbol_with, directive_with, with_name, with_escaped, with_number, with_constant, with_parenthesis}
use Rattle.word_cutter.proofs.Cases.{and_then_cond, and_then_map}
use Rattle.word_cutter.proofs.KeptWords.{byte_more}
use Rattle.verilog_words.proofs.Outcome.{outcome}

-- What the bytes of the piece that was begun are.

-- a piece that goes up to the end of its line
data Lined : Type 0 where
  comment : Lined
  directive : List ℕ → ℕ → Lined

abbrev lined : Lined → List ℕ → Piece
lined comment text = line_comment text
lined (directive name c) text = line_directive name (c ∷ text)

abbrev IsLined : Lined → Type 0
IsLined comment = Unit {0}
IsLined (directive name c) = TakesLine name × ((c == 10) ≡ false) × (is_name_byte c ≡ false)

-- an enclosure
abbrev opened : Enclosure → List ℕ → List ℕ
opened BlockComment text = 47 ∷ 42 ∷ text
opened Attribute text = 40 ∷ 42 ∷ text

abbrev enclosure : Enclosure → List ℕ → Piece
enclosure BlockComment text = block_comment text
enclosure Attribute text = attribute text

-- whatever may follow may follow this
record IsLoose (last : ℕ) (text : List ℕ) : Type 0 where
  follows : (more : List ℕ) → HoldsNoStarBefore last more → HoldsNoStarBefore last (text ++ more)

-- the same after a star, but for the byte that closes
record IsStarred (last : ℕ) (text : List ℕ) : Type 0 where
  whole : HoldsNoStarBefore last text
  follows : (more : List ℕ) → NotFirst (λ c. c == last) more → HoldsNoStarBefore last more → HoldsNoStarBefore last (text ++ 42 ∷ more)

-- the front of a directive's name
abbrev IsFront : List ℕ → List ℕ → Type 0
IsFront p name = (more : List ℕ) × (name ≡ p ++ more)

abbrev digit_of : Bool → ℕ
digit_of value = if value then 49 else 48

abbrev IsOpen : Mode → ℕ → ℕ → List ℕ → List ℕ → Type 0
IsOpen in_.Between at from p begun = begun ≡ []
IsOpen in_.Slash at from p begun = begun ≡ 47 ∷ []
IsOpen in_.Line at from p begun = (k : Lined) × (text : List ℕ) × (begun ≡ spelling (lined k text)) × IsLined k × IsOneLine text
IsOpen in_.Open at from p begun = (begun ≡ 40 ∷ []) × (from ≡ at)
IsOpen (in_.Enclosed e) at from p begun = (text : List ℕ) × (begun ≡ opened e text) × IsLoose (closer e) text
IsOpen (in_.EnclosedStar e) at from p begun = (text : List ℕ) × (begun ≡ opened e (text ++ 42 ∷ [])) × IsStarred (closer e) text
IsOpen in_.Backquote at from p begun = begun ≡ 96 ∷ []
IsOpen (in_.Directive d) at from p begun = (begun ≡ 96 ∷ p) × IsFront p (directive_name d)
IsOpen in_.Name at from p begun = (begun ≡ p) × IsName p × (from ≡ at)
IsOpen in_.Escaped at from p begun = (begun ≡ 92 ∷ p) × (length p ≤ 255) × AllByRecursion (λ c. IsTrue (is_escaped_byte c)) p × (from ≡ at)
IsOpen in_.Number at from p begun = (begun ≡ p) × IsNumber p × (from ≡ at)
IsOpen in_.Quote at from p begun = (begun ≡ 49 ∷ 39 ∷ []) × (from ≡ at)
IsOpen in_.Base at from p begun = (base : ℕ) × (begun ≡ 49 ∷ 39 ∷ base ∷ []) × IsTrue (is_base base) × (from ≡ at)
IsOpen (in_.Constant value) at from p begun = (base : ℕ) × (begun ≡ 49 ∷ 39 ∷ base ∷ digit_of value ∷ []) × IsTrue (is_base base) × (from ≡ at)

-- the words of what was begun and what follows
record Goes (at : ℕ) (bytes : List ℕ) (words all : List Spanned) : Type 0 where
  more : List Spanned
  all_are : all ≡ words ++ more
  cut : CutFrom at bytes more

-- what is to be shown of these bytes, from every state
abbrev Later : List ℕ → Type 0
Later bytes = (m : Mode) (at now from : ℕ) (words : List Spanned) (p begun : List ℕ) (all : List Spanned) → now ≡ at + length begun → IsOpen m at from p begun → outcome now (state words m from p) bytes ≡ Some all → Goes at (begun ++ bytes) words all

-- One byte more.

name_push : (p : List ℕ) (b : ℕ) → IsName p → is_name_byte b ≡ true → length p < 255 → IsName (p ++ b ∷ [])
name_push [] b is more short = absurd is
name_push (x ∷ p) b is more short = (is.0, all_append _ p (b ∷ []) is.1 (more, tt), omega (arith, length-append p (b ∷ [])))

number_push : (p : List ℕ) (b : ℕ) → IsNumber p → is_digit b ≡ true → length p < 9 → IsNumber (p ++ b ∷ [])
number_push p b is more short = (omega (arith, length-append p (b ∷ [])), omega (arith, length-append p (b ∷ [])), all_append _ p (b ∷ []) is.2 (more, tt))

lined_push : (k : Lined) (text : List ℕ) (b : ℕ) → spelling (lined k text) ++ b ∷ [] ≡ spelling (lined k (text ++ b ∷ []))
lined_push comment text b = refl
lined_push (directive name c) text b = ap (λ (l : List ℕ). 96 ∷ l) (append_assoc name (c ∷ text) (b ∷ []))

opened_push : (e : Enclosure) (text : List ℕ) (b : ℕ) → opened e text ++ b ∷ [] ≡ opened e (text ++ b ∷ [])
opened_push BlockComment text b = refl
opened_push Attribute text b = refl

star_not_closer : (e : Enclosure) → (42 == closer e) ≡ false
star_not_closer BlockComment = refl
star_not_closer Attribute = refl

loose_start : (last : ℕ) → IsLoose last []
loose_start last = record { follows = λ more holds. holds }

not_both : (v : Bool) → v ≡ true → v ≡ false → ⊥
not_both true s o = cc
not_both false s o = cc

-- a byte that is no star
not_star : (last b : ℕ) (more : List ℕ) → (b == 42) ≡ false → HoldsNoStarBefore last more → HoldsNoStarBefore last (b ∷ more)
not_star last b more other holds = (λ star. absurd (not_both (b == 42) star other), holds)

loose_push : (last : ℕ) (text : List ℕ) (b : ℕ) → IsLoose last text → (b == 42) ≡ false → IsLoose last (text ++ b ∷ [])
loose_push last text b loose other = record {
  follows = λ more holds. subst (λ (l : List ℕ). HoldsNoStarBefore last l) (sym (append_assoc text (b ∷ []) more)) (loose.follows (b ∷ more) (not_star last b more other holds));
}

loose_star : (last : ℕ) (text : List ℕ) → IsLoose last text → IsStarred last text
loose_star last text loose = record {
  whole = subst (λ (l : List ℕ). HoldsNoStarBefore last l) (append-nil text) (loose.follows [] tt);
  follows = λ more first holds. loose.follows (42 ∷ more) (λ _. first, holds);
}

starred_star : (last : ℕ) (text : List ℕ) → (42 == last) ≡ false → IsStarred last text → IsStarred last (text ++ 42 ∷ [])
starred_star last text other starred = record {
  whole = starred.follows [] tt tt;
  follows = λ more first holds. subst (λ (l : List ℕ). HoldsNoStarBefore last l) (sym (append_assoc text (42 ∷ []) (42 ∷ more))) (starred.follows (42 ∷ more) other (λ _. first, holds));
}

starred_push : (last : ℕ) (text : List ℕ) (b : ℕ) → IsStarred last text → (b == last) ≡ false → (b == 42) ≡ false → IsLoose last ((text ++ 42 ∷ []) ++ b ∷ [])
starred_push last text b starred apart other = record {
  follows = λ more holds.
      subst (λ (l : List ℕ). HoldsNoStarBefore last l) (sym (append_assoc (text ++ 42 ∷ []) (b ∷ []) more ∙ append_assoc text (42 ∷ []) (b ∷ more)))
      (starred.follows (b ∷ more) apart (not_star last b more other holds));
}

-- Pieces before a text.

put_piece : (p : Piece) (at : ℕ) (rest : List ℕ) (more : List Spanned) → IsPiece p → Ends p rest → CutFrom (at + length (spelling p)) rest more → CutFrom at (spelling p ++ rest) (word_at at p ++ more)
put_piece p at rest more is ends cut = record {
  pieces = p ∷ cut.pieces;
  are = (is, subst (λ (x : List ℕ). Ends p x) cut.text ends, cut.are);
  text = ap (λ (x : List ℕ). spelling p ++ x) cut.text;
  words_are = ap (λ (x : List Spanned). word_at at p ++ x) cut.words_are;
}

no_pieces : (at : ℕ) → CutFrom at [] []
no_pieces at = record { pieces = []; are = tt; text = refl; words_are = refl }

-- what was begun is this piece
done : (q : Piece) (at now : ℕ) (begun rest : List ℕ) (words all : List Spanned) → begun ≡ spelling q → now ≡ at + length begun → IsPiece q → Ends q rest → Goes now rest (words ++ word_at at q) all → Goes at (begun ++ rest) words all
done q at now begun rest words all spelled here is ends goes =
    subst (λ (l : List ℕ). Goes at (l ++ rest) words all) (sym spelled) record {
      more = word_at at q ++ goes.more;
      all_are = goes.all_are ∙ append_assoc words (word_at at q) goes.more;
      cut = put_piece q at rest goes.more is ends (subst (λ (x : ℕ). CutFrom x rest goes.more) (here ∙ ap (λ (l : List ℕ). at + length l) spelled) goes.cut);
    }

-- the same where the piece is no word
done_silent : (q : Piece) (at now : ℕ) (begun rest : List ℕ) (words all : List Spanned) → word_at at q ≡ [] → begun ≡ spelling q → now ≡ at + length begun → IsPiece q → Ends q rest → Goes now rest words all → Goes at (begun ++ rest) words all
done_silent q at now begun rest words all silent spelled here is ends goes =
    done q at now begun rest words all spelled here is ends
    (subst (λ (l : List Spanned). Goes now rest l all) (sym (ap (λ (l : List Spanned). words ++ l) silent ∙ append-nil words)) goes)

-- nothing follows
goes_end : (now : ℕ) (words all : List Spanned) → Some words ≡ Some all → Goes now [] words all
goes_end now words all h = record { more = []; all_are = sym (same_Some words all h) ∙ sym (append-nil words); cut = no_pieces now }

-- between two pieces
goes_between : (bytes : List ℕ) → Later bytes → (now : ℕ) (words all : List Spanned) → outcome now (between words) bytes ≡ Some all → Goes now bytes words all
goes_between bytes later now words all h = later in_.Between now now 0 words [] [] all (omega arith) refl h

-- a byte more of what was begun
moved : (at : ℕ) (begun bytes : List ℕ) (b : ℕ) (words all : List Spanned) → Goes at ((begun ++ b ∷ []) ++ bytes) words all → Goes at (begun ++ b ∷ bytes) words all
moved at begun bytes b words all goes = subst (λ (x : List ℕ). Goes at x words all) (append_assoc begun (b ∷ []) bytes) goes

on : (b : ℕ) (bytes : List ℕ) → Later bytes → (m : Mode) (at now from : ℕ) (words : List Spanned) (p begun : List ℕ) (all : List Spanned) → now ≡ at + length begun → IsOpen m at from p (begun ++ b ∷ []) → outcome (now + 1) (state words m from p) bytes ≡ Some all → Goes at (begun ++ b ∷ bytes) words all
on b bytes later m at now from words p begun all here is h =
    moved at begun bytes b words all (later m at (now + 1) from words p (begun ++ b ∷ []) all (omega (arith, here, length-append begun (b ∷ []))) is h)

-- what was begun is this piece once the byte came
shut : (b : ℕ) (bytes : List ℕ) → Later bytes → (q : Piece) (at now : ℕ) (begun : List ℕ) (words all : List Spanned) → begun ++ b ∷ [] ≡ spelling q → now ≡ at + length begun → IsPiece q → Ends q bytes → outcome (now + 1) (between (words ++ word_at at q)) bytes ≡ Some all → Goes at (begun ++ b ∷ bytes) words all
shut b bytes later q at now begun words all spelled here is ends h =
    moved at begun bytes b words all (done q at (now + 1) (begun ++ b ∷ []) bytes words all spelled (omega (arith, here, length-append begun (b ∷ []))) is ends (goes_between bytes later (now + 1) (words ++ word_at at q) all h))

silent_words : (q : Piece) (at now : ℕ) (bytes : List ℕ) (words all : List Spanned) → word_at at q ≡ [] → outcome now (between words) bytes ≡ Some all → outcome now (between (words ++ word_at at q)) bytes ≡ Some all
silent_words q at now bytes words all silent h = ap (λ (l : List Spanned). outcome now (between l) bytes) (ap (λ (l : List Spanned). words ++ l) silent ∙ append-nil words) ∙ h

-- the end of a line, which is white space
line_end : (b : ℕ) (bytes : List ℕ) → Later bytes → (now : ℕ) (words all : List Spanned) → (b == 10) ≡ true → outcome (now + 1) (between words) bytes ≡ Some all → Goes now (b ∷ bytes) words all
line_end b bytes later now words all is h =
    let blank_is : is_blank b ≡ true = grind (arith, nat_tests) in
    done_silent (blank b) now (now + 1) (b ∷ []) bytes words all refl refl refl blank_is tt (goes_between bytes later (now + 1) words all h)

-- what a symbol's byte is
symbol_with_is : (s : Symbol) (b : ℕ) → symbol_with b ≡ Some s → b ≡ symbol_byte s
symbol_with_is LeftParenthesis b h = grind (arith, nat_tests)
symbol_with_is RightParenthesis b h = grind (arith, nat_tests)
symbol_with_is LeftBracket b h = grind (arith, nat_tests)
symbol_with_is RightBracket b h = grind (arith, nat_tests)
symbol_with_is Colon b h = grind (arith, nat_tests)
symbol_with_is Comma b h = grind (arith, nat_tests)
symbol_with_is Semicolon b h = grind (arith, nat_tests)
symbol_with_is Dot b h = grind (arith, nat_tests)
symbol_with_is Equals b h = grind (arith, nat_tests)

symbol_with_other : (b : ℕ) → symbol_with b ≡ Some LeftParenthesis → ⊥
symbol_with_other b h = grind (arith, nat_tests)

symbol_ends : (s : Symbol) (b : ℕ) (rest : List ℕ) → symbol_with b ≡ Some s → EndsSymbol s rest
symbol_ends LeftParenthesis b rest h = absurd (symbol_with_other b h)
symbol_ends RightParenthesis b rest h = tt
symbol_ends LeftBracket b rest h = tt
symbol_ends RightBracket b rest h = tt
symbol_ends Colon b rest h = tt
symbol_ends Comma b rest h = tt
symbol_ends Semicolon b rest h = tt
symbol_ends Dot b rest h = tt
symbol_ends Equals b rest h = tt

-- the byte begins a piece
begin_goes : (b : ℕ) (bytes : List ℕ) (at : ℕ) (words all : List Spanned) → Later bytes → outcome at (between words) (b ∷ bytes) ≡ Some all → Goes at (b ∷ bytes) words all
begin_goes b bytes at words all later h =
    let f : State → Option (List Spanned) = λ t. outcome (at + 1) t bytes in
    elim (and_then_cond f (is_blank b) _ _ _ h) [
      | inl w ↦ done_silent (blank b) at (at + 1) (b ∷ []) bytes words all refl refl refl w.0 tt (goes_between bytes later (at + 1) words all w.1)
      | inr w ↦ elim (and_then_cond f (is_letter b) _ _ _ w.1) [
        | inl v ↦ later in_.Name at (at + 1) at words (b ∷ []) (b ∷ []) all refl (refl, (v.0, tt, omega arith), refl) v.1
        | inr v ↦ elim (and_then_cond f (is_digit b) _ _ _ v.1) [
          | inl u ↦ later in_.Number at (at + 1) at words (b ∷ []) (b ∷ []) all refl (refl, (omega arith, omega arith, (u.0, tt)), refl) u.1
          | inr u ↦ elim (and_then_cond f (b == 40) _ _ _ u.1) [
            | inl t ↦ later in_.Open at (at + 1) at words [] (b ∷ []) all refl (ap (λ (x : ℕ). x ∷ []) (eqb-true b 40 t.0), refl) t.1
            | inr t ↦ elim (and_then_cond f (b == 47) _ _ _ t.1) [
              | inl s ↦ later in_.Slash at (at + 1) 0 words [] (b ∷ []) all refl (ap (λ (x : ℕ). x ∷ []) (eqb-true b 47 s.0)) s.1
              | inr s ↦ elim (and_then_cond f (b == 96) _ _ _ s.1) [
                | inl r ↦ later in_.Backquote at (at + 1) 0 words [] (b ∷ []) all refl (ap (λ (x : ℕ). x ∷ []) (eqb-true b 96 r.0)) r.1
                | inr r ↦ elim (and_then_cond f (b == 92) _ _ _ r.1) [
                  | inl q ↦ later in_.Escaped at (at + 1) at words [] (b ∷ []) all refl (ap (λ (x : ℕ). x ∷ []) (eqb-true b 92 q.0), omega arith, tt, refl) q.1
                  | inr q ↦ put_symbol (and_then_map f _ (symbol_with b) all q.1)
                ]
              ]
            ]
          ]
        ]
      ]
    ] where
      put_symbol : (s : Symbol) × (symbol_with b ≡ Some s) × (outcome (at + 1) (between (words ++ spanned (word.Symbol s) at 1 ∷ [])) bytes ≡ Some all) → Goes at (b ∷ bytes) words all
      put_symbol (s, is, goes) =
          done (symbol s) at (at + 1) (b ∷ []) bytes words all (ap (λ (x : ℕ). x ∷ []) (symbol_with_is s b is)) refl tt (symbol_ends s b bytes is) (goes_between bytes later (at + 1) (words ++ spanned (word.Symbol s) at 1 ∷ []) all goes)

-- the silence of what is no word

lined_silent : (k : Lined) (text : List ℕ) (at : ℕ) → word_at at (lined k text) ≡ []
lined_silent comment text at = refl
lined_silent (directive name c) text at = refl

lined_is : (k : Lined) (text : List ℕ) → IsLined k → IsOneLine text → IsPiece (lined k text)
lined_is comment text is one = one
lined_is (directive name c) text is one = (is.0, (is.1, one), is.2)

lined_ends : (k : Lined) (text rest : List ℕ) → NotFirst (λ c. not (c == 10)) rest → Ends (lined k text) rest
lined_ends comment text rest ends = ends
lined_ends (directive name c) text rest ends = ends

enclosure_silent : (e : Enclosure) (text : List ℕ) (at : ℕ) → word_at at (enclosure e text) ≡ []
enclosure_silent BlockComment text at = refl
enclosure_silent Attribute text at = refl

enclosure_is : (e : Enclosure) (text : List ℕ) → HoldsNoStarBefore (closer e) text → IsPiece (enclosure e text)
enclosure_is BlockComment text holds = holds
enclosure_is Attribute text holds = holds

enclosure_ends : (e : Enclosure) (text rest : List ℕ) → Ends (enclosure e text) rest
enclosure_ends BlockComment text rest = tt
enclosure_ends Attribute text rest = tt

enclosure_spelled : (e : Enclosure) (text : List ℕ) → opened e ((text ++ 42 ∷ []) ++ closer e ∷ []) ≡ spelling (enclosure e text)
enclosure_spelled BlockComment text = ap (λ (l : List ℕ). 47 ∷ 42 ∷ l) (append_assoc text (42 ∷ []) (47 ∷ []))
enclosure_spelled Attribute text = ap (λ (l : List ℕ). 40 ∷ 42 ∷ l) (append_assoc text (42 ∷ []) (41 ∷ []))

-- a directive that no more of its line follows
abbrev bare_piece : Directive → Piece
bare_piece Timescale = line_directive (codes "timescale") []
bare_piece DefaultNettype = line_directive (codes "default_nettype") []
bare_piece Celldefine = bare_directive (codes "celldefine")
bare_piece Endcelldefine = bare_directive (codes "endcelldefine")

bare_silent : (d : Directive) (at : ℕ) → word_at at (bare_piece d) ≡ []
bare_silent Timescale at = refl
bare_silent DefaultNettype at = refl
bare_silent Celldefine at = refl
bare_silent Endcelldefine at = refl

bare_is : (d : Directive) → IsPiece (bare_piece d)
bare_is Timescale = (inl refl, tt, tt)
bare_is DefaultNettype = (inr refl, tt, tt)
bare_is Celldefine = inl refl
bare_is Endcelldefine = inr refl

bare_spelled : (d : Directive) → 96 ∷ directive_name d ≡ spelling (bare_piece d)
bare_spelled Timescale = refl
bare_spelled DefaultNettype = refl
bare_spelled Celldefine = refl
bare_spelled Endcelldefine = refl

bare_ends : (d : Directive) (b : ℕ) (rest : List ℕ) → (takes_line d ≡ true → (b == 10) ≡ true) → is_name_byte b ≡ false → Ends (bare_piece d) (b ∷ rest)
bare_ends Timescale b rest line other = ap not (line refl)
bare_ends DefaultNettype b rest line other = ap not (line refl)
bare_ends Celldefine b rest line other = other
bare_ends Endcelldefine b rest line other = other

bare_last : (d : Directive) → Ends (bare_piece d) []
bare_last Timescale = tt
bare_last DefaultNettype = tt
bare_last Celldefine = tt
bare_last Endcelldefine = tt

takes_line_is : (d : Directive) → takes_line d ≡ true → TakesLine (directive_name d)
takes_line_is Timescale h = inl refl
takes_line_is DefaultNettype h = inr refl
takes_line_is Celldefine h = cc
takes_line_is Endcelldefine h = cc

-- the first byte of a directive's name
directive_first : (d : Directive) (b : ℕ) → directive_with b ≡ Some d → IsFront (b ∷ []) (directive_name d)
directive_first Timescale b h = let is : 116 ≡ b = grind (arith, nat_tests) in (codes "imescale", ap (λ (x : ℕ). x ∷ codes "imescale") is)
directive_first DefaultNettype b h = let is : 100 ≡ b = grind (arith, nat_tests) in (codes "efault_nettype", ap (λ (x : ℕ). x ∷ codes "efault_nettype") is)
directive_first Celldefine b h = let is : 99 ≡ b = grind (arith, nat_tests) in (codes "elldefine", ap (λ (x : ℕ). x ∷ codes "elldefine") is)
directive_first Endcelldefine b h = let is : 101 ≡ b = grind (arith, nat_tests) in (codes "ndcelldefine", ap (λ (x : ℕ). x ∷ codes "ndcelldefine") is)

-- and the next one
front_next : (p more : List ℕ) (b : ℕ) → option_map_or (λ c. c == b) (slice_get (p ++ more) (length p)) false ≡ true → (left : List ℕ) × (more ≡ b ∷ left)
front_next [] [] b h = cc
front_next [] (c ∷ more) b h = (more, ap (λ (x : ℕ). x ∷ more) (eqb-true c b h))
front_next (x ∷ p) more b h = front_next p more b h

front_push : (d : Directive) (p : List ℕ) (b : ℕ) → IsFront p (directive_name d) → goes_on d p b ≡ true → IsFront (p ++ b ∷ []) (directive_name d)
front_push d p b (more, is) h =
    let next = front_next p more b (sym (ap (λ (l : List ℕ). option_map_or (λ c. c == b) (slice_get l (length p)) false) is) ∙ h) in
    (next.0, is ∙ ap (λ (l : List ℕ). p ++ l) next.1 ∙ sym (append_assoc p (b ∷ []) next.0))

front_whole : (d : Directive) (p : List ℕ) → IsFront p (directive_name d) → is_whole d p ≡ true → p ≡ directive_name d
front_whole d p (more, is) h =
    let long : length (directive_name d) ≤ length p = leb-true (length (directive_name d)) (length p) h in
    sym (append-nil p) ∙ ap (λ (l : List ℕ). p ++ l) (sym (empty more (omega (arith, long, ap length is, length-append p more)))) ∙ sym is where
      empty : (l : List ℕ) → length l ≤ 0 → l ≡ []
      empty [] h = refl
      empty (x ∷ l) h = absurd (omega arith)

-- The text ends here.

later_end : Later []
later_end in_.Between at now from words p begun all here is h =
    let goes : Goes now [] words all = goes_end now words all h in
    let at_now : now ≡ at = omega (arith, here, ap length is) in
    subst (λ (x : List ℕ). Goes at (x ++ []) words all) (sym is) (subst (λ (x : ℕ). Goes x [] words all) at_now goes)
later_end in_.Slash at now from words p begun all here is h = absurd (none-some all h)
later_end in_.Line at now from words p begun all here is h =
    done_silent (lined is.0 is.1) at now begun [] words all (lined_silent is.0 is.1 at) is.2 here (lined_is is.0 is.1 is.3 is.4) (lined_ends is.0 is.1 [] tt) (goes_end now words all h)
later_end in_.Open at now from words p begun all here is h =
    done (symbol LeftParenthesis) at now begun [] words all is.0 here tt tt (goes_end now (with_parenthesis words at) all (ap (λ (x : ℕ). Some (with_parenthesis words x)) (sym is.1) ∙ h))
later_end (in_.Enclosed e) at now from words p begun all here is h = absurd (none-some all h)
later_end (in_.EnclosedStar e) at now from words p begun all here is h = absurd (none-some all h)
later_end in_.Backquote at now from words p begun all here is h = absurd (none-some all h)
later_end (in_.Directive d) at now from words p begun all here is h =
    let whole = cond_some (is_whole d p) words all h in
    done_silent (bare_piece d) at now begun [] words all (bare_silent d at) (is.0 ∙ ap (λ (l : List ℕ). 96 ∷ l) (front_whole d p is.1 whole.0) ∙ bare_spelled d) here (bare_is d) (bare_last d) (goes_end now words all (ap Some whole.1))
later_end in_.Name at now from words p begun all here is h =
    done (simple_name p) at now begun [] words all is.0 here is.1 tt (goes_end now (with_name words at p) all (ap (λ (x : ℕ). Some (with_name words x p)) (sym is.2) ∙ h))
later_end in_.Escaped at now from words p begun all here is h = absurd (none-some all h)
later_end in_.Number at now from words p begun all here is h =
    done (number p) at now begun [] words all is.0 here is.1 tt (goes_end now (with_number words at p) all (ap (λ (x : ℕ). Some (with_number words x p)) (sym is.2) ∙ h))
later_end in_.Quote at now from words p begun all here is h = absurd (none-some all h)
later_end in_.Base at now from words p begun all here is h = absurd (none-some all h)
later_end (in_.Constant value) at now from words p begun all here is h =
    done (constant is.0 value) at now begun [] words all is.1 here is.2 tt (goes_end now (with_constant words at value) all (ap (λ (x : ℕ). Some (with_constant words x value)) (sym is.3) ∙ h))

-- One byte more comes.

-- what is to be shown of a byte and these bytes, from a state of this mode
abbrev Further : ℕ → List ℕ → Mode → Type 0
Further b bytes m = (at now from : ℕ) (words : List Spanned) (p begun : List ℕ) (all : List Spanned) → now ≡ at + length begun → IsOpen m at from p begun → outcome now (state words m from p) (b ∷ bytes) ≡ Some all → Goes at (begun ++ b ∷ bytes) words all

between_further : (b : ℕ) (bytes : List ℕ) → Later bytes → Further b bytes in_.Between
between_further b bytes later at now from words p begun all here is h =
    let at_now : now ≡ at = omega (arith, here, ap length is) in
    subst (λ (x : List ℕ). Goes at (x ++ b ∷ bytes) words all) (sym is) (subst (λ (x : ℕ). Goes x (b ∷ bytes) words all) at_now (begin_goes b bytes now words all later h))

slash_further : (b : ℕ) (bytes : List ℕ) → Later bytes → Further b bytes in_.Slash
slash_further b bytes later at now from words p begun all here is h =
    let f : State → Option (List Spanned) = λ t. outcome (now + 1) t bytes in
    elim (and_then_cond f (b == 47) _ _ _ h) [
      | inl w ↦ on b bytes later in_.Line at now 0 words [] begun all here (comment, [], byte_more begun (47 ∷ []) b 47 is (eqb-true b 47 w.0), tt, tt) w.1
      | inr w ↦ elim (and_then_cond f (b == 42) _ _ _ w.1) [
        | inl v ↦ on b bytes later (in_.Enclosed BlockComment) at now 0 words [] begun all here ([], byte_more begun (47 ∷ []) b 42 is (eqb-true b 42 v.0), loose_start 47) v.1
        | inr v ↦ absurd (none-some all v.1)
      ]
    ]

line_further : (b : ℕ) (bytes : List ℕ) → Later bytes → Further b bytes in_.Line
line_further b bytes later at now from words p begun all here is h =
    let f : State → Option (List Spanned) = λ t. outcome (now + 1) t bytes in
    elim (and_then_cond f (b == 10) _ _ _ h) [
      | inl w ↦ done_silent (lined is.0 is.1) at now begun (b ∷ bytes) words all (lined_silent is.0 is.1 at) is.2 here (lined_is is.0 is.1 is.3 is.4) (lined_ends is.0 is.1 (b ∷ bytes) (ap not w.0)) (line_end b bytes later now words all w.0 w.1)
      | inr w ↦ on b bytes later in_.Line at now 0 words [] begun all here (is.0, is.1 ++ b ∷ [], ap (λ (l : List ℕ). l ++ b ∷ []) is.2 ∙ lined_push is.0 is.1 b, is.3, all_append _ is.1 (b ∷ []) is.4 (w.0, tt)) w.1
    ]

open_further : (b : ℕ) (bytes : List ℕ) → Later bytes → Further b bytes in_.Open
open_further b bytes later at now from words p begun all here is h =
    let f : State → Option (List Spanned) = λ t. outcome (now + 1) t bytes in
    elim (and_then_cond f (b == 42) _ _ _ h) [
      | inl w ↦ on b bytes later (in_.Enclosed Attribute) at now 0 words [] begun all here ([], byte_more begun (40 ∷ []) b 42 is.0 (eqb-true b 42 w.0), loose_start 41) w.1
      | inr w ↦ done (symbol LeftParenthesis) at now begun (b ∷ bytes) words all is.0 here tt w.0 (begin_goes b bytes now (with_parenthesis words at) all later (ap (λ (x : ℕ). outcome now (between (with_parenthesis words x)) (b ∷ bytes)) (sym is.1) ∙ w.1))
    ]

enclosed_further : (e : Enclosure) (b : ℕ) (bytes : List ℕ) → Later bytes → Further b bytes (in_.Enclosed e)
enclosed_further e b bytes later at now from words p begun all here is h =
    let f : State → Option (List Spanned) = λ t. outcome (now + 1) t bytes in
    elim (and_then_cond f (b == 42) _ _ _ h) [
      | inl w ↦ on b bytes later (in_.EnclosedStar e) at now 0 words [] begun all here (is.0, byte_more begun (opened e is.0) b 42 is.1 (eqb-true b 42 w.0) ∙ opened_push e is.0 42, loose_star (closer e) is.0 is.2) w.1
      | inr w ↦ on b bytes later (in_.Enclosed e) at now 0 words [] begun all here (is.0 ++ b ∷ [], byte_more begun (opened e is.0) b b is.1 refl ∙ opened_push e is.0 b, loose_push (closer e) is.0 b is.2 w.0) w.1
    ]

star_further : (e : Enclosure) (b : ℕ) (bytes : List ℕ) → Later bytes → Further b bytes (in_.EnclosedStar e)
star_further e b bytes later at now from words p begun all here is h =
    let f : State → Option (List Spanned) = λ t. outcome (now + 1) t bytes in
    elim (and_then_cond f (b == closer e) _ _ _ h) [
      | inl w ↦
          shut b bytes later (enclosure e is.0) at now begun words all
          (byte_more begun (opened e (is.0 ++ 42 ∷ [])) b (closer e) is.1 (eqb-true b (closer e) w.0) ∙ opened_push e (is.0 ++ 42 ∷ []) (closer e) ∙ enclosure_spelled e is.0)
          here (enclosure_is e is.0 is.2.whole) (enclosure_ends e is.0 bytes) (silent_words (enclosure e is.0) at (now + 1) bytes words all (enclosure_silent e is.0 at) w.1)
      | inr w ↦ elim (and_then_cond f (b == 42) _ _ _ w.1) [
        | inl v ↦ on b bytes later (in_.EnclosedStar e) at now 0 words [] begun all here (is.0 ++ 42 ∷ [], byte_more begun (opened e (is.0 ++ 42 ∷ [])) b 42 is.1 (eqb-true b 42 v.0) ∙ opened_push e (is.0 ++ 42 ∷ []) 42, starred_star (closer e) is.0 (star_not_closer e) is.2) v.1
        | inr v ↦ on b bytes later (in_.Enclosed e) at now 0 words [] begun all here ((is.0 ++ 42 ∷ []) ++ b ∷ [], byte_more begun (opened e (is.0 ++ 42 ∷ [])) b b is.1 refl ∙ opened_push e (is.0 ++ 42 ∷ []) b, starred_push (closer e) is.0 b is.2 w.0 v.0) v.1
      ]
    ]

backquote_further : (b : ℕ) (bytes : List ℕ) → Later bytes → Further b bytes in_.Backquote
backquote_further b bytes later at now from words p begun all here is h =
    let f : State → Option (List Spanned) = λ t. outcome (now + 1) t bytes in
    let found = and_then_map f (λ d. state words (in_.Directive d) 0 (b ∷ [])) (directive_with b) all h in
    on b bytes later (in_.Directive found.0) at now 0 words (b ∷ []) begun all here (byte_more begun (96 ∷ []) b b is refl, directive_first found.0 b found.1) found.2

directive_further : (d : Directive) (b : ℕ) (bytes : List ℕ) → Later bytes → Further b bytes (in_.Directive d)
directive_further d b bytes later at now from words p begun all here is h =
    let f : State → Option (List Spanned) = λ t. outcome (now + 1) t bytes in
    elim (and_then_cond f (is_name_byte b) _ _ _ h) [
      | inl w ↦ elim (and_then_cond f (goes_on d p b) _ _ _ w.1) [
        | inl v ↦ on b bytes later (in_.Directive d) at now 0 words (p ++ b ∷ []) begun all here (byte_more begun (96 ∷ p) b b is.0 refl, front_push d p b is.1 v.0) v.1
        | inr v ↦ absurd (none-some all v.1)
      ]
      | inr w ↦ elim (and_then_cond f (is_whole d p) _ _ _ w.1) [
        | inl v ↦ after w.0 (is.0 ∙ ap (λ (l : List ℕ). 96 ∷ l) (front_whole d p is.1 v.0)) v.1
        | inr v ↦ absurd (none-some all v.1)
      ]
    ] where
      line : takes_line d ≡ true → is_name_byte b ≡ false → begun ≡ 96 ∷ directive_name d → option_and_then (λ t. outcome (now + 1) t bytes) (in_line words b) ≡ Some all → Goes at (begun ++ b ∷ bytes) words all
      line takes other spelled goes = elim (and_then_cond (λ t. outcome (now + 1) t bytes) (b == 10) _ _ _ goes) [
        | inl w ↦ done_silent (bare_piece d) at now begun (b ∷ bytes) words all (bare_silent d at) (spelled ∙ bare_spelled d) here (bare_is d) (bare_ends d b bytes (λ _. w.0) other) (line_end b bytes later now words all w.0 w.1)
        | inr w ↦ on b bytes later in_.Line at now 0 words [] begun all here (directive (directive_name d) b, [], byte_more begun (96 ∷ directive_name d) b b spelled refl, (takes_line_is d takes, w.0, other), tt) w.1
      ]

      after : is_name_byte b ≡ false → begun ≡ 96 ∷ directive_name d → option_and_then (λ t. outcome (now + 1) t bytes) (after_directive (takes_line d) now words b) ≡ Some all → Goes at (begun ++ b ∷ bytes) words all
      after other spelled goes = elim (true_or_false (takes_line d)) [
        | inl takes ↦ line takes other spelled (ap (λ (v : Bool). option_and_then (λ t. outcome (now + 1) t bytes) (after_directive v now words b)) (sym takes) ∙ goes)
        | inr alone ↦ done_silent (bare_piece d) at now begun (b ∷ bytes) words all (bare_silent d at) (spelled ∙ bare_spelled d) here (bare_is d) (bare_ends d b bytes (λ takes. absurd (not_both (takes_line d) takes alone)) other) (begin_goes b bytes now words all later (ap (λ (v : Bool). option_and_then (λ t. outcome (now + 1) t bytes) (after_directive v now words b)) (sym alone) ∙ goes))
      ]

name_further : (b : ℕ) (bytes : List ℕ) → Later bytes → Further b bytes in_.Name
name_further b bytes later at now from words p begun all here is h =
    let f : State → Option (List Spanned) = λ t. outcome (now + 1) t bytes in
    elim (and_then_cond f (is_name_byte b) _ _ _ h) [
      | inl w ↦ elim (and_then_cond f (nat_lt (length p) 255) _ _ _ w.1) [
        | inl v ↦ on b bytes later in_.Name at now from words (p ++ b ∷ []) begun all here (byte_more begun p b b is.0 refl, name_push p b is.1 w.0 (ltb-true (length p) 255 v.0), is.2) v.1
        | inr v ↦ absurd (none-some all v.1)
      ]
      | inr w ↦ done (simple_name p) at now begun (b ∷ bytes) words all is.0 here is.1 w.0 (begin_goes b bytes now (with_name words at p) all later (ap (λ (x : ℕ). outcome now (between (with_name words x p)) (b ∷ bytes)) (sym is.2) ∙ w.1))
    ]

escaped_further : (b : ℕ) (bytes : List ℕ) → Later bytes → Further b bytes in_.Escaped
escaped_further b bytes later at now from words p begun all here is h =
    let f : State → Option (List Spanned) = λ t. outcome (now + 1) t bytes in
    elim (and_then_cond f (is_escaped_byte b) _ _ _ h) [
      | inl w ↦ elim (and_then_cond f (nat_lt (length p) 255) _ _ _ w.1) [
        | inl v ↦ on b bytes later in_.Escaped at now from words (p ++ b ∷ []) begun all here (byte_more begun (92 ∷ p) b b is.0 refl, omega (arith, length-append p (b ∷ []), ltb-true (length p) 255 v.0), all_append _ p (b ∷ []) is.2 (w.0, tt), is.3) v.1
        | inr v ↦ absurd (none-some all v.1)
      ]
      | inr w ↦ elim (and_then_cond f (is_blank b) _ _ _ w.1) [
        | inl v ↦ elim (and_then_cond f (nat_lt 0 (length p)) _ _ _ v.1) [
          | inl u ↦
              shut b bytes later (escaped_name p b) at now begun words all (byte_more begun (92 ∷ p) b b is.0 refl) here ((ltb-true 0 (length p) u.0, is.1, is.2), v.0) tt
              (ap (λ (x : ℕ). outcome (now + 1) (between (with_escaped words x p)) bytes) (sym is.3) ∙ u.1)
          | inr u ↦ absurd (none-some all u.1)
        ]
        | inr v ↦ absurd (none-some all v.1)
      ]
    ]

number_further : (b : ℕ) (bytes : List ℕ) → Later bytes → Further b bytes in_.Number
number_further b bytes later at now from words p begun all here is h =
    let f : State → Option (List Spanned) = λ t. outcome (now + 1) t bytes in
    elim (and_then_cond f (is_digit b) _ _ _ h) [
      | inl w ↦ elim (and_then_cond f (nat_lt (length p) 9) _ _ _ w.1) [
        | inl v ↦ on b bytes later in_.Number at now from words (p ++ b ∷ []) begun all here (byte_more begun p b b is.0 refl, number_push p b is.1 w.0 (ltb-true (length p) 9 v.0), is.2) v.1
        | inr v ↦ absurd (none-some all v.1)
      ]
      | inr w ↦ elim (and_then_cond f (b == 39) _ _ _ w.1) [
        | inl v ↦ elim (and_then_cond f (bytes_eq p (codes "1")) _ _ _ v.1) [
          | inl u ↦ on b bytes later in_.Quote at now from words [] begun all here (byte_more begun (49 ∷ []) b 39 (is.0 ∙ same_bytes p (codes "1") u.0) (eqb-true b 39 v.0), is.2) u.1
          | inr u ↦ absurd (none-some all u.1)
        ]
        | inr v ↦ elim (and_then_cond f (clings b) _ _ _ v.1) [
          | inl u ↦ absurd (none-some all u.1)
          | inr u ↦ done (number p) at now begun (b ∷ bytes) words all is.0 here is.1 u.0 (begin_goes b bytes now (with_number words at p) all later (ap (λ (x : ℕ). outcome now (between (with_number words x p)) (b ∷ bytes)) (sym is.2) ∙ u.1))
        ]
      ]
    ] where
      same_bytes : (xs ys : List ℕ) → bytes_eq xs ys ≡ true → xs ≡ ys
      same_bytes xs ys e = (bytes_eq-Decides xs ys).0 e

quote_further : (b : ℕ) (bytes : List ℕ) → Later bytes → Further b bytes in_.Quote
quote_further b bytes later at now from words p begun all here is h =
    let f : State → Option (List Spanned) = λ t. outcome (now + 1) t bytes in
    elim (and_then_cond f (is_base b) _ _ _ h) [
      | inl w ↦ on b bytes later in_.Base at now from words [] begun all here (b, byte_more begun (49 ∷ 39 ∷ []) b b is.0 refl, w.0, is.1) w.1
      | inr w ↦ absurd (none-some all w.1)
    ]

base_further : (b : ℕ) (bytes : List ℕ) → Later bytes → Further b bytes in_.Base
base_further b bytes later at now from words p begun all here is h =
    let f : State → Option (List Spanned) = λ t. outcome (now + 1) t bytes in
    elim (and_then_cond f (b == 48) _ _ _ h) [
      | inl w ↦ on b bytes later (in_.Constant false) at now from words [] begun all here (is.0, byte_more begun (49 ∷ 39 ∷ is.0 ∷ []) b 48 is.1 (eqb-true b 48 w.0), is.2, is.3) w.1
      | inr w ↦ elim (and_then_cond f (b == 49) _ _ _ w.1) [
        | inl v ↦ on b bytes later (in_.Constant true) at now from words [] begun all here (is.0, byte_more begun (49 ∷ 39 ∷ is.0 ∷ []) b 49 is.1 (eqb-true b 49 v.0), is.2, is.3) v.1
        | inr v ↦ absurd (none-some all v.1)
      ]
    ]

constant_further : (value : Bool) (b : ℕ) (bytes : List ℕ) → Later bytes → Further b bytes (in_.Constant value)
constant_further value b bytes later at now from words p begun all here is h =
    let f : State → Option (List Spanned) = λ t. outcome (now + 1) t bytes in
    elim (and_then_cond f (clings b) _ _ _ h) [
      | inl w ↦ absurd (none-some all w.1)
      | inr w ↦ done (constant is.0 value) at now begun (b ∷ bytes) words all is.1 here is.2 w.0 (begin_goes b bytes now (with_constant words at value) all later (ap (λ (x : ℕ). outcome now (between (with_constant words x value)) (b ∷ bytes)) (sym is.3) ∙ w.1))
    ]

later_more : (b : ℕ) (bytes : List ℕ) → Later bytes → Later (b ∷ bytes)
later_more b bytes later in_.Between = between_further b bytes later
later_more b bytes later in_.Slash = slash_further b bytes later
later_more b bytes later in_.Line = line_further b bytes later
later_more b bytes later in_.Open = open_further b bytes later
later_more b bytes later (in_.Enclosed e) = enclosed_further e b bytes later
later_more b bytes later (in_.EnclosedStar e) = star_further e b bytes later
later_more b bytes later in_.Backquote = backquote_further b bytes later
later_more b bytes later (in_.Directive d) = directive_further d b bytes later
later_more b bytes later in_.Name = name_further b bytes later
later_more b bytes later in_.Escaped = escaped_further b bytes later
later_more b bytes later in_.Number = number_further b bytes later
later_more b bytes later in_.Quote = quote_further b bytes later
later_more b bytes later in_.Base = base_further b bytes later
later_more b bytes later (in_.Constant value) = constant_further value b bytes later

from_each : (bytes : List ℕ) → Later bytes
from_each [] = later_end
from_each (b ∷ bytes) = later_more b bytes (from_each bytes)

-- what the machine gives are the words of the text
pub sound : (bytes : List ℕ) (all : List Spanned) → outcome 0 (between []) bytes ≡ Some all → CutFrom 0 bytes all
sound bytes all h =
    let goes : Goes 0 bytes [] all = goes_between bytes (from_each bytes) 0 [] all h in
    subst (λ (x : List Spanned). CutFrom 0 bytes x) (sym goes.all_are) goes.cut
