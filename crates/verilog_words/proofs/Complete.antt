use Rattle.std.proofs.Common.{◌≡◌, ℕ, ◌+◌, ◌<◌, ◌≤◌, List, [], ◌∷◌, ◌++◌, length, Some, Bool, true, false, refl, sym, ap, ◌∙◌, arith, append_assoc, length-append, IsTrue, not, ◌==◌, inl, inr}
use Rattle.std.specs.Prelude.{option_and_then, nat_lt, codes, if◌then◌else◌}
use Rattle.std.specs.List.{AllByRecursion}
use Rattle.std.proofs.lemmas.Bool.{lt-ltb, cond-true, cond-false, not-false}
use Rattle.std.proofs.lemmas.List.{append-nil}
use Rattle.list_laws.proofs.Tests.{true_or_false}
use Rattle.verilog_lexicon.specs.declared.word.Spanned.{Spanned}
use Rattle.verilog_lexicon.specs.declared.word.Word.TheVariants as word
use Rattle.verilog_lexicon.specs.declared.symbol.Symbol.{Symbol}
use Rattle.verilog_lexicon.specs.declared.symbol.Symbol.TheVariants.{LeftParenthesis, RightParenthesis, LeftBracket, RightBracket, Colon, Comma, Semicolon, Dot, Equals}
use Rattle.verilog_lexicon.specs.Bytes.{is_blank, is_letter, is_digit, is_name_byte, clings, is_escaped_byte, is_base}
use Rattle.verilog_lexicon.specs.Words.{spanned, symbol_byte}
use Rattle.verilog_lexicon.specs.Pieces.{Piece, blank, line_comment, block_comment, attribute, line_directive, bare_directive, simple_name, escaped_name, number, constant, symbol, spelling, IsPiece, Ends, EndsSymbol, IsOneLine, HoldsNoStarBefore, NotFirst, text_of, ArePieces, word_at, words_from}
use Rattle.verilog_words.specs.declared.mode.Mode.TheVariants as in_
use Rattle.verilog_words.specs.declared.mode.Enclosure.{Enclosure}
use Rattle.verilog_words.specs.declared.mode.Enclosure.TheVariants.{BlockComment, Attribute}
use Rattle.verilog_words.specs.declared.mode.Directive.{Directive}
use Rattle.verilog_words.specs.declared.mode.Directive.TheVariants.{Timescale, DefaultNettype, Celldefine, Endcelldefine}
use Rattle.verilog_words.specs.Machine.{state, between, closer, directive_name, takes_line, is_whole, after_directive, enclosed, step, end, with_name, with_escaped, with_number, with_constant, with_parenthesis}
use Rattle.word_cutter.proofs.KeptWords.{kept_on, stayed_on}
use Rattle.verilog_words.proofs.Outcome.{outcome, same_place}
use Rattle.verilog_words.proofs.Runs.{named, name_one, escaped, escaped_one, numbered, number_one}
use Rattle.verilog_words.proofs.Bytes.{letter_not_blank, digit_not_blank, digit_not_letter, not_clings, no_quote, line_end_is_blank, line_end_ends_name, blank_not_escaped}

-- the same place, spelled otherwise, and the same words
same_between : (rest : List ℕ) (a b : ℕ) (v w : List Spanned) → a ≡ b → v ≡ w → outcome a (between v) rest ≡ outcome b (between w) rest
same_between rest a b v w e f = ap (λ (x : ℕ). outcome x (between v) rest) e ∙ ap (λ (x : List Spanned). outcome b (between x) rest) f

-- a name goes on, and ends

name_goes : (bs rest p : List ℕ) (at from : ℕ) (words : List Spanned) → AllByRecursion (λ c. IsTrue (is_name_byte c)) bs → length p + length bs ≤ 255 → outcome at (state words in_.Name from p) (bs ++ rest) ≡ outcome (at + length bs) (state words in_.Name from (p ++ bs)) rest
name_goes bs rest p at from words are short = kept_on step end _ 255 (named words from) (name_one words from) bs rest p at are short

name_ends : (rest p : List ℕ) (at from : ℕ) (words : List Spanned) → NotFirst is_name_byte rest → outcome at (state words in_.Name from p) rest ≡ outcome at (between (with_name words from p)) rest
name_ends [] p at from words ends = refl
name_ends (b ∷ rest) p at from words ends = ap (option_and_then (λ t. outcome (at + 1) t rest)) (cond-false (is_name_byte b) _ _ ends)

escaped_goes : (bs rest p : List ℕ) (at from : ℕ) (words : List Spanned) → AllByRecursion (λ c. IsTrue (is_escaped_byte c)) bs → length p + length bs ≤ 255 → outcome at (state words in_.Escaped from p) (bs ++ rest) ≡ outcome (at + length bs) (state words in_.Escaped from (p ++ bs)) rest
escaped_goes bs rest p at from words are short = kept_on step end _ 255 (escaped words from) (escaped_one words from) bs rest p at are short

escaped_ends : (b : ℕ) (rest p : List ℕ) (at from : ℕ) (words : List Spanned) → is_blank b ≡ true → 0 < length p → outcome at (state words in_.Escaped from p) (b ∷ rest) ≡ outcome (at + 1) (between (with_escaped words from p)) rest
escaped_ends b rest p at from words blank_is some =
    ap (option_and_then (λ t. outcome (at + 1) t rest)) (cond-false (is_escaped_byte b) _ _ (blank_not_escaped b blank_is) ∙ cond-true (is_blank b) _ _ blank_is ∙ cond-true (nat_lt 0 (length p)) _ _ (lt-ltb 0 (length p) some))

-- a number

number_goes : (bs rest p : List ℕ) (at from : ℕ) (words : List Spanned) → AllByRecursion (λ c. IsTrue (is_digit c)) bs → length p + length bs ≤ 9 → outcome at (state words in_.Number from p) (bs ++ rest) ≡ outcome (at + length bs) (state words in_.Number from (p ++ bs)) rest
number_goes bs rest p at from words are short = kept_on step end _ 9 (numbered words from) (number_one words from) bs rest p at are short

number_ends : (rest p : List ℕ) (at from : ℕ) (words : List Spanned) → NotFirst clings rest → outcome at (state words in_.Number from p) rest ≡ outcome at (between (with_number words from p)) rest
number_ends [] p at from words ends = refl
number_ends (b ∷ rest) p at from words ends =
    ap (option_and_then (λ t. outcome (at + 1) t rest)) (cond-false (is_digit b) _ _ (not_clings b ends) ∙ cond-false (b == 39) _ _ (no_quote b ends) ∙ cond-false (clings b) _ _ ends)

constant_ends : (value : Bool) (rest : List ℕ) (at from : ℕ) (words : List Spanned) → NotFirst clings rest → outcome at (state words (in_.Constant value) from []) rest ≡ outcome at (between (with_constant words from value)) rest
constant_ends value [] at from words ends = refl
constant_ends value (b ∷ rest) at from words ends = ap (option_and_then (λ t. outcome (at + 1) t rest)) (cond-false (clings b) _ _ ends)

constant_digit : (value : Bool) (rest : List ℕ) (at from : ℕ) (words : List Spanned) → outcome at (state words in_.Base from []) ((if value then 49 else 48) ∷ rest) ≡ outcome (at + 1) (state words (in_.Constant value) from []) rest
constant_digit true rest at from words = refl
constant_digit false rest at from words = refl

-- what goes up to the end of its line

line_goes : (bs rest : List ℕ) (at : ℕ) (words : List Spanned) → IsOneLine bs → outcome at (state words in_.Line 0 []) (bs ++ rest) ≡ outcome (at + length bs) (state words in_.Line 0 []) rest
line_goes bs rest at words are = stayed_on step end _ (state words in_.Line 0 []) (λ here b other. cond-false (b == 10) _ _ other) bs rest at are

line_ends : (rest : List ℕ) (at : ℕ) (words : List Spanned) → NotFirst (λ c. not (c == 10)) rest → outcome at (state words in_.Line 0 []) rest ≡ outcome at (between words) rest
line_ends [] at words ends = refl
line_ends (b ∷ rest) at words ends =
    let is_lf : (b == 10) ≡ true = not-false (b == 10) ends in
    ap (option_and_then (λ t. outcome (at + 1) t rest)) (cond-true (b == 10) _ _ is_lf ∙ sym (cond-true (is_blank b) _ _ (line_end_is_blank b is_lf)))

-- an enclosure, up to the star and the byte that close it

record Closed (e : Enclosure) (bs rest : List ℕ) : Type 0 where
  within : (at : ℕ) (words : List Spanned) → HoldsNoStarBefore (closer e) bs → outcome at (state words (in_.Enclosed e) 0 []) (bs ++ 42 ∷ closer e ∷ rest) ≡ outcome (at + length bs + 2) (between words) rest
  after_star : (at : ℕ) (words : List Spanned) → NotFirst (λ c. c == closer e) bs → HoldsNoStarBefore (closer e) bs → outcome at (state words (in_.EnclosedStar e) 0 []) (bs ++ 42 ∷ closer e ∷ rest) ≡ outcome (at + length bs + 2) (between words) rest

-- one byte more, where the rest closes
enclosed_byte : (e : Enclosure) (b : ℕ) (bs rest : List ℕ) → Closed e bs rest → (at : ℕ) (words : List Spanned) → HoldsNoStarBefore (closer e) (b ∷ bs) → option_and_then (λ t. outcome (at + 1) t (bs ++ 42 ∷ closer e ∷ rest)) (enclosed e words b) ≡ outcome (at + length (b ∷ bs) + 2) (between words) rest
enclosed_byte e b bs rest closed at words holds = elim (true_or_false (b == 42)) [
  | inl star ↦ ap (option_and_then (λ t. outcome (at + 1) t (bs ++ 42 ∷ closer e ∷ rest))) (cond-true (b == 42) _ _ star) ∙ closed.after_star (at + 1) words (holds.0 star) holds.1 ∙ same_place (between words) rest (at + 1 + length bs + 2) (at + length (b ∷ bs) + 2) (omega arith)
  | inr other ↦ ap (option_and_then (λ t. outcome (at + 1) t (bs ++ 42 ∷ closer e ∷ rest))) (cond-false (b == 42) _ _ other) ∙ closed.within (at + 1) words holds.1 ∙ same_place (between words) rest (at + 1 + length bs + 2) (at + length (b ∷ bs) + 2) (omega arith)
]

closed_at : (e : Enclosure) (rest : List ℕ) → Closed e [] rest
closed_at BlockComment rest = record {
  within = λ at words holds. same_place (between words) rest (at + 1 + 1) (at + 0 + 2) (omega arith);
  after_star = λ at words first holds. same_place (between words) rest (at + 1 + 1) (at + 0 + 2) (omega arith);
}
closed_at Attribute rest = record {
  within = λ at words holds. same_place (between words) rest (at + 1 + 1) (at + 0 + 2) (omega arith);
  after_star = λ at words first holds. same_place (between words) rest (at + 1 + 1) (at + 0 + 2) (omega arith);
}

enclosure_closes : (e : Enclosure) (bs rest : List ℕ) → Closed e bs rest
enclosure_closes e [] rest = closed_at e rest
enclosure_closes e (b ∷ bs) rest = record {
  within = enclosed_byte e b bs rest (enclosure_closes e bs rest);
  after_star = λ at words first holds. ap (option_and_then (λ t. outcome (at + 1) t (bs ++ 42 ∷ closer e ∷ rest))) (cond-false (b == closer e) _ _ first) ∙ enclosed_byte e b bs rest (enclosure_closes e bs rest) at words holds;
}

-- a directive's name, and what follows it

directive_goes : (d : Directive) (rest : List ℕ) (at : ℕ) (words : List Spanned) → outcome at (between words) (96 ∷ (directive_name d ++ rest)) ≡ outcome (at + (1 + length (directive_name d))) (state words (in_.Directive d) 0 (directive_name d)) rest
directive_goes Timescale rest at words = same_place (state words (in_.Directive Timescale) 0 (codes "timescale")) rest (at + 1 + 1 + 1 + 1 + 1 + 1 + 1 + 1 + 1 + 1) (at + (1 + length (codes "timescale"))) (omega arith)
directive_goes DefaultNettype rest at words = same_place (state words (in_.Directive DefaultNettype) 0 (codes "default_nettype")) rest (at + 1 + 1 + 1 + 1 + 1 + 1 + 1 + 1 + 1 + 1 + 1 + 1 + 1 + 1 + 1 + 1) (at + (1 + length (codes "default_nettype"))) (omega arith)
directive_goes Celldefine rest at words = same_place (state words (in_.Directive Celldefine) 0 (codes "celldefine")) rest (at + 1 + 1 + 1 + 1 + 1 + 1 + 1 + 1 + 1 + 1 + 1) (at + (1 + length (codes "celldefine"))) (omega arith)
directive_goes Endcelldefine rest at words = same_place (state words (in_.Directive Endcelldefine) 0 (codes "endcelldefine")) rest (at + 1 + 1 + 1 + 1 + 1 + 1 + 1 + 1 + 1 + 1 + 1 + 1 + 1 + 1) (at + (1 + length (codes "endcelldefine"))) (omega arith)

whole : (d : Directive) → is_whole d (directive_name d) ≡ true
whole Timescale = refl
whole DefaultNettype = refl
whole Celldefine = refl
whole Endcelldefine = refl

directive_step : (d : Directive) (at : ℕ) (words : List Spanned) (b : ℕ) → is_name_byte b ≡ false → step at (state words (in_.Directive d) 0 (directive_name d)) b ≡ after_directive (takes_line d) at words b
directive_step d at words b ends = cond-false (is_name_byte b) _ _ ends ∙ cond-true (is_whole d (directive_name d)) _ _ (whole d)

directive_end : (d : Directive) (words : List Spanned) → end (state words (in_.Directive d) 0 (directive_name d)) ≡ Some words
directive_end d words = cond-true (is_whole d (directive_name d)) _ _ (whole d)

bare_ends : (d : Directive) → takes_line d ≡ false → (rest : List ℕ) (at : ℕ) (words : List Spanned) → NotFirst is_name_byte rest → outcome at (state words (in_.Directive d) 0 (directive_name d)) rest ≡ outcome at (between words) rest
bare_ends d bare [] at words ends = directive_end d words
bare_ends d bare (b ∷ rest) at words ends = ap (option_and_then (λ t. outcome (at + 1) t rest)) (directive_step d at words b ends ∙ ap (λ (v : Bool). after_directive v at words b) bare)

directive_line : (d : Directive) → takes_line d ≡ true → (text rest : List ℕ) (at : ℕ) (words : List Spanned) → IsOneLine text → NotFirst is_name_byte text → NotFirst (λ c. not (c == 10)) rest → outcome at (state words (in_.Directive d) 0 (directive_name d)) (text ++ rest) ≡ outcome (at + length text) (between words) rest
directive_line d line [] [] at words one first ends = directive_end d words
directive_line d line [] (b ∷ rest) at words one first ends =
    let is_lf : (b == 10) ≡ true = not-false (b == 10) ends in
    ap (option_and_then (λ t. outcome (at + 1) t rest)) (directive_step d at words b (line_end_ends_name b is_lf) ∙ ap (λ (v : Bool). after_directive v at words b) line ∙ cond-true (b == 10) _ _ is_lf ∙ sym (cond-true (is_blank b) _ _ (line_end_is_blank b is_lf)))
    ∙ same_place (between words) (b ∷ rest) at (at + 0) (omega arith)
directive_line d line (c ∷ text) rest at words one first ends =
    ap (option_and_then (λ t. outcome (at + 1) t (text ++ rest))) (directive_step d at words c first ∙ ap (λ (v : Bool). after_directive v at words c) line ∙ cond-false (c == 10) _ _ one.0)
    ∙ line_goes text rest (at + 1) words one.1
    ∙ line_ends rest (at + 1 + length text) words ends
    ∙ same_place (between words) rest (at + 1 + length text) (at + length (c ∷ text)) (omega arith)

line_directive_through : (d : Directive) → takes_line d ≡ true → (name text rest : List ℕ) (at : ℕ) (words : List Spanned) → name ≡ directive_name d → IsOneLine text → NotFirst is_name_byte text → NotFirst (λ c. not (c == 10)) rest → outcome at (between words) (96 ∷ ((name ++ text) ++ rest)) ≡ outcome (at + length (96 ∷ (name ++ text))) (between words) rest
line_directive_through d line name text rest at words is one first ends =
    ap (λ (l : List ℕ). outcome at (between words) (96 ∷ l)) (append_assoc name text rest ∙ ap (λ (n : List ℕ). n ++ (text ++ rest)) is)
    ∙ directive_goes d (text ++ rest) at words
    ∙ directive_line d line text rest (at + (1 + length (directive_name d))) words one first ends
    ∙ same_place (between words) rest (at + (1 + length (directive_name d)) + length text) (at + length (96 ∷ (name ++ text))) (omega (arith, length-append name text, ap length is))

bare_directive_through : (d : Directive) → takes_line d ≡ false → (name rest : List ℕ) (at : ℕ) (words : List Spanned) → name ≡ directive_name d → NotFirst is_name_byte rest → outcome at (between words) (96 ∷ (name ++ rest)) ≡ outcome (at + length (96 ∷ name)) (between words) rest
bare_directive_through d bare name rest at words is ends =
    ap (λ (n : List ℕ). outcome at (between words) (96 ∷ (n ++ rest))) is
    ∙ directive_goes d rest at words
    ∙ bare_ends d bare rest (at + (1 + length (directive_name d))) words ends
    ∙ same_place (between words) rest (at + (1 + length (directive_name d))) (at + length (96 ∷ name)) (omega (arith, ap length is))

-- a symbol

parenthesis_ends : (rest : List ℕ) (at from : ℕ) (words : List Spanned) → NotFirst (λ c. c == 42) rest → outcome at (state words in_.Open from []) rest ≡ outcome at (between (with_parenthesis words from)) rest
parenthesis_ends [] at from words ends = refl
parenthesis_ends (b ∷ rest) at from words ends = ap (option_and_then (λ t. outcome (at + 1) t rest)) (cond-false (b == 42) _ _ ends)

symbol_through : (s : Symbol) (rest : List ℕ) (at : ℕ) (words : List Spanned) → EndsSymbol s rest → outcome at (between words) (symbol_byte s ∷ rest) ≡ outcome (at + 1) (between (words ++ spanned (word.Symbol s) at 1 ∷ [])) rest
symbol_through LeftParenthesis rest at words ends = parenthesis_ends rest (at + 1) at words ends
symbol_through RightParenthesis rest at words ends = refl
symbol_through LeftBracket rest at words ends = refl
symbol_through RightBracket rest at words ends = refl
symbol_through Colon rest at words ends = refl
symbol_through Comma rest at words ends = refl
symbol_through Semicolon rest at words ends = refl
symbol_through Dot rest at words ends = refl
symbol_through Equals rest at words ends = refl

-- the machine goes through a piece
through : (p : Piece) (rest : List ℕ) (at : ℕ) (words : List Spanned) → IsPiece p → Ends p rest → outcome at (between words) (spelling p ++ rest) ≡ outcome (at + length (spelling p)) (between (words ++ word_at at p)) rest
through (blank b) rest at words is ends =
    ap (option_and_then (λ t. outcome (at + 1) t rest)) (cond-true (is_blank b) _ _ is)
    ∙ same_between rest (at + 1) (at + 1) words (words ++ []) refl (sym (append-nil words))
through (line_comment bytes) rest at words is ends =
    line_goes bytes rest (at + 1 + 1) words is
    ∙ line_ends rest (at + 1 + 1 + length bytes) words ends
    ∙ same_between rest (at + 1 + 1 + length bytes) (at + length (spelling (line_comment bytes))) words (words ++ []) (omega arith) (sym (append-nil words))
through (block_comment bytes) rest at words is ends =
    ap (λ (l : List ℕ). outcome (at + 1 + 1) (state words (in_.Enclosed BlockComment) 0 []) l) (append_assoc bytes (42 ∷ 47 ∷ []) rest)
    ∙ (enclosure_closes BlockComment bytes rest).within (at + 1 + 1) words is
    ∙ same_between rest (at + 1 + 1 + length bytes + 2) (at + length (spelling (block_comment bytes))) words (words ++ []) (omega (arith, length-append bytes (42 ∷ 47 ∷ []))) (sym (append-nil words))
through (attribute bytes) rest at words is ends =
    ap (λ (l : List ℕ). outcome (at + 1 + 1) (state words (in_.Enclosed Attribute) 0 []) l) (append_assoc bytes (42 ∷ 41 ∷ []) rest)
    ∙ (enclosure_closes Attribute bytes rest).within (at + 1 + 1) words is
    ∙ same_between rest (at + 1 + 1 + length bytes + 2) (at + length (spelling (attribute bytes))) words (words ++ []) (omega (arith, length-append bytes (42 ∷ 41 ∷ []))) (sym (append-nil words))
through (line_directive name text) rest at words is ends =
    elim is.0 [
      | inl e ↦ line_directive_through Timescale refl name text rest at words e is.1 is.2 ends
      | inr e ↦ line_directive_through DefaultNettype refl name text rest at words e is.1 is.2 ends
    ]
    ∙ same_between rest (at + length (96 ∷ (name ++ text))) (at + length (96 ∷ (name ++ text))) words (words ++ []) refl (sym (append-nil words))
through (bare_directive name) rest at words is ends =
    elim is [
      | inl e ↦ bare_directive_through Celldefine refl name rest at words e ends
      | inr e ↦ bare_directive_through Endcelldefine refl name rest at words e ends
    ]
    ∙ same_between rest (at + length (96 ∷ name)) (at + length (96 ∷ name)) words (words ++ []) refl (sym (append-nil words))
through (simple_name []) rest at words is ends = absurd is
through (simple_name (b ∷ bs)) rest at words is ends =
    ap (option_and_then (λ t. outcome (at + 1) t (bs ++ rest))) (cond-false (is_blank b) _ _ (letter_not_blank b is.0) ∙ cond-true (is_letter b) _ _ is.0)
    ∙ name_goes bs rest (b ∷ []) (at + 1) at words is.1 (omega arith)
    ∙ name_ends rest (b ∷ bs) (at + 1 + length bs) at words ends
    ∙ same_place (between (with_name words at (b ∷ bs))) rest (at + 1 + length bs) (at + length (b ∷ bs)) (omega arith)
through (escaped_name bytes b) rest at words is ends =
    ap (λ (l : List ℕ). outcome (at + 1) (state words in_.Escaped at []) l) (append_assoc bytes (b ∷ []) rest)
    ∙ escaped_goes bytes (b ∷ rest) [] (at + 1) at words is.0.2 (omega (arith, is.0.1))
    ∙ escaped_ends b rest bytes (at + 1 + length bytes) at words is.1 is.0.0
    ∙ same_place (between (with_escaped words at bytes)) rest (at + 1 + length bytes + 1) (at + length (spelling (escaped_name bytes b))) (omega (arith, length-append bytes (b ∷ [])))
through (number []) rest at words is ends = absurd (omega (arith, is.0))
through (number (b ∷ bs)) rest at words is ends =
    ap (option_and_then (λ t. outcome (at + 1) t (bs ++ rest))) (cond-false (is_blank b) _ _ (digit_not_blank b is.2.0) ∙ cond-false (is_letter b) _ _ (digit_not_letter b is.2.0) ∙ cond-true (is_digit b) _ _ is.2.0)
    ∙ number_goes bs rest (b ∷ []) (at + 1) at words is.2.1 (omega (arith, is.1))
    ∙ number_ends rest (b ∷ bs) (at + 1 + length bs) at words ends
    ∙ same_place (between (with_number words at (b ∷ bs))) rest (at + 1 + length bs) (at + length (b ∷ bs)) (omega arith)
through (constant base value) rest at words is ends =
    ap (option_and_then (λ t. outcome (at + 1 + 1 + 1) t ((if value then 49 else 48) ∷ rest))) (cond-true (is_base base) _ _ is)
    ∙ constant_digit value rest (at + 1 + 1 + 1) at words
    ∙ constant_ends value rest (at + 1 + 1 + 1 + 1) at words ends
    ∙ same_place (between (with_constant words at value)) rest (at + 1 + 1 + 1 + 1) (at + 4) (omega arith)
through (symbol s) rest at words is ends = symbol_through s rest at words ends

-- and through all of them
pub complete : (ps : List Piece) (at : ℕ) (words : List Spanned) → ArePieces ps → outcome at (between words) (text_of ps) ≡ Some (words ++ words_from at ps)
complete [] at words are = ap Some (sym (append-nil words))
complete (p ∷ ps) at words are =
    through p (text_of ps) at words are.0 are.1
    ∙ complete ps (at + length (spelling p)) (words ++ word_at at p) are.2
    ∙ ap (λ (x : List Spanned). Some x) (append_assoc words (word_at at p) (words_from (at + length (spelling p)) ps))
