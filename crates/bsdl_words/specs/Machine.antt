use Rattle.std.specs.Prelude.{ℕ, ◌+◌, List, [], ◌∷◌, ◌++◌, length, Option, Some, None, if◌then◌else◌, ◌==◌, nat_lt, nat_le}
use Rattle.std.specs.Option.{option_map}
use Rattle.bsdl_lexicon.specs.declared.token.BsdlToken.TheVariants as word
use Rattle.bsdl_lexicon.specs.declared.token.BsdlSpanned.{BsdlSpanned}
use Rattle.bsdl_lexicon.specs.declared.symbol.BsdlSymbol.{BsdlSymbol}
use Rattle.bsdl_lexicon.specs.declared.symbol.BsdlSymbol.TheVariants.{LeftParenthesis, RightParenthesis, Colon, Semicolon, Comma, Ampersand, Dot}
use Rattle.bsdl_lexicon.specs.Bytes.{is_blank, is_letter, is_digit, is_letter_or_digit, is_name_byte, is_exponent_mark, is_sign, is_quotable}
use Rattle.bsdl_lexicon.specs.declared.words.BsdlWords.{BsdlWords}
use Rattle.bsdl_lexicon.specs.Words.{spanned}
use Rattle.bsdl_lexicon.specs.Pieces.{value_from}
use Rattle.bsdl_words.specs.declared.mode.Mode.{Mode}
use Rattle.bsdl_words.specs.declared.mode.Mode.TheVariants as in_

-- A machine that takes a text byte by byte (own). It says how the cutter goes; what it gives is stated by pieces alone.

-- the words so far, what was begun of the next piece, its offset where the piece is a word, and its bytes
-- where they are needed
pub record State : Type 0 where
  pub words : List BsdlSpanned
  pub mode : Mode
  pub from : ℕ
  pub pending : List ℕ

abbrev pub state : List BsdlSpanned → Mode → ℕ → List ℕ → State
state words mode from pending = record { words = words; mode = mode; from = from; pending = pending }

-- between two pieces
abbrev pub between : List BsdlSpanned → State
between words = state words in_.Between 0 []

abbrev pub start : State
start = between []

-- the symbol of a byte, other than `:`
abbrev pub symbol_with : ℕ → Option BsdlSymbol
symbol_with b =
    if b == 40 then Some LeftParenthesis else
    if b == 41 then Some RightParenthesis else
    if b == 59 then Some Semicolon else
    if b == 44 then Some Comma else
    if b == 38 then Some Ampersand else
    if b == 46 then Some Dot else None

-- a byte at this place begins a piece
abbrev pub begin : ℕ → List BsdlSpanned → ℕ → Option State
begin at words b =
    if is_blank b then Some (between words) else
    if is_letter b then Some (state words in_.Name at (b ∷ [])) else
    if is_digit b then Some (state words in_.Digits at (b ∷ [])) else
    if b == 34 then Some (state words in_.Quoted at []) else
    if b == 45 then Some (state words in_.Dash 0 []) else
    if b == 58 then Some (state words in_.Colon at []) else
    option_map (λ s. between (words ++ spanned (word.Symbol s) at 1 ∷ [])) (symbol_with b)

-- the words once the piece that was begun is whole

abbrev pub with_name : List BsdlSpanned → ℕ → List ℕ → List BsdlSpanned
with_name words from pending = words ++ spanned (word.Name pending) from (length pending) ∷ []

abbrev pub with_integer : List BsdlSpanned → ℕ → List ℕ → List BsdlSpanned
with_integer words from pending = words ++ spanned (word.Integer (value_from 0 pending)) from (length pending) ∷ []

abbrev pub with_real : List BsdlSpanned → ℕ → List ℕ → List BsdlSpanned
with_real words from pending = words ++ spanned (word.Real pending) from (length pending) ∷ []

abbrev pub with_quoted : List BsdlSpanned → ℕ → List ℕ → List BsdlSpanned
with_quoted words from pending = words ++ spanned (word.Quoted pending) from (length pending + 2) ∷ []

abbrev pub with_colon : List BsdlSpanned → ℕ → List BsdlSpanned
with_colon words from = words ++ spanned (word.Symbol Colon) from 1 ∷ []

abbrev pub with_becomes : List BsdlSpanned → ℕ → List BsdlSpanned
with_becomes words from = words ++ spanned word.Becomes from 2 ∷ []

-- up to the end of the line
abbrev pub in_comment : List BsdlSpanned → ℕ → Option State
in_comment words b = if b == 10 then Some (between words) else Some (state words in_.Comment 0 [])

-- a byte that may go on in a name: `_` needs room for one byte more
abbrev pub name_goes : List BsdlSpanned → ℕ → List ℕ → ℕ → Option State
name_goes words from pending b =
    if b == 95 then (if nat_lt (length pending) 254 then Some (state words in_.Underscore from (pending ++ b ∷ [])) else None) else
    if nat_lt (length pending) 255 then Some (state words in_.Name from (pending ++ b ∷ [])) else None

-- a byte after the digits of a real number, which may end here
abbrev pub real_ends : ℕ → List BsdlSpanned → ℕ → List ℕ → ℕ → Option State
real_ends at words from pending b = if is_name_byte b then None else begin at (with_real words from pending) b

abbrev pub step_in : Mode → ℕ → List BsdlSpanned → ℕ → List ℕ → ℕ → Option State
step_in in_.Between at words from pending b = begin at words b
step_in in_.Dash at words from pending b = if b == 45 then Some (state words in_.Comment 0 []) else None
step_in in_.Comment at words from pending b = in_comment words b
step_in in_.Colon at words from pending b =
    if b == 61 then Some (between (with_becomes words from)) else begin at (with_colon words from) b
step_in in_.Name at words from pending b =
    if is_name_byte b then name_goes words from pending b else begin at (with_name words from pending) b
step_in in_.Underscore at words from pending b =
    if is_letter_or_digit b then Some (state words in_.Name from (pending ++ b ∷ [])) else None
step_in in_.Digits at words from pending b =
    if is_digit b then (if nat_lt (length pending) 30 then Some (state words in_.Digits from (pending ++ b ∷ [])) else None) else
    if b == 46 then Some (state words in_.Point from (pending ++ b ∷ [])) else
    if is_name_byte b then None else
    if nat_le (length pending) 9 then begin at (with_integer words from pending) b else None
step_in in_.Point at words from pending b =
    if is_digit b then Some (state words in_.Fraction from (pending ++ b ∷ [])) else None
step_in in_.Fraction at words from pending b =
    if is_digit b then (if nat_lt (length pending) 32 then Some (state words in_.Fraction from (pending ++ b ∷ [])) else None) else
    if is_exponent_mark b then (if nat_lt (length pending) 31 then Some (state words in_.Exponent from (pending ++ b ∷ [])) else None) else
    real_ends at words from pending b
step_in in_.Exponent at words from pending b =
    if is_digit b then Some (state words in_.Power from (pending ++ b ∷ [])) else
    if is_sign b then (if nat_lt (length pending) 31 then Some (state words in_.Sign from (pending ++ b ∷ [])) else None) else None
step_in in_.Sign at words from pending b =
    if is_digit b then Some (state words in_.Power from (pending ++ b ∷ [])) else None
step_in in_.Power at words from pending b =
    if is_digit b then (if nat_lt (length pending) 32 then Some (state words in_.Power from (pending ++ b ∷ [])) else None) else
    real_ends at words from pending b
step_in in_.Quoted at words from pending b =
    if b == 34 then Some (between (with_quoted words from pending)) else
    if is_quotable b then Some (state words in_.Quoted from (pending ++ b ∷ [])) else None

abbrev pub step : ℕ → State → ℕ → Option State
step at s b = step_in s.mode at s.words s.from s.pending b

-- the words of a text that ends here
abbrev pub end_in : Mode → List BsdlSpanned → ℕ → List ℕ → Option (List BsdlSpanned)
end_in in_.Between words from pending = Some words
end_in in_.Dash words from pending = None
end_in in_.Comment words from pending = Some words
end_in in_.Colon words from pending = Some (with_colon words from)
end_in in_.Name words from pending = Some (with_name words from pending)
end_in in_.Underscore words from pending = None
end_in in_.Digits words from pending = if nat_le (length pending) 9 then Some (with_integer words from pending) else None
end_in in_.Point words from pending = None
end_in in_.Fraction words from pending = Some (with_real words from pending)
end_in in_.Exponent words from pending = None
end_in in_.Sign words from pending = None
end_in in_.Power words from pending = Some (with_real words from pending)
end_in in_.Quoted words from pending = None

abbrev pub end : State → Option (List BsdlSpanned)
end s = end_in s.mode s.words s.from s.pending

-- these words and the text's length, where it ends at this place
abbrev pub text_at : ℕ → State → Option BsdlWords
text_at at s = option_map (λ words. record { list = words; end = at }) (end s)
