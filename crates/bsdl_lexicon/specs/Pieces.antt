use Rattle.std.specs.Prelude.{◌≡◌, ℕ, ◌+◌, ◌-◌, ◌*◌, ◌<◌, ◌≤◌, List, [], ◌∷◌, ◌++◌, length, take, IsTrue, Bool, not, ◌==◌, ◌⊎◌}
use Rattle.std.specs.Bool.{IsFalse}
use Rattle.std.specs.List.{AllByRecursion}
use Rattle.bsdl_lexicon.specs.declared.token.BsdlToken.TheVariants as word
use Rattle.bsdl_lexicon.specs.declared.token.BsdlSpanned.{BsdlSpanned}
use Rattle.bsdl_lexicon.specs.declared.symbol.BsdlSymbol.{BsdlSymbol}
use Rattle.bsdl_lexicon.specs.declared.symbol.BsdlSymbol.TheVariants.{LeftParenthesis, RightParenthesis, Colon, Semicolon, Comma, Ampersand, Dot}
use Rattle.bsdl_lexicon.specs.Bytes.{is_blank, is_letter, is_digit, is_letter_or_digit, is_name_byte, clings, is_exponent_mark, is_sign, is_quotable}
use Rattle.bsdl_lexicon.specs.Words.{spanned, symbol_byte}

-- The word grammar (VHDL-93, lexical elements, of which the profile takes a part; the limits on lengths are own).

-- what a text is cut into
pub data Piece : Type 0 where
  -- one byte of white space
  blank : ℕ → Piece
  -- `--` and these bytes
  comment : List ℕ → Piece
  identifier : List ℕ → Piece
  integer : List ℕ → Piece
  real : List ℕ → Piece
  -- these bytes between two quotes
  quoted : List ℕ → Piece
  symbol : BsdlSymbol → Piece
  -- `:=`
  becomes : Piece

abbrev pub spelling : Piece → List ℕ
spelling (blank b) = b ∷ []
spelling (comment bytes) = 45 ∷ 45 ∷ bytes
spelling (identifier bytes) = bytes
spelling (integer digits) = digits
spelling (real bytes) = bytes
spelling (quoted bytes) = 34 ∷ (bytes ++ 34 ∷ [])
spelling (symbol s) = symbol_byte s ∷ []
spelling becomes = 58 ∷ 61 ∷ []

-- the text is empty, or its first byte doesn't pass the test
abbrev pub NotFirst : (ℕ → Bool) → List ℕ → Type 0
NotFirst test [] = Unit {0}
NotFirst test (b ∷ rest) = IsFalse (test b)

-- the first byte is there and passes the test
abbrev pub IsFirst : (ℕ → Bool) → List ℕ → Type 0
IsFirst test [] = ⊥
IsFirst test (b ∷ rest) = IsTrue (test b)

-- no line ends within the bytes
abbrev pub IsOneLine : List ℕ → Type 0
IsOneLine bytes = AllByRecursion (λ c. IsFalse (c == 10)) bytes

-- each `_` is followed by a letter or a digit: it stands single, and not at the end
abbrev pub HasSingleUnderscores : List ℕ → Type 0
HasSingleUnderscores [] = Unit {0}
HasSingleUnderscores (b ∷ bytes) = (IsTrue (b == 95) → IsFirst is_letter_or_digit bytes) × HasSingleUnderscores bytes

-- a letter, then letters, digits and single `_`, the last not `_`; at most 255 bytes
abbrev pub IsIdentifier : List ℕ → Type 0
IsIdentifier [] = ⊥
IsIdentifier (b ∷ bytes) = IsTrue (is_letter b) × AllByRecursion (λ c. IsTrue (is_name_byte c)) bytes × HasSingleUnderscores bytes × (length bytes < 255)

-- one digit or more
abbrev pub AreDigits : List ℕ → Type 0
AreDigits digits = (0 < length digits) × AllByRecursion (λ c. IsTrue (is_digit c)) digits

-- 1 to 9 digits
abbrev pub IsInteger : List ℕ → Type 0
IsInteger digits = AreDigits digits × (length digits ≤ 9)

-- digits, or a sign and digits
abbrev pub IsPower : List ℕ → Type 0
IsPower [] = ⊥
IsPower (c ∷ bytes) = AreDigits (c ∷ bytes) ⊎ (IsTrue (is_sign c) × AreDigits bytes)

-- nothing, or `e` or `E`, an optional sign and digits
abbrev pub IsExponent : List ℕ → Type 0
IsExponent [] = Unit {0}
IsExponent (e ∷ power) = IsTrue (is_exponent_mark e) × IsPower power

-- digits, `.`, digits and an optional exponent; at most 32 bytes
pub record IsReal (bytes : List ℕ) : Type 0 where
  pub whole : List ℕ
  pub fraction : List ℕ
  pub exponent : List ℕ
  pub text : bytes ≡ whole ++ 46 ∷ (fraction ++ exponent)
  pub whole_digits : AreDigits whole
  pub fraction_digits : AreDigits fraction
  pub exponent_is : IsExponent exponent
  pub short : length bytes ≤ 32

abbrev pub IsPiece : Piece → Type 0
IsPiece (blank b) = IsTrue (is_blank b)
IsPiece (comment bytes) = IsOneLine bytes
IsPiece (identifier bytes) = IsIdentifier bytes
IsPiece (integer digits) = IsInteger digits
IsPiece (real bytes) = IsReal bytes
IsPiece (quoted bytes) = AllByRecursion (λ c. IsTrue (is_quotable c)) bytes
IsPiece (symbol s) = Unit {0}
IsPiece becomes = Unit {0}

-- what may follow a symbol: no `=` after `:`, since the two are one word
abbrev pub EndsSymbol : BsdlSymbol → List ℕ → Type 0
EndsSymbol LeftParenthesis rest = Unit {0}
EndsSymbol RightParenthesis rest = Unit {0}
EndsSymbol Colon rest = NotFirst (λ c. c == 61) rest
EndsSymbol Semicolon rest = Unit {0}
EndsSymbol Comma rest = Unit {0}
EndsSymbol Ampersand rest = Unit {0}
EndsSymbol Dot rest = Unit {0}

-- Each piece is as long as it can be: what comes after it doesn't go on with it.
abbrev pub Ends : Piece → List ℕ → Type 0
Ends (blank b) rest = Unit {0}
Ends (comment bytes) rest = NotFirst (λ c. not (c == 10)) rest
Ends (identifier bytes) rest = NotFirst is_name_byte rest
Ends (integer digits) rest = NotFirst clings rest
Ends (real bytes) rest = NotFirst is_name_byte rest
Ends (quoted bytes) rest = Unit {0}
Ends (symbol s) rest = EndsSymbol s rest
Ends becomes rest = Unit {0}

-- the text of pieces
abbrev pub text_of : List Piece → List ℕ
text_of [] = []
text_of (p ∷ ps) = spelling p ++ text_of ps

-- each piece is one of the grammar, and ends where it ends
abbrev pub ArePieces : List Piece → Type 0
ArePieces [] = Unit {0}
ArePieces (p ∷ ps) = IsPiece p × Ends p (text_of ps) × ArePieces ps

-- the value of decimal digits, after a number that was read before
abbrev pub value_from : ℕ → List ℕ → ℕ
value_from n [] = n
value_from n (d ∷ ds) = value_from (10 * n + (d - 48)) ds

-- the word that a piece at this place is, with its place in the text and its length
abbrev pub word_at : ℕ → Piece → List BsdlSpanned
word_at at (blank b) = []
word_at at (comment bytes) = []
word_at at (identifier bytes) = spanned (word.Name bytes) at (length bytes) ∷ []
word_at at (integer digits) = spanned (word.Integer (value_from 0 digits)) at (length digits) ∷ []
word_at at (real bytes) = spanned (word.Real bytes) at (length bytes) ∷ []
word_at at (quoted bytes) = spanned (word.Quoted bytes) at (length bytes + 2) ∷ []
word_at at (symbol s) = spanned (word.Symbol s) at 1 ∷ []
word_at at becomes = spanned word.Becomes at 2 ∷ []

-- the words among the pieces
abbrev pub words_from : ℕ → List Piece → List BsdlSpanned
words_from at [] = []
words_from at (p ∷ ps) = word_at at p ++ words_from (at + length (spelling p)) ps

-- From this offset on, the bytes are these words.
pub record CutFrom (at : ℕ) (bytes : List ℕ) (words : List BsdlSpanned) : Type 0 where
  pub pieces : List Piece
  pub are : ArePieces pieces
  pub text : bytes ≡ text_of pieces
  pub words_are : words ≡ words_from at pieces

-- The bytes are these words.
abbrev pub words_of : List ℕ → List BsdlSpanned → Type 0
words_of bytes words = CutFrom 0 bytes words

-- some text of the word grammar begins with these bytes
abbrev pub Begins : List ℕ → Type 0
Begins bytes = (more : List ℕ) × (words : List BsdlSpanned) × words_of (bytes ++ more) words

-- the greatest place, up to the text's length, such that some text of the word grammar begins with the bytes before it
pub record IsPlace (bytes : List ℕ) (place : ℕ) : Type 0 where
  pub within : place ≤ length bytes
  pub begins : Begins (take place bytes)
  pub greatest : (q : ℕ) → place < q → q ≤ length bytes → Begins (take q bytes) → ⊥
