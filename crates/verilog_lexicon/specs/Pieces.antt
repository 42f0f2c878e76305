use Rattle.std.specs.Prelude.{◌≡◌, ℕ, ◌+◌, ◌-◌, ◌*◌, ◌<◌, ◌≤◌, List, [], ◌∷◌, ◌++◌, length, take, IsTrue, Bool, not, ◌==◌, ◌⊎◌, if◌then◌else◌, codes}
use Rattle.std.specs.Bool.{IsFalse}
use Rattle.std.specs.List.{AllByRecursion}
use Rattle.verilog_lexicon.specs.declared.word.Word.TheVariants as word
use Rattle.verilog_lexicon.specs.declared.word.Spanned.{Spanned}
use Rattle.verilog_lexicon.specs.declared.symbol.Symbol.{Symbol}
use Rattle.verilog_lexicon.specs.declared.symbol.Symbol.TheVariants.{LeftParenthesis, RightParenthesis, LeftBracket, RightBracket, Colon, Comma, Semicolon, Dot, Equals}
use Rattle.verilog_lexicon.specs.Keywords.{name_word}
use Rattle.verilog_lexicon.specs.Bytes.{is_blank, is_letter, is_digit, is_name_byte, clings, is_escaped_byte, is_base}
use Rattle.verilog_lexicon.specs.Words.{spanned, symbol_byte}

-- The word grammar (IEEE Std 1364-2001, lexical conventions and compiler directives, of which the
-- profile takes a part).

-- what a text is cut into
pub data Piece : Type 0 where
  -- one byte of white space
  blank : ℕ → Piece
  -- `//` and these bytes
  line_comment : List ℕ → Piece
  -- `/*`, these bytes and `*/`
  block_comment : List ℕ → Piece
  -- `(*`, these bytes and `*)`
  attribute : List ℕ → Piece
  -- a backquote, the directive's name, and the rest of its line
  line_directive : List ℕ → List ℕ → Piece
  -- a backquote and the directive's name
  bare_directive : List ℕ → Piece
  simple_name : List ℕ → Piece
  -- `\`, the name and one byte of white space
  escaped_name : List ℕ → ℕ → Piece
  number : List ℕ → Piece
  -- `1'`, this base, and a digit with this value
  constant : ℕ → Bool → Piece
  symbol : Symbol → Piece

abbrev pub spelling : Piece → List ℕ
spelling (blank b) = b ∷ []
spelling (line_comment bytes) = 47 ∷ 47 ∷ bytes
spelling (block_comment bytes) = 47 ∷ 42 ∷ (bytes ++ 42 ∷ 47 ∷ [])
spelling (attribute bytes) = 40 ∷ 42 ∷ (bytes ++ 42 ∷ 41 ∷ [])
spelling (line_directive name text) = 96 ∷ (name ++ text)
spelling (bare_directive name) = 96 ∷ name
spelling (simple_name bytes) = bytes
spelling (escaped_name bytes b) = 92 ∷ (bytes ++ b ∷ [])
spelling (number digits) = digits
spelling (constant base value) = 49 ∷ 39 ∷ base ∷ (if value then 49 else 48) ∷ []
spelling (symbol s) = symbol_byte s ∷ []

-- the text is empty, or its first byte doesn't pass the test
abbrev pub NotFirst : (ℕ → Bool) → List ℕ → Type 0
NotFirst test [] = Unit {0}
NotFirst test (b ∷ rest) = IsFalse (test b)

-- no star is followed by this byte
abbrev pub HoldsNoStarBefore : ℕ → List ℕ → Type 0
HoldsNoStarBefore last [] = Unit {0}
HoldsNoStarBefore last (b ∷ bytes) = (IsTrue (b == 42) → NotFirst (λ c. c == last) bytes) × HoldsNoStarBefore last bytes

-- no line ends within the bytes
abbrev pub IsOneLine : List ℕ → Type 0
IsOneLine bytes = AllByRecursion (λ c. IsFalse (c == 10)) bytes

-- a directive that takes the rest of its line
abbrev pub TakesLine : List ℕ → Type 0
TakesLine name = (name ≡ codes "timescale") ⊎ (name ≡ codes "default_nettype")

-- a directive that is its name alone
abbrev pub StandsAlone : List ℕ → Type 0
StandsAlone name = (name ≡ codes "celldefine") ⊎ (name ≡ codes "endcelldefine")

-- a letter or `_`, then letters, digits, `_` and `$`; at most 255 bytes
abbrev pub IsName : List ℕ → Type 0
IsName [] = ⊥
IsName (b ∷ bytes) = IsTrue (is_letter b) × AllByRecursion (λ c. IsTrue (is_name_byte c)) bytes × (length bytes < 255)

-- 1 to 255 bytes, each of which prints and is no blank
abbrev pub IsEscapedName : List ℕ → Type 0
IsEscapedName bytes = (0 < length bytes) × (length bytes ≤ 255) × AllByRecursion (λ c. IsTrue (is_escaped_byte c)) bytes

-- 1 to 9 digits
abbrev pub IsNumber : List ℕ → Type 0
IsNumber digits = (0 < length digits) × (length digits ≤ 9) × AllByRecursion (λ c. IsTrue (is_digit c)) digits

abbrev pub IsPiece : Piece → Type 0
IsPiece (blank b) = IsTrue (is_blank b)
IsPiece (line_comment bytes) = IsOneLine bytes
IsPiece (block_comment bytes) = HoldsNoStarBefore 47 bytes
IsPiece (attribute bytes) = HoldsNoStarBefore 41 bytes
IsPiece (line_directive name text) = TakesLine name × IsOneLine text × NotFirst is_name_byte text
IsPiece (bare_directive name) = StandsAlone name
IsPiece (simple_name bytes) = IsName bytes
IsPiece (escaped_name bytes b) = IsEscapedName bytes × IsTrue (is_blank b)
IsPiece (number digits) = IsNumber digits
IsPiece (constant base value) = IsTrue (is_base base)
IsPiece (symbol s) = Unit {0}

-- what may follow a symbol: no star after `(`, since the two begin an attribute
abbrev pub EndsSymbol : Symbol → List ℕ → Type 0
EndsSymbol LeftParenthesis rest = NotFirst (λ c. c == 42) rest
EndsSymbol RightParenthesis rest = Unit {0}
EndsSymbol LeftBracket rest = Unit {0}
EndsSymbol RightBracket rest = Unit {0}
EndsSymbol Colon rest = Unit {0}
EndsSymbol Comma rest = Unit {0}
EndsSymbol Semicolon rest = Unit {0}
EndsSymbol Dot rest = Unit {0}
EndsSymbol Equals rest = Unit {0}

-- Each piece is as long as it can be: what comes after it doesn't go on with it.
abbrev pub Ends : Piece → List ℕ → Type 0
Ends (blank b) rest = Unit {0}
Ends (line_comment bytes) rest = NotFirst (λ c. not (c == 10)) rest
Ends (block_comment bytes) rest = Unit {0}
Ends (attribute bytes) rest = Unit {0}
Ends (line_directive name text) rest = NotFirst (λ c. not (c == 10)) rest
Ends (bare_directive name) rest = NotFirst is_name_byte rest
Ends (simple_name bytes) rest = NotFirst is_name_byte rest
Ends (escaped_name bytes b) rest = Unit {0}
Ends (number digits) rest = NotFirst clings rest
Ends (constant base value) rest = NotFirst clings rest
Ends (symbol s) rest = EndsSymbol s rest

-- the text of pieces
abbrev pub text_of : List Piece → List ℕ
text_of [] = []
text_of (p ∷ ps) = spelling p ++ text_of ps

-- each piece is one of the grammar, and ends where it ends
abbrev pub ArePieces : List Piece → Type 0
ArePieces [] = Unit {0}
ArePieces (p ∷ ps) = IsPiece p × Ends p (text_of ps) × ArePieces ps

-- the value of decimal digits, after a number that was read before
abbrev pub value_from : ℕ → List ℕ → ℕ
value_from n [] = n
value_from n (d ∷ ds) = value_from (10 * n + (d - 48)) ds

-- the word that a piece at this place is, with its place in the text and its length
abbrev pub word_at : ℕ → Piece → List Spanned
word_at at (blank b) = []
word_at at (line_comment bytes) = []
word_at at (block_comment bytes) = []
word_at at (attribute bytes) = []
word_at at (line_directive name text) = []
word_at at (bare_directive name) = []
word_at at (simple_name bytes) = spanned (name_word bytes) at (length bytes) ∷ []
word_at at (escaped_name bytes b) = spanned (word.Name bytes) at (length bytes + 2) ∷ []
word_at at (number digits) = spanned (word.Number (value_from 0 digits)) at (length digits) ∷ []
word_at at (constant base value) = spanned (word.Const value) at 4 ∷ []
word_at at (symbol s) = spanned (word.Symbol s) at 1 ∷ []

-- the words among the pieces
abbrev pub words_from : ℕ → List Piece → List Spanned
words_from at [] = []
words_from at (p ∷ ps) = word_at at p ++ words_from (at + length (spelling p)) ps

-- From this offset on, the bytes are these words.
pub record CutFrom (at : ℕ) (bytes : List ℕ) (words : List Spanned) : Type 0 where
  pub pieces : List Piece
  pub are : ArePieces pieces
  pub text : bytes ≡ text_of pieces
  pub words_are : words ≡ words_from at pieces

-- The bytes are these words.
abbrev pub words_of : List ℕ → List Spanned → Type 0
words_of bytes words = CutFrom 0 bytes words

-- some text of the word grammar begins with these bytes
abbrev pub Begins : List ℕ → Type 0
Begins bytes = (more : List ℕ) × (words : List Spanned) × words_of (bytes ++ more) words

-- the greatest place, up to the text's length, such that some text of the word grammar begins with the bytes before it
pub record IsPlace (bytes : List ℕ) (place : ℕ) : Type 0 where
  pub within : place ≤ length bytes
  pub begins : Begins (take place bytes)
  pub greatest : (q : ℕ) → place < q → q ≤ length bytes → Begins (take q bytes) → ⊥
