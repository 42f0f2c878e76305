-- Lists of words, and what a reader that goes through one sees of its first word.
use Rattle.std.specs.Prelude.{ℕ, List, [], ◌∷◌, ◌++◌, map, slice_get, Option, Some, None, Bool, ◌==◌, if◌then◌else◌}
use Rattle.std.specs.Option.{option_map_or}
use Rattle.verilog_lexicon.specs.declared.word.Word.{Word}
use Rattle.verilog_lexicon.specs.declared.word.Word.TheVariants as word
use Rattle.verilog_lexicon.specs.declared.word.Spanned.{Spanned}
use Rattle.verilog_lexicon.specs.declared.reserved.Reserved.{Reserved}
use Rattle.verilog_lexicon.specs.declared.symbol.Symbol.{Symbol}
use Rattle.verilog_lexicon.specs.declared.symbol.Symbol.TheVariants.{LeftParenthesis, RightParenthesis, LeftBracket, RightBracket, Colon, Comma, Semicolon, Dot, Equals}

-- the words of a text in order, and its length in bytes
pub record WordText : Type 0 where
  pub list : List Spanned
  pub end : ℕ

-- a word with its place in the text and its length
abbrev pub spanned : Word → ℕ → ℕ → Spanned
spanned word at len = record { word = word; at = at; len = len }

-- one word more
abbrev pub with_word : WordText → Spanned → WordText
with_word text s = record { list = text.list ++ s ∷ []; end = text.end }

-- the place of the word of this number, or the text's end where there is none
abbrev pub place_in : WordText → ℕ → ℕ
place_in text number = option_map_or (λ s. s.at) (slice_get text.list number) text.end

-- the words without their places
abbrev pub plain : List Spanned → List Word
plain words = map (λ s. s.word) words

abbrev pub name_in : Word → Option (List ℕ)
name_in (word.Name name) = Some name
name_in (word.Reserved key) = None
name_in (word.Number value) = None
name_in (word.Const value) = None
name_in (word.Symbol symbol) = None

abbrev pub reserved_in : Word → Option Reserved
reserved_in (word.Name name) = None
reserved_in (word.Reserved key) = Some key
reserved_in (word.Number value) = None
reserved_in (word.Const value) = None
reserved_in (word.Symbol symbol) = None

abbrev pub number_in : Word → Option ℕ
number_in (word.Name name) = None
number_in (word.Reserved key) = None
number_in (word.Number value) = Some value
number_in (word.Const value) = None
number_in (word.Symbol symbol) = None

abbrev pub const_in : Word → Option Bool
const_in (word.Name name) = None
const_in (word.Reserved key) = None
const_in (word.Number value) = None
const_in (word.Const value) = Some value
const_in (word.Symbol symbol) = None

abbrev pub symbol_of : Word → Option Symbol
symbol_of (word.Name name) = None
symbol_of (word.Reserved key) = None
symbol_of (word.Number value) = None
symbol_of (word.Const value) = None
symbol_of (word.Symbol symbol) = Some symbol

-- the byte that a symbol is written by
abbrev pub symbol_byte : Symbol → ℕ
symbol_byte LeftParenthesis = 40
symbol_byte RightParenthesis = 41
symbol_byte LeftBracket = 91
symbol_byte RightBracket = 93
symbol_byte Colon = 58
symbol_byte Comma = 44
symbol_byte Semicolon = 59
symbol_byte Dot = 46
symbol_byte Equals = 61

-- something where the word is this symbol
abbrev pub symbol_in : Symbol → Word → Option (Unit {0})
symbol_in wanted (word.Name name) = None
symbol_in wanted (word.Reserved key) = None
symbol_in wanted (word.Number value) = None
symbol_in wanted (word.Const value) = None
symbol_in wanted (word.Symbol symbol) = if symbol_byte symbol == symbol_byte wanted then Some tt else None

-- what the first word is seen as; nothing where none is left
abbrev pub front : {X : Type 0} → (Word → Option X) → List Word → Option X
front view [] = None
front view (w ∷ ws) = view w

-- the words after the first
abbrev pub rest : List Word → List Word
rest [] = []
rest (w ∷ ws) = ws

-- one word less where something was seen in it, else the same words
abbrev pub rest_if : {X : Type 0} → Option X → List Word → List Word
rest_if None ws = ws
rest_if (Some x) ws = rest ws
