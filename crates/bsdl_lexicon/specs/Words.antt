-- Words with their places, and what a reader that goes through a list of words sees of its first one.
use Rattle.std.specs.Prelude.{ℕ, List, [], ◌∷◌, map, slice_get, Option, Some, None, ◌==◌, if◌then◌else◌}
use Rattle.std.specs.Option.{option_map_or}
use Rattle.bsdl_lexicon.specs.declared.token.BsdlToken.{BsdlToken}
use Rattle.bsdl_lexicon.specs.declared.token.BsdlToken.TheVariants as word
use Rattle.bsdl_lexicon.specs.declared.token.BsdlSpanned.{BsdlSpanned}
use Rattle.bsdl_lexicon.specs.declared.symbol.BsdlSymbol.{BsdlSymbol}
use Rattle.bsdl_lexicon.specs.declared.symbol.BsdlSymbol.TheVariants.{LeftParenthesis, RightParenthesis, Colon, Semicolon, Comma, Ampersand, Dot}
use Rattle.bsdl_lexicon.specs.Names.{is_same_name}
use Rattle.bsdl_lexicon.specs.Reserved.{is_reserved}

-- a word with its place in the text and its length
abbrev pub spanned : BsdlToken → ℕ → ℕ → BsdlSpanned
spanned word at len = record { word = word; at = at; len = len }

-- the place of the word of this number, or this end where there is none
abbrev pub place_in : List BsdlSpanned → ℕ → ℕ → ℕ
place_in list end number = option_map_or (λ s. s.at) (slice_get list number) end

-- the words without their places
abbrev pub plain : List BsdlSpanned → List BsdlToken
plain words = map (λ s. s.word) words

-- an identifier that isn't reserved
abbrev pub name_in : BsdlToken → Option (List ℕ)
name_in (word.Name name) = if is_reserved name then None else Some name
name_in _ = None

-- something where the word is this identifier
abbrev pub key_in : List ℕ → BsdlToken → Option (Unit {0})
key_in wanted (word.Name name) = if is_same_name name wanted then Some tt else None
key_in wanted _ = None

abbrev pub integer_in : BsdlToken → Option ℕ
integer_in (word.Integer value) = Some value
integer_in _ = None

abbrev pub real_in : BsdlToken → Option (List ℕ)
real_in (word.Real real) = Some real
real_in _ = None

abbrev pub quoted_in : BsdlToken → Option (List ℕ)
quoted_in (word.Quoted contents) = Some contents
quoted_in _ = None

-- the byte that a symbol is written by
abbrev pub symbol_byte : BsdlSymbol → ℕ
symbol_byte LeftParenthesis = 40
symbol_byte RightParenthesis = 41
symbol_byte Colon = 58
symbol_byte Semicolon = 59
symbol_byte Comma = 44
symbol_byte Ampersand = 38
symbol_byte Dot = 46

-- something where the word is this symbol
abbrev pub symbol_in : BsdlSymbol → BsdlToken → Option (Unit {0})
symbol_in wanted (word.Symbol symbol) = if symbol_byte symbol == symbol_byte wanted then Some tt else None
symbol_in wanted _ = None

-- something where the word is `:=`
abbrev pub becomes_in : BsdlToken → Option (Unit {0})
becomes_in word.Becomes = Some tt
becomes_in _ = None

-- what the first word is seen as; nothing where none is left
abbrev pub front : {X : Type 0} → (BsdlToken → Option X) → List BsdlToken → Option X
front view [] = None
front view (w ∷ ws) = view w

-- the words after the first
abbrev pub rest : List BsdlToken → List BsdlToken
rest [] = []
rest (w ∷ ws) = ws

-- one word less where something was seen in it, else the same words
abbrev pub rest_if : {X : Type 0} → Option X → List BsdlToken → List BsdlToken
rest_if None ws = ws
rest_if (Some x) ws = rest ws
