use Rattle.std.specs.Prelude.{ℕ, ◌+◌, Bool, true, false, List, [], ◌∷◌, ◌++◌, length, slice_get, Option, Some, None, if◌then◌else◌, ◌==◌, nat_lt, nat_le, codes}
use Rattle.std.specs.Option.{option_map, option_map_or}
use Rattle.std.specs.Str.{bytes_eq}
use Rattle.verilog_lexicon.specs.declared.word.Word.TheVariants as word
use Rattle.verilog_lexicon.specs.declared.word.Spanned.{Spanned}
use Rattle.verilog_lexicon.specs.declared.symbol.Symbol.{Symbol}
use Rattle.verilog_lexicon.specs.declared.symbol.Symbol.TheVariants.{LeftParenthesis, RightParenthesis, LeftBracket, RightBracket, Colon, Comma, Semicolon, Dot, Equals}
use Rattle.verilog_lexicon.specs.Keywords.{name_word}
use Rattle.verilog_lexicon.specs.Bytes.{is_blank, is_letter, is_digit, is_name_byte, clings, is_escaped_byte, is_base}
use Rattle.verilog_lexicon.specs.Words.{spanned, WordText}
use Rattle.verilog_lexicon.specs.Pieces.{value_from}
use Rattle.verilog_words.specs.declared.mode.Mode.{Mode}
use Rattle.verilog_words.specs.declared.mode.Mode.TheVariants as in_
use Rattle.verilog_words.specs.declared.mode.Enclosure.{Enclosure}
use Rattle.verilog_words.specs.declared.mode.Enclosure.TheVariants.{BlockComment, Attribute}
use Rattle.verilog_words.specs.declared.mode.Directive.{Directive}
use Rattle.verilog_words.specs.declared.mode.Directive.TheVariants.{Timescale, DefaultNettype, Celldefine, Endcelldefine}

-- A machine that takes a text byte by byte (own). It says how the cutter goes; what it gives is stated by pieces alone.

-- the words so far, what was begun of the next piece, its offset where the piece is a word, and its bytes
-- where they are needed
pub record State : Type 0 where
  pub words : List Spanned
  pub mode : Mode
  pub from : ℕ
  pub pending : List ℕ

abbrev pub state : List Spanned → Mode → ℕ → List ℕ → State
state words mode from pending = record { words = words; mode = mode; from = from; pending = pending }

-- between two pieces
abbrev pub between : List Spanned → State
between words = state words in_.Between 0 []

abbrev pub start : State
start = between []

-- the byte that ends an enclosure after a star
abbrev pub closer : Enclosure → ℕ
closer BlockComment = 47
closer Attribute = 41

abbrev pub directive_name : Directive → List ℕ
directive_name Timescale = codes "timescale"
directive_name DefaultNettype = codes "default_nettype"
directive_name Celldefine = codes "celldefine"
directive_name Endcelldefine = codes "endcelldefine"

-- whether the rest of the line belongs to the directive
abbrev pub takes_line : Directive → Bool
takes_line Timescale = true
takes_line DefaultNettype = true
takes_line Celldefine = false
takes_line Endcelldefine = false

-- the symbol of a byte, other than `(`
abbrev pub symbol_with : ℕ → Option Symbol
symbol_with b =
    if b == 41 then Some RightParenthesis else
    if b == 91 then Some LeftBracket else
    if b == 93 then Some RightBracket else
    if b == 58 then Some Colon else
    if b == 44 then Some Comma else
    if b == 59 then Some Semicolon else
    if b == 46 then Some Dot else
    if b == 61 then Some Equals else None

-- the directive whose name begins with this byte
abbrev pub directive_with : ℕ → Option Directive
directive_with b =
    if b == 116 then Some Timescale else
    if b == 100 then Some DefaultNettype else
    if b == 99 then Some Celldefine else
    if b == 101 then Some Endcelldefine else None

-- a byte at this place begins a piece
abbrev pub begin : ℕ → List Spanned → ℕ → Option State
begin at words b =
    if is_blank b then Some (between words) else
    if is_letter b then Some (state words in_.Name at (b ∷ [])) else
    if is_digit b then Some (state words in_.Number at (b ∷ [])) else
    if b == 40 then Some (state words in_.Open at []) else
    if b == 47 then Some (state words in_.Slash 0 []) else
    if b == 96 then Some (state words in_.Backquote 0 []) else
    if b == 92 then Some (state words in_.Escaped at []) else
    option_map (λ s. between (words ++ spanned (word.Symbol s) at 1 ∷ [])) (symbol_with b)

-- the words once the piece that was begun is whole

abbrev pub with_name : List Spanned → ℕ → List ℕ → List Spanned
with_name words from pending = words ++ spanned (name_word pending) from (length pending) ∷ []

abbrev pub with_escaped : List Spanned → ℕ → List ℕ → List Spanned
with_escaped words from pending = words ++ spanned (word.Name pending) from (length pending + 2) ∷ []

abbrev pub with_number : List Spanned → ℕ → List ℕ → List Spanned
with_number words from pending = words ++ spanned (word.Number (value_from 0 pending)) from (length pending) ∷ []

abbrev pub with_constant : List Spanned → ℕ → Bool → List Spanned
with_constant words from value = words ++ spanned (word.Const value) from 4 ∷ []

abbrev pub with_parenthesis : List Spanned → ℕ → List Spanned
with_parenthesis words from = words ++ spanned (word.Symbol LeftParenthesis) from 1 ∷ []

-- up to the end of the line
abbrev pub in_line : List Spanned → ℕ → Option State
in_line words b = if b == 10 then Some (between words) else Some (state words in_.Line 0 [])

-- a star, or another byte of an enclosure
abbrev pub enclosed : Enclosure → List Spanned → ℕ → Option State
enclosed e words b = if b == 42 then Some (state words (in_.EnclosedStar e) 0 []) else Some (state words (in_.Enclosed e) 0 [])

-- whether the byte goes on in the directive's name
abbrev pub goes_on : Directive → List ℕ → ℕ → Bool
goes_on d pending b = option_map_or (λ c. c == b) (slice_get (directive_name d) (length pending)) false

-- whether the directive's name is whole
abbrev pub is_whole : Directive → List ℕ → Bool
is_whole d pending = nat_le (length (directive_name d)) (length pending)

-- a byte after the directive's name
abbrev pub after_directive : Bool → ℕ → List Spanned → ℕ → Option State
after_directive true at words b = in_line words b
after_directive false at words b = begin at words b

abbrev pub step_in : Mode → ℕ → List Spanned → ℕ → List ℕ → ℕ → Option State
step_in in_.Between at words from pending b = begin at words b
step_in in_.Slash at words from pending b =
    if b == 47 then Some (state words in_.Line 0 []) else
    if b == 42 then Some (state words (in_.Enclosed BlockComment) 0 []) else None
step_in in_.Line at words from pending b = in_line words b
step_in in_.Open at words from pending b =
    if b == 42 then Some (state words (in_.Enclosed Attribute) 0 []) else begin at (with_parenthesis words from) b
step_in (in_.Enclosed e) at words from pending b = enclosed e words b
step_in (in_.EnclosedStar e) at words from pending b = if b == closer e then Some (between words) else enclosed e words b
step_in in_.Backquote at words from pending b = option_map (λ d. state words (in_.Directive d) 0 (b ∷ [])) (directive_with b)
step_in (in_.Directive d) at words from pending b =
    if is_name_byte b then (if goes_on d pending b then Some (state words (in_.Directive d) 0 (pending ++ b ∷ [])) else None) else
    if is_whole d pending then after_directive (takes_line d) at words b else None
step_in in_.Name at words from pending b =
    if is_name_byte b then (if nat_lt (length pending) 255 then Some (state words in_.Name from (pending ++ b ∷ [])) else None)
    else begin at (with_name words from pending) b
step_in in_.Escaped at words from pending b =
    if is_escaped_byte b then (if nat_lt (length pending) 255 then Some (state words in_.Escaped from (pending ++ b ∷ [])) else None) else
    if is_blank b then (if nat_lt 0 (length pending) then Some (between (with_escaped words from pending)) else None) else None
step_in in_.Number at words from pending b =
    if is_digit b then (if nat_lt (length pending) 9 then Some (state words in_.Number from (pending ++ b ∷ [])) else None) else
    if b == 39 then (if bytes_eq pending (codes "1") then Some (state words in_.Quote from []) else None) else
    if clings b then None else begin at (with_number words from pending) b
step_in in_.Quote at words from pending b = if is_base b then Some (state words in_.Base from []) else None
step_in in_.Base at words from pending b =
    if b == 48 then Some (state words (in_.Constant false) from []) else
    if b == 49 then Some (state words (in_.Constant true) from []) else None
step_in (in_.Constant value) at words from pending b =
    if clings b then None else begin at (with_constant words from value) b

abbrev pub step : ℕ → State → ℕ → Option State
step at s b = step_in s.mode at s.words s.from s.pending b

-- the words of a text that ends here
abbrev pub end_in : Mode → List Spanned → ℕ → List ℕ → Option (List Spanned)
end_in in_.Between words from pending = Some words
end_in in_.Slash words from pending = None
end_in in_.Line words from pending = Some words
end_in in_.Open words from pending = Some (with_parenthesis words from)
end_in (in_.Enclosed e) words from pending = None
end_in (in_.EnclosedStar e) words from pending = None
end_in in_.Backquote words from pending = None
end_in (in_.Directive d) words from pending = if is_whole d pending then Some words else None
end_in in_.Name words from pending = Some (with_name words from pending)
end_in in_.Escaped words from pending = None
end_in in_.Number words from pending = Some (with_number words from pending)
end_in in_.Quote words from pending = None
end_in in_.Base words from pending = None
end_in (in_.Constant value) words from pending = Some (with_constant words from value)

abbrev pub end : State → Option (List Spanned)
end s = end_in s.mode s.words s.from s.pending

-- these words and the text's length, where it ends at this place
abbrev pub text_at : ℕ → State → Option WordText
text_at at s = option_map (λ words. record { list = words; end = at }) (end s)
