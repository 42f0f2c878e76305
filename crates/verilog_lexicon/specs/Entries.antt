use Rattle.std.specs.Prelude.{ℕ, ◌+◌, ◌≤◌, List, [], ◌∷◌, length, take, drop, map}
use Rattle.verilog_lexicon.specs.declared.word.Word.{Word}
use Rattle.verilog_lexicon.specs.declared.word.Word.TheVariants as word
use Rattle.verilog_lexicon.specs.declared.word.Spanned.{Spanned}
use Rattle.verilog_lexicon.specs.declared.words.Entry.{Entry}
use Rattle.verilog_lexicon.specs.declared.words.Mark.{Mark}
use Rattle.verilog_lexicon.specs.declared.words.Mark.TheVariants as mark
use Rattle.verilog_lexicon.specs.Words.{spanned}

-- How a list of words is kept: one entry a word, and the bytes of all names one after the other.

-- the word of a mark
abbrev pub word_of : List ℕ → Mark → Word
word_of names (mark.Name count from) = word.Name (take count (drop from names))
word_of names (mark.EscapedName count from) = word.Name (take count (drop from names))
word_of names (mark.Reserved len r) = word.Reserved r
word_of names (mark.Number len n) = word.Number n
word_of names (mark.Const value) = word.Const value
word_of names (mark.Symbol s) = word.Symbol s

-- how many bytes the word takes in the text; an escaped name has two bytes less
abbrev pub len_of : Mark → ℕ
len_of (mark.Name count from) = count
len_of (mark.EscapedName count from) = count + 2
len_of (mark.Reserved len r) = len
len_of (mark.Number len n) = len
len_of (mark.Const value) = 4
len_of (mark.Symbol s) = 1

abbrev pub spanned_of : List ℕ → Entry → Spanned
spanned_of names e = spanned (word_of names e.mark) e.at (len_of e.mark)

-- the words of these entries
abbrev pub list_of : List ℕ → List Entry → List Spanned
list_of names entries = map (spanned_of names) entries

-- where the bytes of a name end; 0 for another word
abbrev pub ends_at : Mark → ℕ
ends_at (mark.Name count from) = from + count
ends_at (mark.EscapedName count from) = from + count
ends_at (mark.Reserved len r) = 0
ends_at (mark.Number len n) = 0
ends_at (mark.Const value) = 0
ends_at (mark.Symbol s) = 0

-- each name's bytes are there
abbrev pub AreKept : List ℕ → List Entry → Type 0
AreKept names [] = Unit {0}
AreKept names (e ∷ entries) = (ends_at e.mark ≤ length names) × AreKept names entries
