-- The words of bits are words of a line.
use Rattle.std.proofs.Common.{◌≡◌, ℕ, ◌<◌, ◌^◌, true, false, List, [], ◌∷◌, ◌++◌, refl, Option, Some, None, arith, IsTrue}
use Rattle.std.specs.List.{AllByRecursion}
use Rattle.std.specs.Fmt.{decimal}
use Rattle.std.proofs.lemmas.List.Elements.{All-from_recursion}
use Rattle.list_laws.proofs.Lists.{all_append}
use Rattle.verilog_lexicon.specs.Bytes.{is_digit}
use Rattle.bsdl_lexicon.specs.Bytes.{is_letter, is_name_byte}
use Rattle.bsdl_lexicon.specs.Pieces.{IsIdentifier}
use Rattle.word_cutter.specs.LinesWords.{is_blank_byte, is_line_end}
use Rattle.word_cutter.specs.Rows.{IsWordByte, IsWord}
use Rattle.plan_fitting.specs.Names.{index_word}
use Rattle.strip_model.proofs.SameWords.{decimal_digits}

-- Bytes.

name_byte : (b : ℕ) → is_name_byte b ≡ true → IsWordByte b
name_byte b h = record { no_blank = no_blank b h; no_end = no_end b h }
  where
    no_blank : (b : ℕ) → is_name_byte b ≡ true → is_blank_byte b ≡ false
    no_blank b h = grind arith

    no_end : (b : ℕ) → is_name_byte b ≡ true → is_line_end b ≡ false
    no_end b h = grind arith

letter_byte : (b : ℕ) → is_letter b ≡ true → IsWordByte b
letter_byte b h = record { no_blank = no_blank b h; no_end = no_end b h }
  where
    no_blank : (b : ℕ) → is_letter b ≡ true → is_blank_byte b ≡ false
    no_blank b h = grind arith

    no_end : (b : ℕ) → is_letter b ≡ true → is_line_end b ≡ false
    no_end b h = grind arith

digit_byte : (b : ℕ) → is_digit b ≡ true → IsWordByte b
digit_byte b h = record { no_blank = no_blank b h; no_end = no_end b h }
  where
    no_blank : (b : ℕ) → is_digit b ≡ true → is_blank_byte b ≡ false
    no_blank b h = grind arith

    no_end : (b : ℕ) → is_digit b ≡ true → is_line_end b ≡ false
    no_end b h = grind arith

name_bytes_all : (bytes : List ℕ) → AllByRecursion (λ c. IsTrue (is_name_byte c)) bytes → AllByRecursion IsWordByte bytes
name_bytes_all [] all = tt
name_bytes_all (b ∷ bytes) all = (name_byte b all.0, name_bytes_all bytes all.1)

digits_all : (bytes : List ℕ) → AllByRecursion (λ c. IsTrue (is_digit c)) bytes → AllByRecursion IsWordByte bytes
digits_all [] all = tt
digits_all (b ∷ bytes) all = (digit_byte b all.0, digits_all bytes all.1)

identifier_all : (name : List ℕ) → IsIdentifier name → AllByRecursion IsWordByte name
identifier_all [] is = absurd is
identifier_all (b ∷ bytes) is = (letter_byte b is.0, name_bytes_all bytes is.1)

pub index_all : (index : Option ℕ) → ((i : ℕ) → index ≡ Some i → i < 2 ^ 64) → AllByRecursion IsWordByte (index_word index)
index_all None low = tt
index_all (Some i) low =
    let opens : IsWordByte 91 = record { no_blank = refl; no_end = refl } in
    let closes : IsWordByte 93 = record { no_blank = refl; no_end = refl } in
    (opens, all_append IsWordByte (decimal i) (93 ∷ []) (digits_all (decimal i) (decimal_digits i (low i refl)).digits) (closes, tt))

pub whole_word : (name more : List ℕ) → IsIdentifier name → AllByRecursion IsWordByte more → IsWord (name ++ more)
whole_word [] more is all = absurd is
whole_word (b ∷ bytes) more is all = record {
  some = λ e. cc;
  each = All-from_recursion IsWordByte (b ∷ bytes ++ more) (all_append IsWordByte (b ∷ bytes) more (identifier_all (b ∷ bytes) is) all);
}
