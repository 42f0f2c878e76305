-- The words of a text: which names and numbers it can have.
use Rattle.std.proofs.Common.{ℕ, ◌+◌, ◌-◌, ◌*◌, ◌^◌, ◌<◌, ◌≤◌, List, [], ◌∷◌, length, Some, None, sym, subst, arith, lit<}
use Rattle.std.specs.Prelude.{IsTrue}
use Rattle.std.specs.Option.{option_map_or}
use Rattle.std.specs.List.{AllByRecursion}
use Rattle.std.proofs.lemmas.List.{map-append}
use Rattle.std.proofs.Math.Nat.{mul-le-mul_right, pow-suc, pow-le-pow_right}
use Rattle.verilog_lexicon.proofs.list_laws.Lists.{all_append}
use Rattle.verilog_lexicon.specs.declared.word.Word.{Word}
use Rattle.verilog_lexicon.specs.declared.word.Word.TheVariants as word
use Rattle.verilog_lexicon.specs.Bytes.{is_letter, is_digit, is_name_byte, is_escaped_byte}
use Rattle.verilog_lexicon.specs.Keywords.{reserved_of, name_word}
use Rattle.verilog_lexicon.specs.Words.{plain}
use Rattle.verilog_lexicon.specs.Pieces.{Piece, blank, line_comment, block_comment, attribute, line_directive, bare_directive, simple_name, escaped_name, number, constant, symbol, IsName, IsEscapedName, IsPiece, ArePieces, spelling, value_from, word_at, words_from, words_of}
use Rattle.verilog_lexicon.specs.declared.word.Spanned.{Spanned}
use Rattle.verilog_tree.specs.IsTree.{IsVisible, IsTreeName, IsTreeNumber}

-- a name or a number that a tree can have
abbrev pub IsSpelled : Word → Type 0
IsSpelled (word.Name name) = IsTreeName name
IsSpelled (word.Reserved r) = Unit {0}
IsSpelled (word.Number n) = IsTreeNumber n
IsSpelled (word.Const value) = Unit {0}
IsSpelled (word.Symbol s) = Unit {0}

abbrev pub AreSpelled : List Word → Type 0
AreSpelled ws = AllByRecursion IsSpelled ws

-- Lists.

pub all_more : {A : Type 0} (P Q : A → Type 0) → ((x : A) → P x → Q x) → (xs : List A) → AllByRecursion P xs → AllByRecursion Q xs
all_more P Q more [] all = tt
all_more P Q more (x ∷ xs) all = (more x all.0, all_more P Q more xs all.1)

-- Names.

name_byte_is_visible : (b : ℕ) → IsTrue (is_name_byte b) → IsVisible b
name_byte_is_visible b is = record { low = grind arith; high = grind arith }

letter_is_visible : (b : ℕ) → IsTrue (is_letter b) → IsVisible b
letter_is_visible b is = record { low = grind arith; high = grind arith }

escaped_byte_is_visible : (b : ℕ) → IsTrue (is_escaped_byte b) → IsVisible b
escaped_byte_is_visible b is = record { low = grind arith; high = grind arith }

simple_is_tree_name : (name : List ℕ) → IsName name → IsTreeName name
simple_is_tree_name [] is = absurd is
simple_is_tree_name (b ∷ bytes) is = record {
  filled = omega arith;
  short = (let short : length bytes < 255 = is.2 in omega arith);
  visible = (letter_is_visible b is.0, all_more (λ c. IsTrue (is_name_byte c)) IsVisible name_byte_is_visible bytes is.1);
}

escaped_is_tree_name : (name : List ℕ) → IsEscapedName name → IsTreeName name
escaped_is_tree_name name is = record { filled = is.0; short = is.1; visible = all_more (λ c. IsTrue (is_escaped_byte c)) IsVisible escaped_byte_is_visible name is.2 }

name_word_is_spelled : (name : List ℕ) → IsTreeName name → IsSpelled (name_word name)
unfolding name_word
name_word_is_spelled name is = elim (reserved_of name) as (λ o. IsSpelled (option_map_or (λ r. word.Reserved r) o (word.Name name))) [ None ↦ is | Some r ↦ tt ]

-- Numbers.

digit_is_low : (d : ℕ) → IsTrue (is_digit d) → d - 48 ≤ 9
digit_is_low d is = grind arith

one_digit_more : (n d k v : ℕ) → d ≤ 9 → v < (10 * n + d + 1) * k → v < (n + 1) * (k * 10)
one_digit_more n d k v low before = omega (arith, mul-le-mul_right {m = 10 * n + d + 1} {n = 10 * n + 10} k (omega arith))

value_from-lt : (n : ℕ) (ds : List ℕ) → AllByRecursion (λ c. IsTrue (is_digit c)) ds → value_from n ds < (n + 1) * 10 ^ length ds
value_from-lt n [] all = omega arith
value_from-lt n (d ∷ ds) all = subst (λ (p : ℕ). value_from (10 * n + (d - 48)) ds < (n + 1) * p) (sym (pow-suc 10 (length ds)))
    (one_digit_more n (d - 48) (10 ^ length ds) (value_from (10 * n + (d - 48)) ds) (digit_is_low d all.0) (value_from-lt (10 * n + (d - 48)) ds all.1))

number_is_low : (ds : List ℕ) → length ds ≤ 9 → AllByRecursion (λ c. IsTrue (is_digit c)) ds → IsTreeNumber (value_from 0 ds)
number_is_low ds short all =
    let below : value_from 0 ds < (0 + 1) * 10 ^ length ds = value_from-lt 0 ds all in
    let most : 10 ^ length ds ≤ 10 ^ 9 = pow-le-pow_right (lit< tt) short in
    omega arith

-- Pieces.

piece_is_spelled : (at : ℕ) (p : Piece) → IsPiece p → AreSpelled (plain (word_at at p))
piece_is_spelled at (blank b) is = tt
piece_is_spelled at (line_comment bytes) is = tt
piece_is_spelled at (block_comment bytes) is = tt
piece_is_spelled at (attribute bytes) is = tt
piece_is_spelled at (line_directive name text) is = tt
piece_is_spelled at (bare_directive name) is = tt
piece_is_spelled at (simple_name bytes) is = (name_word_is_spelled bytes (simple_is_tree_name bytes is), tt)
piece_is_spelled at (escaped_name bytes b) is = (escaped_is_tree_name bytes is.0, tt)
piece_is_spelled at (number digits) is = (number_is_low digits is.1 is.2, tt)
piece_is_spelled at (constant base value) is = (tt, tt)
piece_is_spelled at (symbol s) is = (tt, tt)

pieces_are_spelled : (at : ℕ) (ps : List Piece) → ArePieces ps → AreSpelled (plain (words_from at ps))
pieces_are_spelled at [] are = tt
pieces_are_spelled at (p ∷ ps) are =
    let next : ℕ = at + length (spelling p) in
    subst (λ (ws : List Word). AreSpelled ws) (sym (map-append (λ (s : Spanned). s.word) (word_at at p) (words_from next ps)))
    (all_append IsSpelled (plain (word_at at p)) (plain (words_from next ps)) (piece_is_spelled at p are.0) (pieces_are_spelled next ps are.2))

pub words_are_spelled : (bytes : List ℕ) (words : List Spanned) → words_of bytes words → AreSpelled (plain words)
words_are_spelled bytes words cut = subst (λ (list : List Spanned). AreSpelled (plain list)) (sym cut.words_are) (pieces_are_spelled 0 cut.pieces cut.are)
