-- Symbols, layout, ranges, bits, operands and lists of the canonical text, cut into pieces.
use Rattle.std.proofs.Common.{ℕ, List, [], ◌∷◌, ◌++◌, true, false, Option, Some, None, refl, sym, subst, append_assoc}
use Rattle.std.specs.Prelude.{IsTrue, IfSome, codes}
use Rattle.std.specs.List.{AllByRecursion}
use Rattle.verilog_lexicon.specs.declared.word.Word.{Word}
use Rattle.verilog_lexicon.specs.declared.word.Word.TheVariants as word
use Rattle.verilog_lexicon.specs.declared.symbol.Symbol.TheVariants.{LeftParenthesis, RightParenthesis, LeftBracket, RightBracket, Colon, Comma, Semicolon, Dot, Equals}
use Rattle.verilog_lexicon.specs.Bytes.{is_blank}
use Rattle.verilog_lexicon.specs.Pieces.{blank, constant, symbol}
use Rattle.verilog_tree.specs.declared.tree.Range.{Range}
use Rattle.verilog_tree.specs.declared.tree.Bit.{Bit}
use Rattle.verilog_tree.specs.declared.tree.Operand.{Operand}
use Rattle.verilog_tree.specs.declared.tree.Operand.TheVariants as operand
use Rattle.verilog_tree.specs.WrittenWords.{each_after_comma, optional_words, range_words, index_words, bit_words, operand_words}
use Rattle.verilog_tree.specs.IsTree.{IsTreeNumber, IsTreeRange, IsTreeBit, IsTreeOperand}
use Rattle.verilog_tree.specs.Canonical.{name_text, range_text, ranged_text, index_text, bit_text, operand_text, each_after}
use Rattle.verilog_texts.proofs.Cuts.{Cut, Anything, NoStar, Apart, joined, narrowed, spaced, nothing, one_piece}
use Rattle.verilog_texts.proofs.Atoms.{apart_clings, name_cut, no_star_name, number_cut}

-- Symbols and layout.

pub blank_cut : (b : ℕ) → IsTrue (is_blank b) → Cut Anything (b ∷ []) []
blank_cut b is = one_piece (blank b) is (λ rest may. tt)

pub left_parenthesis : Cut NoStar (40 ∷ []) (word.Symbol LeftParenthesis ∷ [])
left_parenthesis = one_piece (symbol LeftParenthesis) tt (λ rest may. may)

pub right_parenthesis : Cut Anything (41 ∷ []) (word.Symbol RightParenthesis ∷ [])
right_parenthesis = one_piece (symbol RightParenthesis) tt (λ rest may. tt)

left_bracket : Cut Anything (91 ∷ []) (word.Symbol LeftBracket ∷ [])
left_bracket = one_piece (symbol LeftBracket) tt (λ rest may. tt)

right_bracket : Cut Anything (93 ∷ []) (word.Symbol RightBracket ∷ [])
right_bracket = one_piece (symbol RightBracket) tt (λ rest may. tt)

colon : Cut Anything (58 ∷ []) (word.Symbol Colon ∷ [])
colon = one_piece (symbol Colon) tt (λ rest may. tt)

comma : Cut Anything (44 ∷ []) (word.Symbol Comma ∷ [])
comma = one_piece (symbol Comma) tt (λ rest may. tt)

pub semicolon : Cut Anything (59 ∷ []) (word.Symbol Semicolon ∷ [])
semicolon = one_piece (symbol Semicolon) tt (λ rest may. tt)

pub dot : Cut Anything (46 ∷ []) (word.Symbol Dot ∷ [])
dot = one_piece (symbol Dot) tt (λ rest may. tt)

pub equals : Cut Anything (61 ∷ []) (word.Symbol Equals ∷ [])
equals = one_piece (symbol Equals) tt (λ rest may. tt)

pub space : Cut Anything (codes " ") []
space = blank_cut 32 refl

pub indent : Cut Anything (codes "  ") []
indent = joined space space (λ rest may. tt)

pub line_end : Cut Anything (codes "\n") []
line_end = blank_cut 10 refl

-- `;` and LF
pub statement_end : Cut Anything (codes ";\n") (word.Symbol Semicolon ∷ [])
statement_end = joined semicolon line_end (λ rest may. tt)

-- `);` and LF
pub list_end : Cut Anything (codes ");\n") (word.Symbol RightParenthesis ∷ word.Symbol Semicolon ∷ [])
list_end = joined right_parenthesis statement_end (λ rest may. tt)

-- Ranges, bits and operands.

range_cut : (range : Range) → IsTreeRange range → Cut Anything (range_text range) (range_words range)
range_cut range is = joined (joined (joined (joined left_bracket (number_cut range.left is.left) (λ rest may. tt)) colon (λ rest may. refl)) (number_cut range.right is.right) (λ rest may. tt)) right_bracket (λ rest may. refl)

pub ranged_cut : (range : Option Range) → IfSome range IsTreeRange → Cut Anything (ranged_text range) (optional_words range_words range)
ranged_cut None is = nothing
ranged_cut (Some range) is = spaced (range_cut range is) space (λ rest may. tt)

index_cut : (index : Option ℕ) → IfSome index IsTreeNumber → Cut Apart (index_text index) (optional_words index_words index)
index_cut None is = nothing
index_cut (Some index) is = narrowed (joined (joined left_bracket (number_cut index is) (λ rest may. tt)) right_bracket (λ rest may. refl)) (λ rest may. tt)

apart_index : (index : Option ℕ) (rest : List ℕ) → Apart rest → Apart (index_text index ++ rest)
apart_index None rest may = may
apart_index (Some index) rest may = refl

pub bit_cut : (bit : Bit) → IsTreeBit bit → Cut Apart (bit_text bit) (bit_words bit)
bit_cut bit is = joined (name_cut bit.net is.net) (index_cut bit.index is.index) (apart_index bit.index)

pub operand_cut : (o : Operand) → IsTreeOperand o → Cut Apart (operand_text o) (operand_words o)
operand_cut (operand.Bit bit) is = bit_cut bit is
operand_cut (operand.Const true) is = one_piece (constant 98 true) refl (λ rest may. apart_clings rest may)
operand_cut (operand.Const false) is = one_piece (constant 98 false) refl (λ rest may. apart_clings rest may)

pub no_star_bit : (bit : Bit) (rest : List ℕ) → NoStar (bit_text bit ++ rest)
no_star_bit bit rest = subst (λ (t : List ℕ). NoStar t) (sym (append_assoc (name_text bit.net) (index_text bit.index) rest)) (no_star_name bit.net (index_text bit.index ++ rest))

pub no_star_operand : (o : Operand) (rest : List ℕ) → NoStar (operand_text o ++ rest)
no_star_operand (operand.Bit bit) rest = no_star_bit bit rest
no_star_operand (operand.Const true) rest = refl
no_star_operand (operand.Const false) rest = refl

-- Lists.

pub apart_each : {A : Type 0} (b : ℕ) (text : A → List ℕ) (xs : List A) (rest : List ℕ) → Apart rest → Apart (each_after (44 ∷ b ∷ []) text xs ++ rest)
apart_each b text [] rest may = may
apart_each b text (x ∷ xs) rest may = refl

-- each part after a comma and one byte of white space
pub each_after_cut : {A : Type 0} {P : A → Type 0} (b : ℕ) → IsTrue (is_blank b) → (text : A → List ℕ) (words : A → List Word) → ((x : A) → P x → Cut Apart (text x) (words x)) → (xs : List A) → AllByRecursion P xs → Cut Apart (each_after (44 ∷ b ∷ []) text xs) (each_after_comma words xs)
each_after_cut b white text words one [] all = nothing
each_after_cut b white text words one (x ∷ xs) all =
    joined (joined (spaced comma (blank_cut b white) (λ rest may. tt)) (one x all.0) (λ rest may. tt)) (each_after_cut b white text words one xs all.1) (apart_each b text xs)
