use Rattle.std.proofs.Common.{◌≡◌, ℕ, ◌+◌, List, [], ◌∷◌, length, drop, Some, None, refl, ap, ◌∙◌, true, false, Bool, cond, ◌==◌, sym}
use Rattle.std.specs.Option.{is_some}
use Rattle.std.proofs.lemmas.List.{length-map, drop-drop}
use Rattle.verilog_lexicon.specs.declared.word.Word.{Word}
use Rattle.verilog_lexicon.specs.declared.word.Word.TheVariants as word
use Rattle.verilog_lexicon.specs.declared.word.Spanned.{Spanned}
use Rattle.verilog_lexicon.specs.declared.symbol.Symbol.{Symbol}
use Rattle.std.proofs.lemmas.Option.{same_Some}
use Rattle.verilog_lexicon.specs.Words.{plain, front, rest, symbol_of, symbol_in, symbol_byte}

pub length_plain : (list : List Spanned) → length (plain list) ≡ length list
length_plain list = length-map list (λ (s : Spanned). s.word)

-- the words after the first of those that are left
pub drop_one : (words : List Word) (n : ℕ) → drop (n + 1) words ≡ rest (drop n words)
drop_one words n = sym (drop-drop 1 n words) ∙ drop_first (drop n words) where
  drop_first : (left : List Word) → drop 1 left ≡ rest left
  drop_first [] = refl
  drop_first (w ∷ left) = refl

-- where the first word is this symbol
pub front-symbol_in : (words : List Word) (wanted found : Symbol) → Some found ≡ front symbol_of words → is_some (front (symbol_in wanted) words) ≡ (symbol_byte found == symbol_byte wanted)
front-symbol_in [] wanted found is = cc
front-symbol_in (word.Name name ∷ words) wanted found is = cc
front-symbol_in (word.Reserved key ∷ words) wanted found is = cc
front-symbol_in (word.Number value ∷ words) wanted found is = cc
front-symbol_in (word.Const value ∷ words) wanted found is = cc
front-symbol_in (word.Symbol symbol ∷ words) wanted found is =
    is_some-cond (symbol_byte symbol == symbol_byte wanted) ∙ ap (λ (s : Symbol). symbol_byte s == symbol_byte wanted) (sym (same_Some found symbol is)) where
      is_some-cond : (b : Bool) → is_some {T = Unit {0}} (cond b (Some tt) None) ≡ b
      is_some-cond true = refl
      is_some-cond false = refl

pub front-symbol_in-none : (words : List Word) (wanted : Symbol) → None ≡ front symbol_of words → is_some (front (symbol_in wanted) words) ≡ false
front-symbol_in-none [] wanted none = refl
front-symbol_in-none (word.Name name ∷ words) wanted none = refl
front-symbol_in-none (word.Reserved key ∷ words) wanted none = refl
front-symbol_in-none (word.Number value ∷ words) wanted none = refl
front-symbol_in-none (word.Const value ∷ words) wanted none = refl
front-symbol_in-none (word.Symbol symbol ∷ words) wanted none = cc
