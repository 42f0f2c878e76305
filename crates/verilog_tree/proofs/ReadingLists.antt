-- Laws of the words of view, of what may be left out, and of what is listed with commas.
use Rattle.std.proofs.Common.{◌≡◌, ℕ, suc, zero, ◌≤◌, ◌==◌, Bool, true, false, ◌&&◌, IsTrue, cond, List, [], ◌∷◌, ◌++◌, length, Option, Some, None, refl, sym, ap, ◌∙◌, arith, length-append, inl, inr}
use Rattle.std.specs.List.{list_all}
use Rattle.std.specs.Option.{option_map_or}
use Rattle.verilog_lexicon.proofs.list_laws.Options.{none_some}
use borrow.Author.Tests.{eqb-true}
use Rattle.verilog_lexicon.specs.declared.word.Word.{Word}
use Rattle.verilog_lexicon.specs.declared.word.Word.TheVariants as word
use Rattle.verilog_lexicon.specs.declared.symbol.Symbol.{Symbol}
use Rattle.verilog_lexicon.specs.declared.symbol.Symbol.TheVariants.{LeftParenthesis, RightParenthesis, LeftBracket, RightBracket, Colon, Comma, Semicolon, Dot, Equals}
use Rattle.verilog_lexicon.specs.Words.{name_in, number_in, const_in, symbol_in, symbol_byte}
use Rattle.verilog_tree.specs.WrittenWords.{each_after_comma, optional_words}
use Rattle.verilog_tree.specs.Reader.{Read, done, after, optional_at, more_of, some_of, closed}
use Rattle.verilog_tree.proofs.Readers.{Law, Seen, Then, EitherWay, law_weaker, law_done, law_map, law_after, law_word, law_either, law_enough}

-- The words of view.

pub name_seen : Seen (List ℕ) name_in (λ name. word.Name name)
name_seen = record { is = is }
  where
    is : (w : Word) (x : List ℕ) → name_in w ≡ Some x → w ≡ word.Name x
    is (word.Name n) x h = cc
    is (word.Reserved k) x h = cc
    is (word.Number v) x h = cc
    is (word.Const v) x h = cc
    is (word.Symbol s) x h = cc

pub number_seen : Seen ℕ number_in (λ value. word.Number value)
number_seen = record { is = is }
  where
    is : (w : Word) (x : ℕ) → number_in w ≡ Some x → w ≡ word.Number x
    is (word.Name n) x h = cc
    is (word.Reserved k) x h = cc
    is (word.Number v) x h = cc
    is (word.Const v) x h = cc
    is (word.Symbol s) x h = cc

pub const_seen : Seen Bool const_in (λ value. word.Const value)
const_seen = record { is = is }
  where
    is : (w : Word) (x : Bool) → const_in w ≡ Some x → w ≡ word.Const x
    is (word.Name n) x h = cc
    is (word.Reserved k) x h = cc
    is (word.Number v) x h = cc
    is (word.Const v) x h = cc
    is (word.Symbol s) x h = cc

-- the symbol that a byte writes
abbrev symbol_of : ℕ → Symbol
symbol_of byte = cond (byte == 40) LeftParenthesis (cond (byte == 41) RightParenthesis (cond (byte == 91) LeftBracket (cond (byte == 93) RightBracket (cond (byte == 58) Colon (cond (byte == 44) Comma (cond (byte == 59) Semicolon (cond (byte == 46) Dot Equals)))))))

symbol_of-byte : (s : Symbol) → symbol_of (symbol_byte s) ≡ s
symbol_of-byte LeftParenthesis = refl
symbol_of-byte RightParenthesis = refl
symbol_of-byte LeftBracket = refl
symbol_of-byte RightBracket = refl
symbol_of-byte Colon = refl
symbol_of-byte Comma = refl
symbol_of-byte Semicolon = refl
symbol_of-byte Dot = refl
symbol_of-byte Equals = refl

same_symbol : (s t : Symbol) → (symbol_byte s == symbol_byte t) ≡ true → s ≡ t
same_symbol s t h = sym (symbol_of-byte s) ∙ ap (λ (b : ℕ). symbol_of b) (eqb-true (symbol_byte s) (symbol_byte t) h) ∙ symbol_of-byte t

pub symbol_seen : (wanted : Symbol) → Seen (Unit {0}) (symbol_in wanted) (λ _. word.Symbol wanted)
symbol_seen wanted = record { is = is }
  where
    one : (s : Symbol) (b : Bool) (x : Unit {0}) → (symbol_byte s == symbol_byte wanted) ≡ b → cond b (Some tt) None ≡ Some x → s ≡ wanted
    one s true x e h = same_symbol s wanted e
    one s false x e h = none_some h

    is : (w : Word) (x : Unit {0}) → symbol_in wanted w ≡ Some x → w ≡ word.Symbol wanted
    is (word.Name n) x h = cc
    is (word.Reserved k) x h = cc
    is (word.Number v) x h = cc
    is (word.Const v) x h = cc
    is (word.Symbol s) x h = ap (λ (t : Symbol). word.Symbol t) (one s (symbol_byte s == symbol_byte wanted) x refl h)

-- What may be left out.

-- a part that is spelled so and passes the test
abbrev pub Spelled : {X : Type 0} → (X → List Word) → (X → Bool) → X → List Word → Type 0
Spelled words ok x p = (p ≡ words x) × IsTrue (ok x)

pub law_optional : {X : Type 0} {one : List Word → Read X} (mark : Symbol) (words : X → List Word) → Law X one (λ x p. word.Symbol mark ∷ p ≡ words x) → Law (Option X) (λ ws. optional_at mark one ws) (λ o p. p ≡ optional_words words o)
law_optional {X = X} mark words l =
    law_weaker (law_either (symbol_seen mark) (λ _. law_map (λ x. Some x) l) (law_done None)) spelled
  where
    spelled : (o : Option X) (p : List Word) → EitherWay (λ (u : Unit {0}). word.Symbol mark) (λ u y q. (x : X) × (word.Symbol mark ∷ q ≡ words x) × (y ≡ Some x)) (λ y q. (y ≡ None) × (q ≡ [])) o p → p ≡ optional_words words o
    spelled o p (inl (u, b, (x, e, is), f)) = f ∙ e ∙ sym (ap (λ (y : Option X). optional_words words y) is)
    spelled o p (inr (is, e)) = e ∙ sym (ap (λ (y : Option X). optional_words words y) is)

-- What is listed.

abbrev pub More : {X : Type 0} → (X → List Word) → (X → Bool) → List X → List Word → Type 0
More words ok xs p = (p ≡ each_after_comma words xs) × IsTrue (list_all ok xs)

pub and_true : {a b : Bool} → a ≡ true → b ≡ true → a && b ≡ true
and_true {b = b} e f = ap (λ (z : Bool). z && b) e ∙ f

law_more_of : {X : Type 0} {one : List Word → Read X} (words : X → List Word) (ok : X → Bool) → Law X one (Spelled words ok) → (n : ℕ) → Law (List X) (λ ws. more_of one n ws) (More words ok)
law_more_of {X = X} words ok l zero = law_weaker (law_done []) (λ xs p h. (h.1 ∙ sym (ap (λ (ys : List X). each_after_comma words ys) h.0), ap (λ (ys : List X). list_all ok ys) h.0))
law_more_of {X = X} words ok l (suc n) =
    law_weaker (law_either (symbol_seen Comma) (λ _. law_after l (λ x. law_map (λ xs. x ∷ xs) (law_more_of words ok l n))) (law_done [])) spelled
  where
    spelled : (xs : List X) (p : List Word) → EitherWay (λ (u : Unit {0}). word.Symbol Comma) (λ u. Then (Spelled words ok) (λ x zs q. (ys : List X) × More words ok ys q × (zs ≡ x ∷ ys))) (λ ys q. (ys ≡ []) × (q ≡ [])) xs p → More words ok xs p
    spelled xs p (inl (u, b, (x, a, c, s, (ys, m, is), join), e)) = (
      e ∙ ap (λ (q : List Word). word.Symbol Comma ∷ q) (join ∙ ap (λ (q : List Word). q ++ c) s.0 ∙ ap (λ (q : List Word). words x ++ q) m.0) ∙ sym (ap (λ (zs : List X). each_after_comma words zs) is),
      ap (λ (zs : List X). list_all ok zs) is ∙ and_true s.1 m.1,
    )
    spelled xs p (inr (is, e)) = (e ∙ sym (ap (λ (ys : List X). each_after_comma words ys) is), ap (λ (ys : List X). list_all ok ys) is)

-- what was read takes no more words than there were
pub no_longer : {X : Type 0} {r : List Word → Read X} {S : X → List Word → Type 0} → Law X r S → (ws : List Word) (x : X) (left : List Word) → r ws ≡ (Some x, left) → length left ≤ length ws
no_longer l ws x left h = let s = l.sound ws x left h in omega (arith, ap (λ (q : List Word). length q) s.1, length-append s.0 left)

more_of_enough : {X : Type 0} {one : List Word → Read X} {S : X → List Word → Type 0} → Law X one S → (m n : ℕ) (ws : List Word) → length ws ≤ m → length ws ≤ n → more_of one m ws ≡ more_of one n ws
more_of_enough l zero zero ws a b = refl
more_of_enough l zero (suc n) [] a b = refl
more_of_enough l (suc m) zero [] a b = refl
more_of_enough l (suc m) (suc n) [] a b = refl
more_of_enough l zero (suc n) (w ∷ ws) a b = absurd (omega arith)
more_of_enough l (suc m) zero (w ∷ ws) a b = absurd (omega arith)
more_of_enough {X = X} {one = one} l (suc m) (suc n) (w ∷ ws) a b = go (symbol_in Comma w) (one ws) refl (λ left short. more_of_enough l m n left (omega arith) (omega arith))
  where
    read_by : ℕ → Option (Unit {0}) → Read X → Read (List X)
    read_by k o read = option_map_or (λ _. after read (λ x left. after (more_of one k left) (λ xs end. done (x ∷ xs) end))) o (done [] (w ∷ ws))

    go : (o : Option (Unit {0})) (read : Read X) → one ws ≡ read → ((left : List Word) → length left ≤ length ws → more_of one m left ≡ more_of one n left) → read_by m o read ≡ read_by n o read
    go None read e again = refl
    go (Some u) (None, left) e again = refl
    go (Some u) (Some x, left) e again = ap (λ (z : Read (List X)). after z (λ xs end. done (x ∷ xs) end)) (again left (no_longer l ws x left e))

pub law_more : {X : Type 0} {one : List Word → Read X} (words : X → List Word) (ok : X → Bool) → Law X one (Spelled words ok) → Law (List X) (λ ws. more_of one (length ws) ws) (More words ok)
law_more {one = one} words ok l = law_enough (λ n ws. more_of one n ws) (λ ws. length ws) (law_more_of words ok l) (more_of_enough l)

-- one, and those that follow commas
abbrev pub Listed : {X : Type 0} → (X → List Word) → (X → Bool) → X × List X → List Word → Type 0
Listed words ok list p = (p ≡ words list.0 ++ each_after_comma words list.1) × IsTrue (list_all ok (list.0 ∷ list.1))

pub law_some : {X : Type 0} {one : List Word → Read X} (words : X → List Word) (ok : X → Bool) → Law X one (Spelled words ok) → Law (X × List X) (λ ws. some_of one ws) (Listed words ok)
law_some {X = X} words ok l =
    law_weaker (law_after l (λ x. law_map (λ xs. let list : X × List X = (x, xs) in list) (law_more words ok l))) spelled
  where
    spelled : (list : X × List X) (p : List Word) → Then (Spelled words ok) (λ x pair q. (xs : List X) × More words ok xs q × (pair ≡ (x, xs))) list p → Listed words ok list p
    spelled list p (x, a, b, s, (xs, m, is), join) = (
      join ∙ ap (λ (q : List Word). q ++ b) s.0 ∙ ap (λ (q : List Word). words x ++ q) m.0 ∙ sym (ap (λ (z : X × List X). words z.0 ++ each_after_comma words z.1) is),
      ap (λ (z : X × List X). list_all ok (z.0 ∷ z.1)) is ∙ and_true s.1 m.1,
    )

-- the end of an item
pub law_closed : {X Y : Type 0} {r : List Word → Read X} {S : X → List Word → Type 0} (make : X → Y) → Law X r S → Law Y (λ ws. closed make (r ws)) (λ y p. (x : X) × (a : List Word) × S x a × (y ≡ make x) × (p ≡ a ++ word.Symbol Semicolon ∷ []))
law_closed {X = X} {Y = Y} make l =
    law_weaker (law_after l (λ x. law_word (symbol_seen Semicolon) tt (λ _. law_done (make x)))) (λ y p h. (h.0, h.1, h.3, h.4.2.0, h.5 ∙ ap (λ (q : List Word). h.1 ++ q) (h.4.3 ∙ ap (λ (q : List Word). word.Symbol Semicolon ∷ q) h.4.2.1)))
