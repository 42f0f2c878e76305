-- The names that direction items declare, and those that are left to declare.
use Rattle.std.proofs.Common.{◌≡◌, ℕ, suc, zero, ◌≤◌, Bool, true, false, ◌&&◌, ◌||◌, not, IsTrue, cond, List, [], ◌∷◌, ◌++◌, length, map, Option, Some, None, refl, sym, ap, ◌∙◌, arith, inl, inr}
use Rattle.std.specs.Prelude.{filter}
use Rattle.std.specs.List.{list_any}
use Rattle.std.specs.Option.{option_map_or}
use Rattle.std.specs.Str.{bytes_eq}
use Rattle.verilog_lexicon.proofs.list_laws.Tests.{and_left, and_right}
use Rattle.verilog_lexicon.proofs.list_laws.Bytes.{bytes_eq-same}
use Rattle.verilog_lexicon.proofs.list_laws.Options.{none_some}
use Rattle.verilog_lexicon.specs.declared.word.Word.{Word}
use Rattle.verilog_lexicon.specs.declared.word.Word.TheVariants as word
use Rattle.verilog_lexicon.specs.declared.symbol.Symbol.TheVariants.{Comma}
use Rattle.verilog_lexicon.specs.Words.{front, rest, rest_if, symbol_in}
use Rattle.verilog_tree.specs.declared.tree.Port.{Port}
use Rattle.verilog_tree.specs.Sources.{DeclarationHead}
use Rattle.verilog_tree.specs.WrittenWords.{each_after_comma, name_words}
use Rattle.verilog_tree.specs.Trees.{port_of, has_name, declares_from, declares_all}
use Rattle.verilog_tree.specs.Reader.{Read, done, fault, after, either, close, close_all, is_none_left, open_name_in, declared_at}
use Rattle.verilog_tree.proofs.Readers.{Law, Seen, Then, EitherWay, law_weaker, law_done, law_map, law_after, law_take_such, law_either, law_if, law_fault, law_enough}
use Rattle.verilog_tree.proofs.ReadingLists.{symbol_seen, and_true}

-- Tests.

-- Names that are left.

length-filter_at_most : (test : List ℕ → Bool) (names : List (List ℕ)) → length (filter test names) ≤ length names
length-filter_at_most test [] = omega arith
length-filter_at_most test (name ∷ more) = go (test name) (length-filter_at_most test more)
  where
    go : (b : Bool) → length (filter test more) ≤ length more → length (cond b (name ∷ filter test more) (filter test more)) ≤ length (name ∷ more)
    go true h = omega (arith, h)
    go false h = omega (arith, h)

pub length-close : (name : List ℕ) (more : List (List ℕ)) → length (close name (name ∷ more)) ≤ length more
length-close name more =
    let f : List ℕ → Bool = λ other. not (bytes_eq name other) in
    rw (bytes_eq-same name) (length-filter_at_most f more)

-- what is declared after a name, and the name, declare all
declares_all-close : (name : List ℕ) (port : Port) (ports : List Port) (left : List (List ℕ)) → port.name ≡ name → IsTrue (declares_all (close name left) ports) → IsTrue (declares_all left (port ∷ ports))
declares_all-close name port ports [] is h = refl
declares_all-close name port ports (x ∷ xs) is h = rw is (go (bytes_eq name x) refl h (declares_all-close name port ports xs is))
  where
    go : (b : Bool) → bytes_eq name x ≡ b → IsTrue (declares_all (cond (not b) (x ∷ close name xs) (close name xs)) ports) → (IsTrue (declares_all (close name xs) ports) → IsTrue (declares_all xs (port ∷ ports))) → IsTrue ((b || list_any (has_name x) ports) && declares_all xs (port ∷ ports))
    go true e g again = again g
    go false e g again = and_true (and_left _ _ g) (again (and_right _ _ g))

pub declares_all-append : (h : DeclarationHead) (names left : List (List ℕ)) (ports : List Port) → IsTrue (declares_all (close_all names left) ports) → IsTrue (declares_all left (map (port_of h) names ++ ports))
declares_all-append h [] left ports e = e
declares_all-append h (name ∷ more) left ports e = declares_all-close name (port_of h name) (map (port_of h) more ++ ports) left refl (declares_all-append h more (close name left) ports e)

pub declares_from-append : (h : DeclarationHead) (names left : List (List ℕ)) (ports : List Port) → IsTrue (declares_from left (map (port_of h) names)) → IsTrue (declares_from (close_all names left) ports) → IsTrue (declares_from left (map (port_of h) names ++ ports))
declares_from-append h [] left ports e f = f
declares_from-append h (name ∷ more) left ports e f = and_true (and_left _ _ e) (declares_from-append h more (close name left) ports (and_right _ _ e) f)

-- The names of one direction item.

abbrev pub Names : List (List ℕ) → List ℕ × List (List ℕ) → List Word → Type 0
Names left list p = (p ≡ word.Name list.0 ∷ each_after_comma name_words list.1) × ((h : DeclarationHead) → IsTrue (declares_from left (map (port_of h) (list.0 ∷ list.1))))

abbrev names_of : List ℕ → List (List ℕ) → List ℕ × List (List ℕ)
names_of name more = (name, more)

open_name_go : (left : List (List ℕ)) (name x : List ℕ) (b : Bool) → list_any (bytes_eq name) left ≡ b → cond b (Some name) None ≡ Some x → (name ≡ x) × IsTrue (list_any (bytes_eq x) left)
open_name_go left name x true e h = (cc, ap (λ (n : List ℕ). list_any (bytes_eq n) left) (let same : name ≡ x = cc in sym same) ∙ e)
open_name_go left name x false e h = none_some h

open_name_is : (left : List (List ℕ)) (w : Word) (x : List ℕ) → open_name_in left w ≡ Some x → (w ≡ word.Name x) × IsTrue (list_any (bytes_eq x) left)
open_name_is left (word.Name n) x h = let g = open_name_go left n x (list_any (bytes_eq n) left) refl h in (ap (λ (m : List ℕ). word.Name m) g.0, g.1)
open_name_is left (word.Reserved k) x h = none_some h
open_name_is left (word.Number v) x h = none_some h
open_name_is left (word.Const v) x h = none_some h
open_name_is left (word.Symbol s) x h = none_some h

open_name_seen : (left : List (List ℕ)) → Seen (List ℕ) (open_name_in left) (λ name. word.Name name)
open_name_seen left = record { is = λ w x h. (open_name_is left w x h).0 }

-- some name is left
pub first_left : (left : List (List ℕ)) → is_none_left left ≡ false → (name : List ℕ) × IsTrue (list_any (bytes_eq name) left)
first_left [] e = cc
first_left (name ∷ more) e = (name, ap (λ (b : Bool). b || list_any (bytes_eq name) more) (bytes_eq-same name))

-- what follows a name
abbrev Further : List (List ℕ) → List ℕ → List ℕ × List (List ℕ) → List Word → Type 0
Further left name list p = (list.0 ≡ name) × (p ≡ each_after_comma name_words list.1) × ((h : DeclarationHead) → IsTrue (declares_from (close name left) (map (port_of h) list.1)))

law_declared_n : (n : ℕ) (left : List (List ℕ)) → is_none_left left ≡ false → Law (List ℕ × List (List ℕ)) (λ ws. declared_at n left ws) (Names left)
law_declared_n zero left e =
    let first = first_left left e in
    law_fault (names_of first.0 [], word.Name first.0 ∷ [], (refl, λ h. and_true first.1 refl))
law_declared_n (suc n) left e =
    let first = first_left left e in
    law_weaker (law_after (law_take_such (open_name_seen left) (λ name. IsTrue (list_any (bytes_eq name) left)) (λ w x h. (open_name_is left w x h).1) first.0 first.1) (λ name. further name (λ some_left. law_declared_n n (close name left) some_left))) spelled
  where
    ended : (name : List ℕ) → Law (List ℕ × List (List ℕ)) (λ ws. done (names_of name []) ws) (Further left name)
    ended name = law_weaker (law_done (names_of name [])) (λ list p s. (rw s.0 refl, rw (s.0, s.1) refl, λ h. rw s.0 refl))

    further : (name : List ℕ) → (is_none_left (close name left) ≡ false → Law (List ℕ × List (List ℕ)) (λ ws. declared_at n (close name left) ws) (Names (close name left))) → Law (List ℕ × List (List ℕ)) (λ ws. cond (is_none_left (close name left)) (done (names_of name []) ws) (either (symbol_in Comma) ws (λ _ b. after (declared_at n (close name left) b) (λ more c. done (names_of name (more.0 ∷ more.1)) c)) (λ b. done (names_of name []) b))) (Further left name)
    further name again = law_if (is_none_left (close name left)) (λ _. ended name) (λ some_left. law_weaker (law_either (symbol_seen Comma) (λ _. law_map (λ more. names_of name (more.0 ∷ more.1)) (again some_left)) (ended name)) (further_spelled name))
      where
        further_spelled : (name : List ℕ) (list : List ℕ × List (List ℕ)) (p : List Word) → EitherWay (λ (u : Unit {0}). word.Symbol Comma) (λ u y q. (more : List ℕ × List (List ℕ)) × Names (close name left) more q × (y ≡ names_of name (more.0 ∷ more.1))) (Further left name) list p → Further left name list p
        further_spelled name list p (inl (u, b, (more, s, is), f)) = (rw is refl, rw (is, f, s.0) refl, λ h. rw is (s.1 h))
        further_spelled name list p (inr s) = s

    spelled : (list : List ℕ × List (List ℕ)) (p : List Word) → Then (λ (name : List ℕ) q. (q ≡ word.Name name ∷ []) × IsTrue (list_any (bytes_eq name) left)) (Further left) list p → Names left list p
    spelled list p (name, a, b, s, t, join) = (rw (join, s.0, t.1, t.0) refl, λ h. rw t.0 (and_true s.1 (t.2 h)))

declared_at_enough : (left : List (List ℕ)) (m n : ℕ) (ws : List Word) → length ws ≤ m → length ws ≤ n → declared_at m left ws ≡ declared_at n left ws
declared_at_enough left zero zero ws a b = refl
declared_at_enough left zero (suc n) [] a b = refl
declared_at_enough left (suc m) zero [] a b = refl
declared_at_enough left (suc m) (suc n) [] a b = refl
declared_at_enough left zero (suc n) (w ∷ ws) a b = absurd (omega arith)
declared_at_enough left (suc m) zero (w ∷ ws) a b = absurd (omega arith)
declared_at_enough left (suc m) (suc n) (w ∷ ws) a b = go (open_name_in left w) (λ name. declared_at_enough (close name left) m n (rest ws) (omega (arith, length-rest ws)) (omega (arith, length-rest ws)))
  where
    length-rest : (l : List Word) → length (rest l) ≤ length l
    length-rest [] = omega arith
    length-rest (x ∷ l) = omega arith

    next : ℕ → List ℕ → List Word → Read (List ℕ × List (List ℕ))
    next k name a = cond (is_none_left (close name left)) (done (names_of name []) a) (either (symbol_in Comma) a (λ _ b. after (declared_at k (close name left) b) (λ more c. done (names_of name (more.0 ∷ more.1)) c)) (λ b. done (names_of name []) b))

    read_by : ℕ → Option (List ℕ) → Read (List ℕ × List (List ℕ))
    read_by k o = option_map_or (λ name. next k name (rest_if o (w ∷ ws))) o (fault (rest_if o (w ∷ ws)))

    go : (o : Option (List ℕ)) → ((name : List ℕ) → declared_at m (close name left) (rest ws) ≡ declared_at n (close name left) (rest ws)) → read_by m o ≡ read_by n o
    go None again = refl
    go (Some name) again = ap (λ (read : Read (List ℕ × List (List ℕ))). cond (is_none_left (close name left)) (done (names_of name []) ws) (option_map_or (λ _. after read (λ more c. done (names_of name (more.0 ∷ more.1)) c)) (front (symbol_in Comma) ws) (done (names_of name []) ws))) (again name)

pub law_declared : (left : List (List ℕ)) → is_none_left left ≡ false → Law (List ℕ × List (List ℕ)) (λ ws. declared_at (length ws) left ws) (Names left)
law_declared left e = law_enough (λ n ws. declared_at n left ws) (λ ws. length ws) (λ n. law_declared_n n left e) (declared_at_enough left)
