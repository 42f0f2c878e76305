use Rattle.std.proofs.Common.{◌≡◌, ℕ, ◌+◌, ◌≤◌, List, [], ◌∷◌, ◌++◌, length, take, drop, slice_get, Option, Some, None, suc, zero, refl, sym, ap, subst, ◌∙◌, arith, length-append, length-drop}
use Rattle.std.proofs.lemmas.List.{take-append-le, drop-append-le}
use Rattle.std.proofs.lemmas.Option.{same_Some}
use Rattle.verilog_lexicon.specs.declared.word.Word.{Word}
use Rattle.verilog_lexicon.specs.declared.word.Word.TheVariants as word
use Rattle.verilog_lexicon.specs.declared.word.Spanned.{Spanned}
use Rattle.verilog_lexicon.specs.declared.words.Entry.{Entry}
use Rattle.verilog_lexicon.specs.declared.words.Mark.{Mark}
use Rattle.verilog_lexicon.specs.declared.words.Mark.TheVariants as mark
use Rattle.verilog_lexicon.specs.Words.{WordText, spanned, plain, front}
use Rattle.verilog_lexicon.specs.Entries.{word_of, len_of, spanned_of, list_of, ends_at, AreKept}

-- one entry more

pub kept_push : (names : List ℕ) (es : List Entry) (e : Entry) → AreKept names es → ends_at e.mark ≤ length names → AreKept names (es ++ e ∷ [])
kept_push names [] e are within = (within, tt)
kept_push names (f ∷ es) e are within = (are.0, kept_push names es e are.1 within)

pub list_push : (names : List ℕ) (es : List Entry) (e : Entry) → list_of names (es ++ e ∷ []) ≡ list_of names es ++ spanned_of names e ∷ []
list_push names [] e = refl
list_push names (f ∷ es) e = ap (λ (l : List Spanned). spanned_of names f ∷ l) (list_push names es e)

-- more bytes of names

pub kept_longer : (names more : List ℕ) (es : List Entry) → AreKept names es → AreKept (names ++ more) es
kept_longer names more [] are = tt
kept_longer names more (e ∷ es) are = (omega (arith, are.0, length-append names more), kept_longer names more es are.1)

part_longer : (names more : List ℕ) (from len : ℕ) → from + len ≤ length names → take len (drop from (names ++ more)) ≡ take len (drop from names)
part_longer names more from len within =
    ap (take len) (drop-append-le from names more (omega arith))
    ∙ take-append-le len (drop from names) more (omega (arith, length-drop from names))

word_longer : (names more : List ℕ) (m : Mark) → ends_at m ≤ length names → word_of (names ++ more) m ≡ word_of names m
word_longer names more (mark.Name count from) within = ap (λ (l : List ℕ). word.Name l) (part_longer names more from count within)
word_longer names more (mark.EscapedName count from) within = ap (λ (l : List ℕ). word.Name l) (part_longer names more from count within)
word_longer names more (mark.Reserved len r) within = refl
word_longer names more (mark.Number len n) within = refl
word_longer names more (mark.Const value) within = refl
word_longer names more (mark.Symbol s) within = refl

pub list_longer : (names more : List ℕ) (es : List Entry) → AreKept names es → list_of (names ++ more) es ≡ list_of names es
list_longer names more [] are = refl
list_longer names more (e ∷ es) are =
    ap (λ (w : Word). spanned w e.at (len_of e.mark) ∷ list_of (names ++ more) es) (word_longer names more e.mark are.0)
    ∙ ap (λ (l : List Spanned). spanned_of names e ∷ l) (list_longer names more es are.1)

-- the entry of a number

pub kept_at : (names : List ℕ) (es : List Entry) (k : ℕ) (e : Entry) → AreKept names es → Some e ≡ slice_get es k → ends_at e.mark ≤ length names
kept_at names [] k e are is = cc
kept_at names (f ∷ es) zero e are is = subst (λ (x : Entry). ends_at x.mark ≤ length names) (sym (same_Some e f is)) are.0
kept_at names (f ∷ es) (suc k) e are is = kept_at names es k e are.1 is

pub front_some : {X : Type 0} (of : Word → Option X) (names : List ℕ) (es : List Entry) (k : ℕ) (e : Entry) → Some e ≡ slice_get es k → front of (drop k (plain (list_of names es))) ≡ of (word_of names e.mark)
front_some of names [] k e is = cc
front_some of names (f ∷ es) zero e is = ap (λ (x : Entry). of (word_of names x.mark)) (sym (same_Some e f is))
front_some of names (f ∷ es) (suc k) e is = front_some of names es k e is

pub front_none : {X : Type 0} (of : Word → Option X) (names : List ℕ) (es : List Entry) (k : ℕ) → None ≡ slice_get es k → front of (drop k (plain (list_of names es))) ≡ None
front_none of names [] zero is = refl
front_none of names [] (suc k) is = refl
front_none of names (f ∷ es) zero is = cc
front_none of names (f ∷ es) (suc k) is = front_none of names es k is

-- what a word is, as the entry of its number says

pub at_some : {X : Type 0} (of : Word → Option X) (names : List ℕ) (es found : List Entry) (end k : ℕ) (text : WordText) (e : Entry) (r : Option X) → record { list = list_of names es; end = end } ≡ text → found ≡ es → Some e ≡ slice_get found k → r ≡ of (word_of names e.mark) → r ≡ front of (drop k (plain text.list))
at_some of names es found end k text e r is same there gives =
    gives
    ∙ sym (front_some of names es k e (there ∙ ap (λ (l : List Entry). slice_get l k) same))
    ∙ ap (λ (t : WordText). front of (drop k (plain t.list))) is

pub at_none : {X : Type 0} (of : Word → Option X) (names : List ℕ) (es found : List Entry) (end k : ℕ) (text : WordText) → record { list = list_of names es; end = end } ≡ text → found ≡ es → None ≡ slice_get found k → None ≡ front of (drop k (plain text.list))
at_none of names es found end k text is same none =
    sym (front_none of names es k (none ∙ ap (λ (l : List Entry). slice_get l k) same))
    ∙ ap (λ (t : WordText). front of (drop k (plain t.list))) is

pub kept_found : (names text : List ℕ) (es found : List Entry) (k : ℕ) (e : Entry) → AreKept names es → found ≡ es → Some e ≡ slice_get found k → text ≡ names → ends_at e.mark ≤ length text
kept_found names text es found k e are same there is =
    subst (λ (l : List ℕ). ends_at e.mark ≤ length l) (sym is) (kept_at names es k e are (there ∙ ap (λ (l : List Entry). slice_get l k) same))
