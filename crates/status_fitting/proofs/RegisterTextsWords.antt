-- What the words of a line are seen as, both ways.
use Rattle.std.proofs.Common.{◌≡◌, ◌≢◌, ℕ, suc, ◌≤◌, ◌<◌, ◌==◌, Bool, true, false, cond, ◌&&◌, not, List, [], ◌∷◌, ◌++◌, length, take, Option, Some, None, codes, refl, sym, ap, ◌∙◌, inl, inr, arith, append_assoc, append-nil, eqb-true, leb-true, le-leb}
use Rattle.std.proofs.lemmas.Bool.{lt-leb}
use Rattle.std.specs.Prelude.{nat_le, option_and_then}
use Rattle.std.specs.Str.{bytes_eq}
use Rattle.std.specs.Cmp.Lexicographic.{bytes_decides}
use Rattle.std.proofs.lemmas.Bool.Decides.{leb_tells}
use Rattle.std.proofs.lemmas.List.{length-take-le}
use Rattle.list_laws.proofs.Lists.{front_all, front_of}
use Rattle.list_laws.proofs.Tests.{both_true, and_true}
use Rattle.cell_library.specs.declared.codes.Bits.{Bits}
use Rattle.bsdl_device.specs.Runs.{is_pattern}
use Rattle.word_cutter.specs.LinesWords.{is_empty}
use Rattle.word_cutter.specs.Cut.{after_word}
use Rattle.word_cutter.specs.Forms.{after_key}
use Rattle.status_fitting.specs.declared.register_texts.plan.StatusRow.{StatusRow}
use Rattle.status_fitting.specs.Grammar.{RegisterWords, first_words, register_words, IsRegister, bits_of, register_of}
use Rattle.status_fitting.specs.Lines.{is_first, bits_if, words_if, with_words, named_row, row_if, register_in, register_line}

-- the words of a line
abbrev pub Words : Type 0
Words = List (List ℕ)

-- the value where a test holds
holding : {X : Type 0} (t : Bool) (x y : X) → cond t (Some x) None ≡ Some y → (t ≡ true) × (x ≡ y)
holding true x y h = (refl, (let e : x ≡ y = cc in e))
holding false x y h = absurd (cc)

held : {X : Type 0} (t : Bool) (x : X) → t ≡ true → cond t (Some x) None ≡ Some x
held t x h = ap (λ (b : Bool). cond b (Some x) None) h

told : {X : Type 0} (t : Bool) (o : Option X) (x : X) → cond t o None ≡ Some x → (t ≡ true) × (o ≡ Some x)
told true o x h = (refl, h)
told false o x h = absurd (cc)

then_some : {A B : Type 0} (f : A → Option B) (o : Option A) (y : B) → option_and_then f o ≡ Some y → (x : A) × (o ≡ Some x) × (f x ≡ Some y)
then_some f None y h = absurd (cc)
then_some f (Some x) y h = (x, refl, h)

key_first : (key : List ℕ) (words args : Words) → after_key key words ≡ Some args → words ≡ key ∷ args
key_first key [] args h = absurd (cc)
key_first key (first ∷ words) args h =
    let t = holding (not (is_empty first) && bytes_eq first key) words args h in
    let same : first ≡ key = (bytes_decides first key).0 (both_true (not (is_empty first)) (bytes_eq first key) t.0).1 in
    let more : words ≡ args = t.1 in cc

-- 1 to 256 words

count_holds : (words : Words) → 1 ≤ length words → length words ≤ 256 → words_if words ≡ Some words
count_holds words some few =
    held (nat_le 1 (length words) && nat_le (length words) 256) words
    (and_true (nat_le 1 (length words)) (nat_le (length words) 256) (le-leb 1 (length words) some) (le-leb (length words) 256 few))

-- the first 257 words tell
front_suffices : (words : Words) → words_if (take 257 words) ≡ words_if words
front_suffices words = elim (leb_tells (length words) 257) [
  | inl h ↦ let low = h.1 in ap words_if (front_all words 257 low)
  | inr h ↦
      let high = h.1 in
      let full : length (take 257 words) ≡ 257 = length-take-le 257 words (omega arith) in
      many (take 257 words) (omega arith) ∙ sym (many words (omega arith))
]
  where
    by : (l : Words) (s t : Bool) → t ≡ false → cond (s && t) (Some l) None ≡ None
    by l true t fails = ap (λ (b : Bool). cond b (Some l) None) fails
    by l false t fails = refl

    many : (l : Words) → 256 < length l → words_if l ≡ None
    many l high = by l (nat_le 1 (length l)) (nat_le (length l) 256) (lt-leb (length l) 256 high)

of_count : (words : Words) (n : ℕ) (b : Bool) → n ≡ length words → b ≡ (nat_le 1 n && nat_le n 256) → cond b (Some words) None ≡ words_if words
of_count words n b count is =
    ap (λ (t : Bool). cond t (Some words) None) is ∙ ap (λ (k : ℕ). cond (nat_le 1 k && nat_le k 256) (Some words) None) count

pub front_some : (words front : Words) (n : ℕ) (b : Bool) → front ≡ take 257 words → n ≡ length front → b ≡ (nat_le 1 n && nat_le n 256) → b ≡ true → Some front ≡ words_if words
front_some words front n b is count test holds =
    sym (ap (λ (t : Bool). cond t (Some front) None) holds) ∙ of_count front n b count test ∙ ap words_if is ∙ front_suffices words

pub front_none : (words front : Words) (n : ℕ) (b : Bool) → front ≡ take 257 words → n ≡ length front → b ≡ (nat_le 1 n && nat_le n 256) → b ≡ false → None ≡ words_if words
front_none words front n b is count test fails =
    sym (ap (λ (t : Bool). cond t (Some front) None) fails) ∙ of_count front n b count test ∙ ap words_if is ∙ front_suffices words

-- The words of a line, gathered one by one.

pub is_word : (w : List ℕ) (b : Bool) → b ≡ (length w == 0) → b ≡ false → w ≢ []
is_word [] b is fails = λ e. absurd (let clash : false ≡ true = sym fails ∙ is in cc)
is_word (x ∷ w) b is fails = λ e. absurd (cc)

pub is_none : (w : List ℕ) (b : Bool) → b ≡ (length w == 0) → b ≡ true → w ≡ []
is_none [] b is holds = refl
is_none (x ∷ w) b is holds = absurd (let clash : suc (length w) ≡ 0 = eqb-true (suc (length w)) 0 (sym is ∙ holds) in omega arith)

after_some : (w : List ℕ) (rest : Words) → w ≢ [] → after_word w rest ≡ w ∷ rest
after_some [] rest some = absurd (some refl)
after_some (b ∷ bytes) rest some = refl

-- these words were gathered, and the others are left
pub gathered : (done new left rest all : Words) (w : List ℕ) → new ≡ done ++ w ∷ [] → left ≡ after_word w rest → w ≢ [] → done ++ left ≡ all → new ++ rest ≡ all
gathered done new left rest all w grown words some so_far =
    ap (λ (l : Words). l ++ rest) grown
    ∙ append_assoc done (w ∷ []) rest
    ∙ ap (λ (l : Words). done ++ l) (sym (words ∙ after_some w rest some))
    ∙ so_far

pub gathered_all : (done left rest all : Words) (w : List ℕ) → length done ≤ 257 → left ≡ after_word w rest → w ≡ [] → (w ≡ [] → rest ≡ []) → done ++ left ≡ all → done ≡ take 257 all
gathered_all done left rest all w few words none ends so_far =
    let empty : left ≡ [] = words ∙ ap (λ (x : List ℕ). after_word x rest) none ∙ ends none in
    let same : done ≡ all = sym (append-nil done) ∙ ap (λ (l : Words). done ++ l) (sym empty) ∙ so_far in
    sym (ap (take 257) (sym same) ∙ front_all done 257 few)

pub gathered_most : (done left all : Words) → 257 ≡ length done → done ++ left ≡ all → done ≡ take 257 all
gathered_most done left all most so_far = sym (ap (take 257) (sym so_far) ∙ front_of done left 257 most)

-- The words of a line, cut off one by one.

pub three_first : (words a b c : Words) (name instr bits : List ℕ) → words ≡ after_word name a → (name ≡ [] → a ≡ []) → a ≡ after_word instr b → (instr ≡ [] → b ≡ [])
    → b ≡ after_word bits c → (bits ≡ [] → c ≡ []) → register_in words ≡ row_if name instr bits c
three_first words a b c [] [] [] e n f i g o = ap register_in (e ∙ f ∙ g ∙ o refl)
three_first words a b c (x ∷ name) [] [] e n f i g o = ap register_in (e ∙ ap (λ (l : Words). (x ∷ name) ∷ l) (f ∙ g ∙ o refl))
three_first words a b c [] (y ∷ instr) [] e n f i g o = ap register_in (e ∙ f ∙ ap (λ (l : Words). (y ∷ instr) ∷ l) (g ∙ o refl))
three_first words a b c (x ∷ name) (y ∷ instr) [] e n f i g o =
    ap register_in (e ∙ ap (λ (l : Words). (x ∷ name) ∷ l) (f ∙ ap (λ (l : Words). (y ∷ instr) ∷ l) (g ∙ o refl)))
three_first words a b c (x ∷ name) (y ∷ instr) (z ∷ bits) e n f i g o =
    ap register_in (e ∙ ap (λ (l : Words). (x ∷ name) ∷ l) (f ∙ ap (λ (l : Words). (y ∷ instr) ∷ l) g))
three_first words a b c name [] (z ∷ bits) e n f i g o = absurd (let both : [] ≡ (z ∷ bits) ∷ c = sym (i refl) ∙ g in cc)
three_first words a b c [] (y ∷ instr) (z ∷ bits) e n f i g o = absurd (let both : [] ≡ (y ∷ instr) ∷ b = sym (n refl) ∙ f in cc)

-- From the view to the words.

pub first_seen : (words : Words) → is_first words ≡ true → words ≡ first_words
first_seen [] h = absurd (cc)
first_seen (a ∷ []) h = absurd (cc)
first_seen (a ∷ b ∷ []) h =
    let t = both_true (bytes_eq a (codes "status")) (bytes_eq b (codes "1")) h in
    let first : a ≡ codes "status" = (bytes_decides a (codes "status")).0 t.0 in
    let second : b ≡ codes "1" = (bytes_decides b (codes "1")).0 t.1 in
    ap (λ (w : List ℕ). w ∷ b ∷ []) first ∙ ap (λ (w : List ℕ). codes "status" ∷ w ∷ []) second
first_seen (a ∷ b ∷ d ∷ words) h = absurd (cc)

worded : (name instr : List ℕ) (bits : Bits) (words : Option Words) (row : StatusRow) → with_words name instr bits words ≡ Some row
    → (ws : Words) × (words ≡ Some ws) × ((let x : StatusRow = record { name = name; instr = instr; bits = bits; words = ws } in x) ≡ row)
worded name instr bits None row h = absurd (cc)
worded name instr bits (Some ws) row h = (ws, refl, (let e : (let x : StatusRow = record { name = name; instr = instr; bits = bits; words = ws } in x) ≡ row = cc in e))

row_seen : (args : Words) (row : StatusRow) → register_in args ≡ Some row
    → (r : RegisterWords) × IsRegister r × (args ≡ r.name ∷ r.instr ∷ r.bits ∷ r.words) × (register_of r ≡ row)
row_seen [] row h = absurd (cc)
row_seen (a ∷ []) row h = absurd (cc)
row_seen (a ∷ b ∷ []) row h = absurd (cc)
row_seen (name ∷ instr ∷ bits ∷ words) row h =
    let t = then_some (named_row name instr words) (bits_if bits) row h in
    let p = holding (is_pattern bits) (bits_of bits) t.0 t.1 in
    let n = told (nat_le (length name) 255) (with_words name instr t.0 (words_if words)) row t.2 in
    let w = worded name instr t.0 (words_if words) row n.1 in
    let k = holding (nat_le 1 (length words) && nat_le (length words) 256) words w.0 w.1 in
    let count = both_true (nat_le 1 (length words)) (nat_le (length words) 256) k.0 in
    let r : RegisterWords = record { name = name; instr = instr; bits = bits; words = words } in (
      r,
      record { name = leb-true (length name) 255 n.0; bits = p.0; some = leb-true 1 (length words) count.0; few = leb-true (length words) 256 count.1 },
      refl,
      ap (λ (b : Bits). (let x : StatusRow = record { name = name; instr = instr; bits = b; words = words } in x)) p.1
          ∙ ap (λ (l : Words). (let x : StatusRow = record { name = name; instr = instr; bits = t.0; words = l } in x)) k.1 ∙ w.2,
    )

pub register_seen : (words : Words) (row : StatusRow) → register_line words ≡ Some row
    → (r : RegisterWords) × IsRegister r × (words ≡ register_words r) × (register_of r ≡ row)
register_seen words row h =
    let t = then_some register_in (after_key (codes "register") words) row h in
    let s = row_seen t.0 row t.2 in
    (s.0, s.1, key_first (codes "register") words t.0 t.1 ∙ ap (λ (args : Words). codes "register" ∷ args) s.2, s.3)

-- From the words to the view.

pub register_sees : (r : RegisterWords) → IsRegister r → register_line (register_words r) ≡ Some (register_of r)
register_sees r is =
    ap (option_and_then (named_row r.name r.instr r.words)) (held (is_pattern r.bits) (bits_of r.bits) is.bits)
    ∙ ap (λ (t : Bool). cond t (with_words r.name r.instr (bits_of r.bits) (words_if r.words)) None) (le-leb (length r.name) 255 is.name)
    ∙ ap (with_words r.name r.instr (bits_of r.bits)) (count_holds r.words is.some is.few)
