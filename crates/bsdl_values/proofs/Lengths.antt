-- A file with as many other strings of REGISTER_ACCESS has the same places of words, and breaks the same rules.
use Rattle.std.proofs.Common.{◌≡◌, ℕ, zero, suc, ◌+◌, ◌-◌, List, [], ◌∷◌, ◌++◌, length, take, Option, Some, None, refl, sym, ap, ◌∙◌, arith, length-append}
use Rattle.std.specs.Prelude.{find}
use Rattle.std.specs.Option.{option_map}
use Rattle.bsdl_lexicon.specs.declared.symbol.BsdlSymbol.TheVariants.{Semicolon, Ampersand}
use Rattle.bsdl_device.specs.declared.written.File.{File}
use Rattle.bsdl_device.specs.declared.entries.Contents.{Contents}
use Rattle.bsdl_device.specs.Patterns.{each_after}
use Rattle.bsdl_device.specs.Shape.{Pattern, StringOf, Mark, strings_words, access_section, sections, joined, section_word, code_words}
use Rattle.bsdl_device.specs.Meanings.{Check, MeaningFault, checks, fault_of, first_meaning_fault}
use Rattle.bsdl_device.specs.Faults as faults
use Rattle.bsdl_checks.specs.Counts.{all_words}
use Rattle.bsdl_contents.specs.BaseFile.{with_access}

-- Strings.

after_length : (xs ys : List (List ℕ)) → length xs ≡ length ys → length (each_after (Mark Ampersand) (λ bytes. StringOf bytes ∷ []) xs) ≡ length (each_after (Mark Ampersand) (λ bytes. StringOf bytes ∷ []) ys)
after_length [] [] h = refl
after_length [] (y ∷ ys) h = absurd (omega (arith, h))
after_length (x ∷ xs) [] h = absurd (omega (arith, h))
after_length (x ∷ xs) (y ∷ ys) h = let rest : length xs ≡ length ys = omega (arith, h) in ap (λ (n : ℕ). suc (suc n)) (after_length xs ys rest)

strings_length : (xs ys : List (List ℕ)) → length xs ≡ length ys → length (strings_words xs) ≡ length (strings_words ys)
strings_length [] [] h = refl
strings_length [] (y ∷ ys) h = absurd (omega (arith, h))
strings_length (x ∷ xs) [] h = absurd (omega (arith, h))
strings_length (x ∷ xs) (y ∷ ys) h = let rest : length xs ≡ length ys = omega (arith, h) in ap (λ (n : ℕ). suc n) (after_length xs ys rest)

access_length : (f : File) (strings : List (List ℕ)) → length strings ≡ length f.access.strings → length (access_section (with_access f strings)) ≡ length (access_section f)
access_length f strings h =
    let here : length (strings_words strings ++ Mark Semicolon ∷ []) ≡ length (strings_words f.access.strings ++ Mark Semicolon ∷ []) =
    length-append (strings_words strings) (Mark Semicolon ∷ []) ∙ ap (λ (n : ℕ). n + 1) (strings_length strings f.access.strings h) ∙ sym (length-append (strings_words f.access.strings) (Mark Semicolon ∷ [])) in
    ap (λ (n : ℕ). suc (suc (suc (suc (suc (suc (suc n))))))) here

-- Sections.

abbrev AreAsLong : List (List Pattern) → List (List Pattern) → Type 0
AreAsLong [] [] = Unit {0}
AreAsLong [] (y ∷ ys) = ⊥
AreAsLong (x ∷ xs) [] = ⊥
AreAsLong (x ∷ xs) (y ∷ ys) = (length x ≡ length y) × AreAsLong xs ys

taken : (n : ℕ) (xs ys : List (List Pattern)) → AreAsLong xs ys → length (joined (take n xs)) ≡ length (joined (take n ys))
taken zero xs ys h = refl
taken (suc n) [] [] h = refl
taken (suc n) [] (y ∷ ys) h = absurd h
taken (suc n) (x ∷ xs) [] h = absurd h
taken (suc n) (x ∷ xs) (y ∷ ys) h =
    length-append x (joined (take n xs)) ∙ ap (λ (k : ℕ). k + length (joined (take n xs))) h.0 ∙ ap (λ (k : ℕ). length y + k) (taken n xs ys h.1) ∙ sym (length-append y (joined (take n ys)))

sections_long : (f : File) (strings : List (List ℕ)) → length strings ≡ length f.access.strings → AreAsLong (sections (with_access f strings)) (sections f)
sections_long f strings h = (refl, (refl, (refl, (refl, (refl, (refl, (refl, (refl, (refl, (refl, (refl, (refl, (refl, (access_length f strings h, (refl, (refl, (refl, tt)))))))))))))))))

pub section_same : (f : File) (strings : List (List ℕ)) → length strings ≡ length f.access.strings → (number : ℕ) → section_word (with_access f strings) number ≡ section_word f number
section_same f strings h number = taken (number - 1) (sections (with_access f strings)) (sections f) (sections_long f strings h)

pub words_same : (f : File) (strings : List (List ℕ)) → length strings ≡ length f.access.strings → all_words (with_access f strings) ≡ all_words f
unfolding all_words
words_same f strings h = taken 17 (sections (with_access f strings)) (sections f) (sections_long f strings h)

pub string_same : (f : File) (strings : List (List ℕ)) → length strings ≡ length f.access.strings → (s : faults.StringSection) → faults.string_word (with_access f strings) s ≡ faults.string_word f s
string_same f strings h faults.PinMap = ap (λ (n : ℕ). n + 5) (section_same f strings h 7)
string_same f strings h faults.Opcodes = ap (λ (n : ℕ). n + 7) (section_same f strings h 11)
string_same f strings h faults.Capture = ap (λ (n : ℕ). n + 7) (section_same f strings h 12)
string_same f strings h faults.Idcode = ap (λ (n : ℕ). n + 7) (section_same f strings h 13)
string_same f strings h faults.Usercode = ap (λ (n : ℕ). n + length (code_words f) + 7) (section_same f strings h 13)
string_same f strings h faults.Access = ap (λ (n : ℕ). n + 7) (section_same f strings h 14)
string_same f strings h faults.Rows = ap (λ (n : ℕ). n + 7) (section_same f strings h 16)

-- Rules.

told_same : (f : File) (strings : List (List ℕ)) → length strings ≡ length f.access.strings → (found : Option Check) → option_map (fault_of (with_access f strings)) found ≡ option_map (fault_of f) found
told_same f strings h None = refl
told_same f strings h (Some k) = ap (λ (n : ℕ). let fault : MeaningFault = record { kind = k.kind; word = n } in Some fault) (section_same f strings h k.section)

pub meaning_same : (f : File) (strings : List (List ℕ)) → length strings ≡ length f.access.strings → (c : Contents) → first_meaning_fault (with_access f strings) c ≡ first_meaning_fault f c
meaning_same f strings h c = told_same f strings h (find (λ (k : Check). k.fails) (checks f c))
