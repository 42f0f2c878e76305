-- What is given of a line whose parts are given one after another.
use Rattle.std.proofs.Common.{◌≡◌, ℕ, List, [], ◌∷◌, ◌++◌, map, take, Option, refl, sym, ap, ◌∙◌, subst, codes, append_assoc}
use Rattle.std.specs.List.{flat_map}
use Rattle.std.specs.Fmt.{decimal}
use Rattle.edge_io.specs.Shelf.{appended}
use Rattle.output_lines.specs.declared.field.Field.{Field}
use Rattle.output_lines.specs.Lines.{field_text, blank_word, blank_field, words_line, line_text}
use Rattle.output_lines.proofs.Pieces.{front-of_first, front-of_second, front-of_third, appended-twice}

-- the texts of fields, each behind a blank
fields_are : (fields : List Field) → flat_map blank_word (map field_text fields) ≡ flat_map blank_field fields
fields_are [] = refl
fields_are (field ∷ fields) = ap (λ (l : List ℕ). blank_field field ++ l) (fields_are fields)

words_are : (first : List ℕ) (others : List (List ℕ)) → words_line first others ≡ first ++ (flat_map blank_word others ++ codes "\n")
unfolding words_line
words_are first others = refl

line_is : (first : Field) (others : List Field) → line_text first others ≡ field_text first ++ (flat_map blank_field others ++ codes "\n")
line_is first others =
    words_are (field_text first) (map field_text others) ∙ ap (λ (l : List ℕ). field_text first ++ (l ++ codes "\n")) (fields_are others)

-- the texts of numbers, each behind a blank
pub numbers_are : (numbers : List ℕ) → flat_map (λ (n : ℕ). blank_word (decimal n)) numbers ≡ flat_map blank_word (map decimal numbers)
numbers_are [] = refl
numbers_are (n ∷ numbers) = ap (λ (l : List ℕ). blank_word (decimal n) ++ l) (numbers_are numbers)

-- the front of a line
abbrev pub IsFront : List ℕ → Option (List ℕ) → Option (List ℕ) → Type 0
IsFront whole told now = (n : ℕ) × (now ≡ appended (take n whole) told)

pub line_first : (first : Field) (others : List Field) (told now : Option (List ℕ)) (k : ℕ) → now ≡ appended (take k (field_text first)) told → IsFront (line_text first others) told now
line_first first others told now k last =
    subst (λ (w : List ℕ). IsFront w told now) (sym (line_is first others)) (front-of_first (field_text first) (flat_map blank_field others) (codes "\n") told now k last)

pub line_second : (first : Field) (others : List Field) (told mid now : Option (List ℕ)) (k : ℕ) → mid ≡ appended (field_text first) told
    → now ≡ appended (take k (flat_map blank_field others)) mid → IsFront (line_text first others) told now
line_second first others told mid now k one last =
    subst (λ (w : List ℕ). IsFront w told now) (sym (line_is first others)) (front-of_second (field_text first) (flat_map blank_field others) (codes "\n") told mid now k one last)

pub line_third : (first : Field) (others : List Field) (told mid late now : Option (List ℕ)) (k : ℕ) → mid ≡ appended (field_text first) told
    → late ≡ appended (flat_map blank_field others) mid → now ≡ appended (take k (codes "\n")) late → IsFront (line_text first others) told now
line_third first others told mid late now k one two last =
    subst (λ (w : List ℕ). IsFront w told now) (sym (line_is first others)) (front-of_third (field_text first) (flat_map blank_field others) (codes "\n") told mid late now k one two last)

pub words_first : (first : List ℕ) (others : List (List ℕ)) (told now : Option (List ℕ)) (k : ℕ) → now ≡ appended (take k first) told → IsFront (words_line first others) told now
words_first first others told now k last =
    subst (λ (w : List ℕ). IsFront w told now) (sym (words_are first others)) (front-of_first first (flat_map blank_word others) (codes "\n") told now k last)

pub words_second : (first : List ℕ) (others : List (List ℕ)) (told mid now : Option (List ℕ)) (k : ℕ) → mid ≡ appended first told
    → now ≡ appended (take k (flat_map blank_word others)) mid → IsFront (words_line first others) told now
words_second first others told mid now k one last =
    subst (λ (w : List ℕ). IsFront w told now) (sym (words_are first others)) (front-of_second first (flat_map blank_word others) (codes "\n") told mid now k one last)

pub words_third : (first : List ℕ) (others : List (List ℕ)) (told mid late now : Option (List ℕ)) (k : ℕ) → mid ≡ appended first told
    → late ≡ appended (flat_map blank_word others) mid → now ≡ appended (take k (codes "\n")) late → IsFront (words_line first others) told now
words_third first others told mid late now k one two last =
    subst (λ (w : List ℕ). IsFront w told now) (sym (words_are first others)) (front-of_third first (flat_map blank_word others) (codes "\n") told mid late now k one two last)

-- three parts that were given are the whole
appended_three : (a b c : List ℕ) (told mid late now : Option (List ℕ)) → mid ≡ appended a told → late ≡ appended b mid → now ≡ appended c late
    → now ≡ appended (a ++ (b ++ c)) told
appended_three a b c told mid late now one two three =
    three ∙ ap (appended c) (two ∙ ap (appended b) one ∙ appended-twice told a b) ∙ appended-twice told (a ++ b) c
    ∙ ap (λ (l : List ℕ). appended l told) (append_assoc a b c)

pub line_whole : (first : Field) (others : List Field) (told mid late now : Option (List ℕ)) → mid ≡ appended (field_text first) told
    → late ≡ appended (flat_map blank_field others) mid → now ≡ appended (codes "\n") late → now ≡ appended (line_text first others) told
line_whole first others told mid late now one two three =
    appended_three (field_text first) (flat_map blank_field others) (codes "\n") told mid late now one two three
    ∙ ap (λ (l : List ℕ). appended l told) (sym (line_is first others))

pub words_whole : (first : List ℕ) (others : List (List ℕ)) (told mid late now : Option (List ℕ)) → mid ≡ appended first told
    → late ≡ appended (flat_map blank_word others) mid → now ≡ appended (codes "\n") late → now ≡ appended (words_line first others) told
words_whole first others told mid late now one two three =
    appended_three first (flat_map blank_word others) (codes "\n") told mid late now one two three
    ∙ ap (λ (l : List ℕ). appended l told) (sym (words_are first others))
