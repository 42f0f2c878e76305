-- Rows are read from their words alone, and from all of them.
use Rattle.std.proofs.Common.{◌≡◌, ℕ, Bool, List, [], ◌∷◌, ◌++◌, Option, Some, None, refl, sym, ap, ◌∙◌, append_assoc, inl, inr, ◌⊎◌}
use Rattle.std.specs.Prelude.{codes}
use Rattle.std.specs.Option.{option_map_or}
use Rattle.cell_library.specs.declared.codes.BoundaryKind.{BoundaryKind}
use Rattle.cell_library.specs.declared.codes.Function.{Function}
use Rattle.bsdl_device.specs.declared.values.Safe.{Safe}
use Rattle.bsdl_device.specs.declared.values.Disable.{Disable}
use Rattle.bsdl_device.specs.declared.entries.PortBit.{PortBit}
use Rattle.bsdl_device.specs.declared.entries.RowEntry.{RowEntry}
use Rattle.bsdl_device.specs.Patterns.{MatchesBy}
use Rattle.bsdl_device.specs.Runs.{ContentWord, Run, Other, ContentPattern, KeyRun, NameRun, IntegerRun, Fits, mark_in, left_parenthesis, right_parenthesis, comma, star}
use Rattle.bsdl_device.specs.Grammar.{cell_word, function_word, safe_word, bit_word, index_words, row_port_words, disable_words, row_words}
use Rattle.bsdl_device.specs.Readers.{Read}
use Rattle.bsdl_device.proofs.Exact.{Exact, Anything, exact_weaker}
use Rattle.bsdl_device.proofs.Choices.{NotNext}
use Rattle.bsdl_device.proofs.Matched.{Spelled, exact_stops, spelled_ended, spelled_pair, spelled_made}
use Rattle.bsdl_device.proofs.Views.{Free}
use Rattle.bsdl_contents.specs.Reader as reading
use Rattle.bsdl_contents.specs.Reader.{views, index_at, optional_index_at, port_bit_at, row_port_at, disable_at, optional_disable_at, row_head_at, row_role_at, row_values_at, row_at}
use Rattle.bsdl_contents.proofs.Chosen.{Ways, spelled_choice}
use Rattle.bsdl_contents.proofs.EntryLaws.{marks_law, name_law, integer_law, cell_law, function_law, safe_law, bit_law, mark_next}

nothing_law : Exact ContentWord (Unit {0}) (λ ws. reading.nothing_at ws) (Spelled Fits Free (λ _. [])) Anything
nothing_law = marks_law [] tt

-- What may be left out behind a mark.
optional_ways : {X : Type 0} (mark : ContentPattern) (words : X → List ContentPattern) (spelling : Option X → List ContentPattern) → ((x : X) → spelling (Some x) ≡ mark ∷ words x) → spelling None ≡ [] → Ways X (Option X) (Unit {0}) mark reading.something reading.nothing Free Free Free words (λ _. []) spelling
optional_ways {X} mark words spelling some none = record {
  each = each;
  fine_to = λ x h. tt;
  fine_from = λ x h. tt;
  fair_to = λ z h. tt;
  fair_from = λ z h. tt;
  spelled = some;
  other_spelled = λ z. none;
}
  where
    each : (y : Option X) → ((x : X) × (y ≡ reading.something x)) ⊎ ((z : Unit {0}) × (y ≡ reading.nothing z))
    each None = inr (tt, refl)
    each (Some x) = inl (x, refl)

-- where no words are before it, what follows is next
nothing_next : (n : ℕ) (p left : List ContentWord) → MatchesBy Fits [] p → NotNext (mark_in n) left → NotNext (mark_in n) (p ++ left)
nothing_next n [] left m t = t
nothing_next n (w ∷ p) left m t = absurd m

-- Ports.

abbrev behind_index : ℕ → List ContentPattern
behind_index index = IntegerRun index ∷ right_parenthesis ∷ []

index_law : Exact ContentWord ℕ (λ ws. index_at ws) (Spelled Fits Free behind_index) Anything
unfolding index_at
index_law =
    let last : List ContentPattern = right_parenthesis ∷ [] in
    spelled_ended Fits (views last) last (λ index. IntegerRun index ∷ []) integer_law (marks_law last (refl, tt)) (λ b left m. tt)

abbrev index_spelling : Option ℕ → List ContentPattern
index_spelling o = option_map_or index_words o []

optional_index_law : Exact ContentWord (Option ℕ) (λ ws. optional_index_at ws) (Spelled Fits Free index_spelling) (NotNext (mark_in 40))
unfolding optional_index_at
optional_index_law =
    spelled_choice left_parenthesis reading.something reading.nothing (optional_ways left_parenthesis behind_index index_spelling (λ x. refl) refl) (λ w h. h) (λ w h. h)
    (exact_stops index_law (λ left t. tt)) (exact_stops nothing_law (λ left t. tt)) (λ z p left m t. nothing_next 40 p left m t)

abbrev port_bit_words : PortBit → List ContentPattern
port_bit_words b = NameRun b.port ∷ option_map_or index_words b.index []

port_bit_law : Exact ContentWord PortBit (λ ws. port_bit_at ws) (Spelled Fits Free port_bit_words) (NotNext (mark_in 40))
unfolding port_bit_at
port_bit_law =
    let part : PortBit → (List ℕ) × Option ℕ = λ b. (b.port, b.index) in
    spelled_made Fits Free port_bit_words reading.port_bit_of part (λ b. refl) (λ x h. tt) (λ y h. (tt, tt)) (λ x. refl) (λ y. refl)
    (spelled_pair Fits Free (λ _ _. Unit {0}) (λ name. NameRun name ∷ []) (λ _ o. index_spelling o) name_law (λ _. optional_index_law) (λ x y b left m t. tt))

port_ways : Ways (Unit {0}) (Option PortBit) PortBit star reading.nothing reading.something Free Free Free (λ _. []) port_bit_words row_port_words
port_ways = record {
  each = each;
  fine_to = λ x h. tt;
  fine_from = λ x h. tt;
  fair_to = λ z h. tt;
  fair_from = λ z h. tt;
  spelled = λ x. refl;
  other_spelled = λ z. refl;
}
  where
    each : (y : Option PortBit) → ((x : Unit {0}) × (y ≡ reading.nothing x)) ⊎ ((z : PortBit) × (y ≡ reading.something z))
    each None = inl (tt, refl)
    each (Some b) = inr (b, refl)

port_not_star : (z : PortBit) (p left : List ContentWord) → MatchesBy Fits (port_bit_words z) p → NotNext (mark_in 42) (p ++ left)
port_not_star z [] left m = absurd m
port_not_star z (Run bytes ∷ p) left m = refl
port_not_star z (Other b ∷ p) left m = absurd (let never : None ≡ Some z.port = m.0 in cc)

row_port_law : Exact ContentWord (Option PortBit) (λ ws. row_port_at ws) (Spelled Fits Free row_port_words) (NotNext (mark_in 40))
unfolding row_port_at
row_port_law = spelled_choice star reading.nothing reading.something port_ways (λ w h. h) (λ w h. h) (exact_stops nothing_law (λ left t. tt)) port_bit_law (λ z p left m t. port_not_star z p left m)

-- Disable values.

abbrev behind_comma : Disable → List ContentPattern
behind_comma d = IntegerRun d.control ∷ comma ∷ KeyRun (bit_word d.value) ∷ comma ∷ KeyRun (codes "Z") ∷ []

disable_law : Exact ContentWord Disable (λ ws. disable_at ws) (Spelled Fits Free behind_comma) Anything
unfolding disable_at
disable_law =
    let marks : List ContentPattern = comma ∷ [] in
    let last : List ContentPattern = comma ∷ KeyRun (codes "Z") ∷ [] in
    let part : Disable → ℕ × Bool = λ d. (d.control, d.value) in
    spelled_made Fits Free behind_comma reading.disable_of part (λ d. refl) (λ x h. tt) (λ y h. (tt, tt)) (λ x. refl) (λ y. refl)
    (spelled_pair Fits Free (λ _ _. Unit {0}) (λ control. (IntegerRun control ∷ []) ++ marks) (λ _ value. (KeyRun (bit_word value) ∷ []) ++ last)
    (spelled_ended Fits (views marks) marks (λ control. IntegerRun control ∷ []) integer_law (marks_law marks (refl, tt)) (λ b left m. tt))
    (λ _. spelled_ended Fits (views last) last (λ value. KeyRun (bit_word value) ∷ []) bit_law (marks_law last (refl, (refl, tt))) (λ b left m. tt)) (λ x y b left m t. tt))

abbrev disable_spelling : Option Disable → List ContentPattern
disable_spelling o = option_map_or disable_words o []

optional_disable_law : Exact ContentWord (Option Disable) (λ ws. optional_disable_at ws) (Spelled Fits Free disable_spelling) (NotNext (mark_in 44))
unfolding optional_disable_at
optional_disable_law =
    spelled_choice comma reading.something reading.nothing (optional_ways comma behind_comma disable_spelling (λ x. refl) refl) (λ w h. h) (λ w h. h)
    (exact_stops disable_law (λ left t. tt)) (exact_stops nothing_law (λ left t. tt)) (λ z p left m t. nothing_next 44 p left m t)

-- Rows.

abbrev Head : Type 0
Head = ℕ × BoundaryKind

abbrev Role : Type 0
Role = Option PortBit × Function

abbrev Values : Type 0
Values = Safe × Option Disable

abbrev head_words : Head → List ContentPattern
head_words z = IntegerRun z.0 ∷ left_parenthesis ∷ KeyRun (cell_word z.1) ∷ comma ∷ []

abbrev role_words : Role → List ContentPattern
role_words z = (row_port_words z.0 ++ comma ∷ []) ++ KeyRun (function_word z.1) ∷ comma ∷ []

abbrev values_words : Values → List ContentPattern
values_words z = KeyRun (safe_word z.0) ∷ (disable_spelling z.1 ++ right_parenthesis ∷ [])

-- a pair of which nothing more is asked
loose_pair : {X Y : Type 0} {r : List ContentWord → Read ContentWord (X × Y)} (words : X × Y → List ContentPattern) {A : List ContentWord → Type 0} → Exact ContentWord (X × Y) r (Spelled Fits (λ z. Unit {0} × Unit {0}) words) A → Exact ContentWord (X × Y) r (Spelled Fits Free words) A
loose_pair words l = exact_weaker l (λ x p s. (tt, s.1)) (λ x p s. ((tt, tt), s.1))

head_law : Exact ContentWord Head (λ ws. row_head_at ws) (Spelled Fits Free head_words) Anything
unfolding row_head_at
head_law =
    let marks : List ContentPattern = left_parenthesis ∷ [] in
    let last : List ContentPattern = comma ∷ [] in
    loose_pair head_words (spelled_pair Fits Free (λ _ _. Unit {0}) (λ number. (IntegerRun number ∷ []) ++ marks) (λ _ k. (KeyRun (cell_word k) ∷ []) ++ last)
    (spelled_ended Fits (views marks) marks (λ number. IntegerRun number ∷ []) integer_law (marks_law marks (refl, tt)) (λ b left m. tt))
    (λ _. spelled_ended Fits (views last) last (λ k. KeyRun (cell_word k) ∷ []) cell_law (marks_law last (refl, tt)) (λ b left m. tt)) (λ x y b left m t. tt))

role_law : Exact ContentWord Role (λ ws. row_role_at ws) (Spelled Fits Free role_words) Anything
unfolding row_role_at
role_law =
    let last : List ContentPattern = comma ∷ [] in
    loose_pair role_words (spelled_pair Fits Free (λ _ _. Unit {0}) (λ port. row_port_words port ++ last) (λ _ f. (KeyRun (function_word f) ∷ []) ++ last)
    (spelled_ended Fits (views last) last row_port_words row_port_law (marks_law last (refl, tt)) (λ b left m. mark_next 44 40 refl [] b left m))
    (λ _. spelled_ended Fits (views last) last (λ f. KeyRun (function_word f) ∷ []) function_law (marks_law last (refl, tt)) (λ b left m. tt)) (λ x y b left m t. tt))

values_law : Exact ContentWord Values (λ ws. row_values_at ws) (Spelled Fits Free values_words) Anything
unfolding row_values_at
values_law =
    let last : List ContentPattern = right_parenthesis ∷ [] in
    loose_pair values_words (spelled_pair Fits Free (λ _ _. Unit {0}) (λ s. KeyRun (safe_word s) ∷ []) (λ _ o. disable_spelling o ++ last) safe_law
    (λ _. spelled_ended Fits (views last) last disable_spelling optional_disable_law (marks_law last (refl, tt)) (λ b left m. mark_next 41 44 refl [] b left m)) (λ x y b left m t. tt))

words_are : (r : RowEntry) → head_words (r.number, r.cell) ++ (role_words (r.port, r.function) ++ values_words (r.safe, r.disable)) ≡ row_words r
words_are r =
    let tail : List ContentPattern = KeyRun (function_word r.function) ∷ comma ∷ [] in
    let values : List ContentPattern = values_words (r.safe, r.disable) in
    let middle : List ContentPattern = comma ∷ KeyRun (function_word r.function) ∷ comma ∷ KeyRun (safe_word r.safe) ∷ disable_spelling r.disable in
    ap (λ (l : List ContentPattern). head_words (r.number, r.cell) ++ l)
    (append_assoc (row_port_words r.port ++ comma ∷ []) tail values
    ∙ append_assoc (row_port_words r.port) (comma ∷ []) (tail ++ values)
    ∙ sym (append_assoc (row_port_words r.port) middle (right_parenthesis ∷ [])))

pub row_law : Exact ContentWord RowEntry (λ ws. row_at ws) (Spelled Fits Free row_words) Anything
unfolding row_at
row_law =
    let part : RowEntry → Head × (Role × Values) = λ r. ((r.number, r.cell), ((r.port, r.function), (r.safe, r.disable))) in
    spelled_made Fits Free row_words reading.row_of part (λ r. refl) (λ x h. tt) (λ y h. (tt, (tt, tt))) (λ x. words_are (reading.row_of x)) (λ y. sym (words_are y))
    (spelled_pair Fits Free (λ _ _. Unit {0} × Unit {0}) head_words (λ _ z. role_words z.0 ++ values_words z.1) head_law
    (λ _. spelled_pair Fits Free (λ _ _. Unit {0}) role_words (λ _ z. values_words z) role_law (λ _. values_law) (λ x y b left m t. tt)) (λ x y b left m t. tt))
