-- The entries of the design's own registers are read as they are spelled.
use Rattle.std.proofs.Common.{◌≡◌, ℕ, List, [], ◌∷◌, ◌++◌, Some, refl, ap, IsTrue}
use Rattle.bsdl_device.specs.Patterns.{MatchesBy, separated_by, is_filled}
use Rattle.bsdl_device.specs.Runs.{ContentWord, ContentPattern, Fits, NameRun, IntegerRun, IdentifierRun, MarkByte, comma, left_parenthesis, right_parenthesis}
use Rattle.bsdl_device.specs.Readers.{Read}
use Rattle.bsdl_device.proofs.Exact.{Exact, Anything}
use Rattle.bsdl_device.proofs.Matched.{Spelled, spelled_ended, spelled_pair, spelled_made}
use Rattle.bsdl_device.proofs.Listed.{AreSome}
use Rattle.bsdl_device.proofs.Views.{Free, all_free}
use Rattle.bsdl_contents.specs.Reader.{views}
use Rattle.bsdl_contents.proofs.Chosen.{whole_sound, whole_complete}
use Rattle.bsdl_contents.proofs.EntryLaws.{marks_law, name_law, integer_law, identifier_law, list_law}
use Rattle.bsdl_device.specs.declared.registers.values.RegisterEntry.{RegisterEntry}
use Rattle.bsdl_device.specs.Entries.{entry_words}
use Rattle.bsdl_contents.specs.EntriesReader.{head_at, length_at, instruction_at, entry_of, entry_at, entries_in}

-- Parts.

head_law : Exact ContentWord (List ℕ) (λ ws. head_at ws) (Spelled Fits Free (λ name. (NameRun name ∷ []) ++ (MarkByte 91 ∷ []))) Anything
unfolding head_at
head_law = spelled_ended Fits (views (MarkByte 91 ∷ [])) (MarkByte 91 ∷ []) (λ name. NameRun name ∷ []) name_law (marks_law (MarkByte 91 ∷ []) (refl, tt)) (λ b left m. tt)

length_law : Exact ContentWord ℕ (λ ws. length_at ws) (Spelled Fits Free (λ value. (IntegerRun value ∷ []) ++ (MarkByte 93 ∷ left_parenthesis ∷ []))) Anything
unfolding length_at
length_law =
    let marks : List ContentPattern = MarkByte 93 ∷ left_parenthesis ∷ [] in
    spelled_ended Fits (views marks) marks (λ value. IntegerRun value ∷ []) integer_law (marks_law marks (refl, (refl, tt))) (λ b left m. tt)

instruction_law : Exact ContentWord (List ℕ) (λ ws. instruction_at ws) (Spelled Fits Free (λ name. (IdentifierRun name ∷ []) ++ (right_parenthesis ∷ []))) Anything
unfolding instruction_at
instruction_law = spelled_ended Fits (views (right_parenthesis ∷ [])) (right_parenthesis ∷ []) (λ name. IdentifierRun name ∷ []) identifier_law (marks_law (right_parenthesis ∷ []) (refl, tt)) (λ b left m. tt)

pub entry_law : Exact ContentWord RegisterEntry (λ ws. entry_at ws) (Spelled Fits Free entry_words) Anything
unfolding entry_at
entry_law =
    let part : RegisterEntry → (List ℕ) × (ℕ × List ℕ) = λ e. (e.name, (e.length, e.instruction)) in
    spelled_made Fits Free entry_words entry_of part (λ e. refl) (λ x h. tt) (λ y h. (tt, (tt, tt))) (λ x. refl) (λ y. refl)
    (spelled_pair Fits Free (λ _ z. Unit {0} × Unit {0}) (λ name. (NameRun name ∷ []) ++ (MarkByte 91 ∷ [])) (λ _ (z : ℕ × List ℕ). ((IntegerRun z.0 ∷ []) ++ (MarkByte 93 ∷ left_parenthesis ∷ [])) ++ ((IdentifierRun z.1 ∷ []) ++ (right_parenthesis ∷ [])))
    head_law
    (λ _. spelled_pair Fits Free (λ _ _. Unit {0}) (λ value. (IntegerRun value ∷ []) ++ (MarkByte 93 ∷ left_parenthesis ∷ [])) (λ _ name. (IdentifierRun name ∷ []) ++ (right_parenthesis ∷ [])) length_law (λ _. instruction_law) (λ x y b left m t. tt))
    (λ x y b left m t. tt))

-- All.

-- what is read are some entries, spelled by the words
pub record AreEntries (entries : List RegisterEntry) (ws : List ContentWord) : Type 0 where
  pub filled : IsTrue (is_filled entries)
  pub spelled : MatchesBy Fits (separated_by comma entry_words entries) ws

pub entries_sound : (ws : List ContentWord) (entries : List RegisterEntry) → entries_in ws ≡ Some entries → AreEntries entries ws
entries_sound ws entries h =
    let s = whole_sound (AreSome Free) (λ xs. separated_by comma entry_words xs) (list_law entry_words entry_law) ws entries h in
    record { filled = s.0.0; spelled = s.1 }

pub entries_complete : (ws : List ContentWord) (entries : List RegisterEntry) → IsTrue (is_filled entries) → MatchesBy Fits (separated_by comma entry_words entries) ws → entries_in ws ≡ Some entries
entries_complete ws entries filled m =
    ap (λ (r : Read ContentWord (List RegisterEntry)). r.0) (whole_complete (AreSome Free) (λ xs. separated_by comma entry_words xs) (list_law entry_words entry_law) refl ws entries (filled, all_free entries) m)
