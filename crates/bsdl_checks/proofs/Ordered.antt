-- The first rule that is broken, by the kinds of the rules.
use Rattle.std.proofs.Common.{◌≡◌, Bool, true, false, cond, List, [], ◌∷◌, map, find, length, Some, refl}
use Rattle.std.specs.Option.{option_map}
use Rattle.bsdl_device.specs.declared.meaning.MeaningKind.{MeaningKind}
use Rattle.bsdl_device.specs.declared.written.File.{File}
use Rattle.bsdl_device.specs.declared.entries.Contents.{Contents}
use Rattle.bsdl_device.specs.Shape.{file_words}
use Rattle.bsdl_device.specs.Meanings.{Check, MeaningFault, fault_of, first_meaning_fault}
use Rattle.bsdl_checks.specs.Ordered.{order, section_of, rule_fails}
use Rattle.bsdl_checks.specs.Counts.{first_word, all_words}

check_of : File → Contents → MeaningKind → Check
check_of f c kind = record { kind = kind; section = section_of kind; fails = rule_fails f c kind }

-- the fault of a kind
abbrev pub fault_at : File → MeaningKind → MeaningFault
fault_at f kind = record { kind = kind; word = first_word f (section_of kind) }

found-map : (f : File) (c : Contents) (kinds : List MeaningKind)
    → option_map (fault_of f) (find (λ (k : Check). k.fails) (map (check_of f c) kinds)) ≡ option_map (fault_at f) (find (rule_fails f c) kinds)
unfolding check_of first_word
found-map f c [] = refl
found-map f c (kind ∷ kinds) = by (found-map f c kinds) (rule_fails f c kind)
  where
    by : option_map (fault_of f) (find (λ (k : Check). k.fails) (map (check_of f c) kinds)) ≡ option_map (fault_at f) (find (rule_fails f c) kinds)
        → (b : Bool) → option_map (fault_of f) (cond b (Some (check_of f c kind)) (find (λ (k : Check). k.fails) (map (check_of f c) kinds))) ≡ option_map (fault_at f) (cond b (Some kind) (find (rule_fails f c) kinds))
    by rest true = refl
    by rest false = rest

pub by_kinds : (f : File) (c : Contents) → first_meaning_fault f c ≡ option_map (fault_at f) (find (rule_fails f c) order)
unfolding check_of
by_kinds f c = found-map f c order

pub all_words_are : (f : File) → all_words f ≡ length (file_words f)
unfolding all_words
all_words_are f = refl
