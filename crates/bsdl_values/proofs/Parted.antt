-- Each file has one without the entries of the design's own registers.
use Rattle.std.proofs.Common.{◌≡◌, ℕ, zero, suc, ◌<◌, List, [], ◌∷◌, ◌++◌, length, take, Option, Some, None, refl, ap, ◌∙◌, arith, append-nil}
use Rattle.bsdl_device.specs.declared.written.File.{File}
use Rattle.bsdl_device.specs.Shape.{joined}
use Rattle.bsdl_contents.specs.declared.entries.parted.Parted.{Parted}
use Rattle.bsdl_contents.specs.declared.entries.parted.OwnEntries.{OwnEntries}
use Rattle.bsdl_contents.specs.BaseFile.{own_in, with_access, IsParted}
use Rattle.bsdl_contents.proofs.Partings.{parted_none, parted_some}

-- empty strings
blanks : ℕ → List (List ℕ)
blanks zero = []
blanks (suc n) = [] ∷ blanks n

blanks_joined : (n : ℕ) → joined (blanks n) ≡ []
unfolding blanks
blanks_joined zero = refl
blanks_joined (suc n) = blanks_joined n

blanks_length : (n : ℕ) → length (blanks n) ≡ n
unfolding blanks
blanks_length zero = refl
blanks_length (suc n) = ap suc (blanks_length n)

-- as many strings as the others, of which the first is this
as_many : List ℕ → List (List ℕ) → List (List ℕ)
as_many bytes [] = []
as_many bytes (s ∷ strings) = bytes ∷ blanks (length strings)

as_many_joined : (bytes : List ℕ) (strings : List (List ℕ)) → 0 < length strings → joined (as_many bytes strings) ≡ bytes
unfolding as_many
as_many_joined bytes [] some = absurd (omega arith)
as_many_joined bytes (s ∷ strings) some = ap (λ (t : List ℕ). bytes ++ t) (blanks_joined (length strings)) ∙ append-nil bytes

as_many_length : (bytes : List ℕ) (strings : List (List ℕ)) → length (as_many bytes strings) ≡ length strings
unfolding as_many
as_many_length bytes [] = refl
as_many_length bytes (s ∷ strings) = ap suc (blanks_length (length strings))

pub parted_there : (f : File) → 0 < length f.access.strings → (p : Parted) × IsParted f p
parted_there f some = by (own_in (joined f.access.strings)) refl
  where
    by : (o : Option OwnEntries) → own_in (joined f.access.strings) ≡ o → (p : Parted) × IsParted f p
    by None is = (record { file = f; entries = [] }, parted_none f is)
    by (Some own) is =
        let strings = as_many (take own.place (joined f.access.strings)) f.access.strings in
        (record { file = with_access f strings; entries = own.entries }, parted_some f own strings is (as_many_joined (take own.place (joined f.access.strings)) f.access.strings some) (as_many_length (take own.place (joined f.access.strings)) f.access.strings))
