-- What is told of the entries of the design's own registers, and of the file without them.
use Rattle.std.proofs.Common.{◌≡◌, ℕ, ◌+◌, ◌-◌, List, [], ◌∷◌, ◌++◌, length, take, drop, Option, Some, None, refl, sym, ap, subst, ◌∙◌, arith, append-nil, length-append}
use Rattle.std.specs.Prelude.{option_and_then}
use Rattle.std.specs.Option.{option_map}
use Rattle.std.proofs.lemmas.List.{take_all, length-drop}
use Rattle.bsdl_device.specs.declared.written.File.{File}
use Rattle.bsdl_device.specs.Runs.{content_words}
use Rattle.bsdl_device.specs.Shape.{joined}
use Rattle.bsdl_device.specs.declared.registers.values.RegisterEntry.{RegisterEntry}
use Rattle.bsdl_contents.specs.declared.entries.parted.OwnEntries.{OwnEntries}
use Rattle.bsdl_contents.specs.OwnPlaces.{place_from}
use Rattle.bsdl_contents.specs.EntriesReader.{entries_in}
use Rattle.bsdl_contents.specs.BaseFile.{own_at, own_in, with_access, IsPartedAs, KeepsFront}
use Rattle.bsdl_contents.proofs.Partings.{parted_none, parted_some}

-- The entries.

pub own_none : (bytes : List ℕ) → None ≡ place_from None 0 bytes → None ≡ own_in bytes
own_none bytes h = ap (option_and_then (own_at bytes)) h

abbrev tail_at : List ℕ → ℕ → List ℕ
tail_at bytes place = take (length bytes - (place + 1)) (drop (place + 1) bytes)

tail_is : (bytes : List ℕ) (place : ℕ) → tail_at bytes place ≡ drop (place + 1) bytes
tail_is bytes place = take_all (length bytes - (place + 1)) (drop (place + 1) bytes) (omega (arith, length-drop (place + 1) bytes))

abbrev made_at : ℕ → List RegisterEntry → OwnEntries
made_at place entries = record { place = place; entries = entries }

read_at : (bytes : List ℕ) (place : ℕ) (read : Option (List RegisterEntry)) → Some place ≡ place_from None 0 bytes → entries_in (content_words (tail_at bytes place)) ≡ read → option_map (made_at place) read ≡ own_in bytes
read_at bytes place read h k =
    ap (option_map (made_at place)) (sym k ∙ ap (λ (l : List ℕ). entries_in (content_words l)) (tail_is bytes place)) ∙ ap (option_and_then (own_at bytes)) h

pub own_wrong : (bytes : List ℕ) (place : ℕ) → Some place ≡ place_from None 0 bytes → entries_in (content_words (tail_at bytes place)) ≡ None → None ≡ own_in bytes
own_wrong bytes place h k = read_at bytes place None h k

pub own_found : (bytes : List ℕ) (place : ℕ) (entries : List RegisterEntry) → Some place ≡ place_from None 0 bytes → entries_in (content_words (tail_at bytes place)) ≡ Some entries → Some (made_at place entries) ≡ own_in bytes
own_found bytes place entries h k = read_at bytes place (Some entries) h k

-- Strings.

pub joined_one : (bytes : List ℕ) → joined ([] ++ bytes ∷ []) ≡ bytes
joined_one bytes = append-nil bytes

pub joined_more : (strings : List (List ℕ)) → joined (strings ++ [] ∷ []) ≡ joined strings
joined_more [] = refl
joined_more (s ∷ strings) = ap (λ (t : List ℕ). s ++ t) (joined_more strings)

pub one_more : (strings : List (List ℕ)) (s : List ℕ) → length (strings ++ s ∷ []) ≡ length strings + 1
one_more strings s = length-append strings (s ∷ [])

-- The file.

pub told_none : (f : File) (bytes : List ℕ) (entries : List RegisterEntry) → bytes ≡ joined f.access.strings → None ≡ own_in bytes → entries ≡ [] → IsPartedAs f f entries
told_none f bytes entries are none nil =
    subst (λ (es : List RegisterEntry). IsPartedAs f f es) (sym nil) (parted_none f (sym (none ∙ ap own_in are)))

pub kept_front : (f g : File) (bytes : List ℕ) (strings : List (List ℕ)) (place count : ℕ) → joined strings ≡ take place bytes → length strings ≡ count → count ≡ length f.access.strings → g ≡ with_access f strings → KeepsFront f g bytes place
kept_front f g bytes strings place count front many counted is =
    let those : g.access.strings ≡ strings = ap (λ (h : File). h.access.strings) is in
    record { same = is ∙ ap (with_access f) (sym those); front = ap joined those ∙ front; many = ap length those ∙ many ∙ counted }

pub told_some : (f g : File) (bytes : List ℕ) (own : OwnEntries) → bytes ≡ joined f.access.strings → Some own ≡ own_in bytes → KeepsFront f g bytes own.place → IsPartedAs f g own.entries
told_some f g bytes own are some k =
    subst (λ (h : File). IsPartedAs f h own.entries) (sym k.same)
    (parted_some f own g.access.strings (sym (some ∙ ap own_in are)) (k.front ∙ ap (λ (l : List ℕ). take own.place l) are) k.many)
