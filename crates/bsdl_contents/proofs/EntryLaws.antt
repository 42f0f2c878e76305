-- Entries are read from their words alone, and from all of them.
use Rattle.std.proofs.Common.{◌≡◌, ℕ, ◌==◌, Bool, true, false, cond, List, [], ◌∷◌, ◌++◌, Option, Some, None, refl, ap, ◌∙◌, inl, inr, ◌⊎◌}
use Rattle.std.specs.Prelude.{option_and_then}
use Rattle.std.specs.List.{AllByRecursion}
use borrow.Author.Tests.{eqb-true}
use Rattle.cell_library.specs.declared.codes.Bits.{Bits}
use Rattle.cell_library.specs.declared.codes.BoundaryKind.{BoundaryKind}
use Rattle.cell_library.specs.declared.codes.BoundaryKind.TheVariants as cell
use Rattle.cell_library.specs.declared.codes.Function.{Function}
use Rattle.cell_library.specs.declared.codes.Function.TheVariants as function
use Rattle.bsdl_device.specs.declared.values.Safe.{Safe}
use Rattle.bsdl_device.specs.declared.values.Safe.TheVariants as safe
use Rattle.bsdl_device.specs.declared.entries.MappedPins.{MappedPins}
use Rattle.bsdl_device.specs.declared.entries.MappedPins.TheVariants as pins
use Rattle.bsdl_device.specs.declared.entries.PinEntry.{PinEntry}
use Rattle.bsdl_device.specs.declared.entries.OpcodeEntry.{OpcodeEntry}
use Rattle.bsdl_device.specs.declared.entries.Register.{Register}
use Rattle.bsdl_device.specs.declared.entries.Register.TheVariants as register
use Rattle.bsdl_device.specs.declared.entries.AccessEntry.{AccessEntry}
use Rattle.bsdl_device.specs.Patterns.{MatchesBy, separated_by}
use Rattle.bsdl_device.specs.Runs.{ContentWord, Run, Other, ContentPattern, KeyRun, IdentifierRun, NameRun, PinRun, IntegerRun, BitsRun, MarkByte, Fits, identifier_in, name_in, pin_in, integer_in, pattern_in, mark_in, left_parenthesis, right_parenthesis, comma, colon}
use Rattle.bsdl_device.specs.Grammar.{cell_word, function_word, safe_word, bit_word, register_word, pins_words, pin_entry_words, opcode_words, access_words}
use Rattle.bsdl_device.specs.Readers.{Read, take_at, marks_at}
use Rattle.bsdl_device.proofs.Exact.{Exact, Anything}
use Rattle.bsdl_device.proofs.Choices.{NotNext}
use Rattle.bsdl_device.proofs.Matched.{Spelled, spelled_take, spelled_marks, spelled_ended, spelled_pair, spelled_made}
use Rattle.bsdl_device.proofs.Listed.{AreSome, spelled_some}
use Rattle.bsdl_device.proofs.Views.{Free, seen}
use Rattle.bsdl_contents.specs.Reader as reading
use Rattle.bsdl_contents.specs.Reader.{seen_as, views, list_at, several_at, pins_at, pin_entry_at, opcode_at, access_at, code_in, code_of}
use Rattle.bsdl_contents.proofs.Chosen.{Ways, spelled_choice}
use Rattle.bsdl_contents.proofs.Among.{Leads, among_law}

-- Marks.

abbrev pub is_mark : ContentPattern → Bool
is_mark (KeyRun wanted) = true
is_mark (IdentifierRun name) = false
is_mark (NameRun name) = false
is_mark (PinRun pin) = false
is_mark (IntegerRun value) = false
is_mark (BitsRun bits) = false
is_mark (MarkByte wanted) = true

mark_there : (q : ContentPattern) (w : ContentWord) → seen_as q w ≡ Some tt → Fits q w
mark_there (KeyRun wanted) w h = h
mark_there (IdentifierRun name) w h = absurd (cc)
mark_there (NameRun name) w h = absurd (cc)
mark_there (PinRun pin) w h = absurd (cc)
mark_there (IntegerRun value) w h = absurd (cc)
mark_there (BitsRun bits) w h = absurd (cc)
mark_there (MarkByte wanted) w h = h

mark_back : (q : ContentPattern) (w : ContentWord) → is_mark q ≡ true → Fits q w → seen_as q w ≡ Some tt
mark_back (KeyRun wanted) w m h = h
mark_back (IdentifierRun name) w m h = absurd (cc)
mark_back (NameRun name) w m h = absurd (cc)
mark_back (PinRun pin) w m h = absurd (cc)
mark_back (IntegerRun value) w m h = absurd (cc)
mark_back (BitsRun bits) w m h = absurd (cc)
mark_back (MarkByte wanted) w m h = h

pub marks_law : (marks : List ContentPattern) → AllByRecursion (λ q. is_mark q ≡ true) marks → Exact ContentWord (Unit {0}) (λ ws. marks_at (views marks) ws) (Spelled Fits Free (λ _. marks)) Anything
marks_law marks all = spelled_marks Fits is_mark seen_as mark_there mark_back marks all

-- Words.

pub name_law : Exact ContentWord (List ℕ) (λ ws. take_at name_in ws) (Spelled Fits Free (λ name. NameRun name ∷ [])) Anything
name_law = spelled_take Fits name_in (λ name. NameRun name) (λ x w h. h) (λ x w h. h)

pub identifier_law : Exact ContentWord (List ℕ) (λ ws. take_at identifier_in ws) (Spelled Fits Free (λ name. IdentifierRun name ∷ [])) Anything
identifier_law = spelled_take Fits identifier_in (λ name. IdentifierRun name) (λ x w h. h) (λ x w h. h)

pub pin_law : Exact ContentWord (List ℕ) (λ ws. take_at pin_in ws) (Spelled Fits Free (λ pin. PinRun pin ∷ [])) Anything
pin_law = spelled_take Fits pin_in (λ pin. PinRun pin) (λ x w h. h) (λ x w h. h)

pub integer_law : Exact ContentWord ℕ (λ ws. take_at integer_in ws) (Spelled Fits Free (λ value. IntegerRun value ∷ [])) Anything
integer_law = spelled_take Fits integer_in (λ value. IntegerRun value) (λ x w h. h) (λ x w h. h)

pub bits_law : Exact ContentWord Bits (λ ws. take_at pattern_in ws) (Spelled Fits Free (λ bits. BitsRun bits ∷ [])) Anything
bits_law = spelled_take Fits pattern_in (λ bits. BitsRun bits) (λ x w h. h) (λ x w h. h)

abbrev bits32 : ℕ → Bits
bits32 code = record { len = 32; value = code }

code_there : (code : ℕ) (w : ContentWord) → code_in w ≡ Some code → pattern_in w ≡ Some (bits32 code)
code_there code w h = go (pattern_in w) refl h
  where
    sized : (b : Bits) (t : Bool) → (b.len == 32) ≡ t → cond t (Some b.value) None ≡ Some code → b ≡ bits32 code
    sized b true e k =
        let len : b.len ≡ 32 = eqb-true b.len 32 e in
        let value : b.value ≡ code = cc in
        ap (λ (n : ℕ). let bits : Bits = record { len = n; value = b.value } in bits) len ∙ ap (λ (n : ℕ). let bits : Bits = record { len = 32; value = n } in bits) value
    sized b false e k = absurd (cc)

    go : (o : Option Bits) → pattern_in w ≡ o → option_and_then code_of o ≡ Some code → pattern_in w ≡ Some (bits32 code)
    go None e k = absurd (cc)
    go (Some b) e k = e ∙ ap (λ (z : Bits). Some z) (sized b (b.len == 32) refl k)

pub code_law : Exact ContentWord ℕ (λ ws. take_at code_in ws) (Spelled Fits Free (λ code. BitsRun (record { len = 32; value = code }) ∷ [])) Anything
code_law = spelled_take Fits code_in (λ code. BitsRun (record { len = 32; value = code })) code_there (λ code w h. ap (λ (o : Option Bits). option_and_then code_of o) h)

pub register_law : Exact ContentWord Register (λ ws. take_at reading.register_in ws) (Spelled Fits Free (λ r. KeyRun (register_word r) ∷ [])) Anything
register_law = among_law register_word (register.Boundary ∷ register.Bypass ∷ register.DeviceId ∷ []) leads
  where
    leads : (r : Register) → Leads register_word r (register.Boundary ∷ register.Bypass ∷ register.DeviceId ∷ [])
    leads register.Boundary = inl refl
    leads register.Bypass = inr (refl, inl refl)
    leads register.DeviceId = inr (refl, inr (refl, inl refl))

pub safe_law : Exact ContentWord Safe (λ ws. take_at reading.safe_in ws) (Spelled Fits Free (λ s. KeyRun (safe_word s) ∷ [])) Anything
safe_law = among_law safe_word (safe.Zero ∷ safe.One ∷ safe.Any ∷ []) leads
  where
    leads : (s : Safe) → Leads safe_word s (safe.Zero ∷ safe.One ∷ safe.Any ∷ [])
    leads safe.Zero = inl refl
    leads safe.One = inr (refl, inl refl)
    leads safe.Any = inr (refl, inr (refl, inl refl))

pub bit_law : Exact ContentWord Bool (λ ws. take_at reading.bit_in ws) (Spelled Fits Free (λ b. KeyRun (bit_word b) ∷ [])) Anything
bit_law = among_law bit_word (false ∷ true ∷ []) leads
  where
    leads : (b : Bool) → Leads bit_word b (false ∷ true ∷ [])
    leads false = inl refl
    leads true = inr (refl, inl refl)

pub cell_law : Exact ContentWord BoundaryKind (λ ws. take_at reading.cell_in ws) (Spelled Fits Free (λ k. KeyRun (cell_word k) ∷ [])) Anything
cell_law = among_law cell_word (cell.Bc1 ∷ cell.Bc2 ∷ cell.Bc4 ∷ cell.Bc7 ∷ []) leads
  where
    leads : (k : BoundaryKind) → Leads cell_word k (cell.Bc1 ∷ cell.Bc2 ∷ cell.Bc4 ∷ cell.Bc7 ∷ [])
    leads cell.Bc1 = inl refl
    leads cell.Bc2 = inr (refl, inl refl)
    leads cell.Bc4 = inr (refl, inr (refl, inl refl))
    leads cell.Bc7 = inr (refl, inr (refl, inr (refl, inl refl)))

pub function_law : Exact ContentWord Function (λ ws. take_at reading.function_in ws) (Spelled Fits Free (λ f. KeyRun (function_word f) ∷ [])) Anything
function_law = among_law function_word (function.Input ∷ function.Output2 ∷ function.Output3 ∷ function.Control ∷ function.Bidir ∷ function.Clock ∷ []) leads
  where
    leads : (f : Function) → Leads function_word f (function.Input ∷ function.Output2 ∷ function.Output3 ∷ function.Control ∷ function.Bidir ∷ function.Clock ∷ [])
    leads function.Input = inl refl
    leads function.Output2 = inr (refl, inl refl)
    leads function.Output3 = inr (refl, inr (refl, inl refl))
    leads function.Control = inr (refl, inr (refl, inr (refl, inl refl)))
    leads function.Bidir = inr (refl, inr (refl, inr (refl, inr (refl, inl refl))))
    leads function.Clock = inr (refl, inr (refl, inr (refl, inr (refl, inr (refl, inl refl)))))

-- Lists.

pub list_law : {X : Type 0} {one : List ContentWord → Read ContentWord X} {ok : X → Type 0} (words : X → List ContentPattern) → Exact ContentWord X one (Spelled Fits ok words) Anything → Exact ContentWord (List X) (λ ws. list_at one ws) (Spelled Fits (AreSome ok) (λ xs. separated_by comma words xs)) (NotNext (mark_in 44))
list_law words l = spelled_some Fits words comma (mark_in 44) (λ w h. h) (λ w h. h) l

-- one symbol is no other
pub mark_differs : (a b : ℕ) → (a == b) ≡ false → (w : ContentWord) → mark_in a w ≡ Some tt → mark_in b w ≡ None
mark_differs a b other (Run bytes) h = absurd (cc)
mark_differs a b other (Other c) h = go (c == a) refl h
  where
    go : (t : Bool) → (c == a) ≡ t → seen t ≡ Some tt → mark_in b (Other c) ≡ None
    go true e k =
        let same : c ≡ a = eqb-true c a e in
        ap (λ (n : ℕ). seen (n == b)) same ∙ ap (λ (t : Bool). seen t) other
    go false e k = absurd (cc)

-- words that begin with one symbol don't begin with another
pub mark_next : (a b : ℕ) → (a == b) ≡ false → (patterns : List ContentPattern) (p left : List ContentWord) → MatchesBy Fits (MarkByte a ∷ patterns) p → NotNext (mark_in b) (p ++ left)
mark_next a b other patterns [] left m = absurd m
mark_next a b other patterns (w ∷ p) left m = mark_differs a b other w m.0

-- Pins.

several_law : Exact ContentWord (List (List ℕ)) (λ ws. several_at ws) (Spelled Fits (AreSome Free) (λ list. separated_by comma (λ pin. PinRun pin ∷ []) list ++ right_parenthesis ∷ [])) Anything
unfolding several_at
several_law =
    let last : List ContentPattern = right_parenthesis ∷ [] in
    spelled_ended Fits (views last) last (λ list. separated_by comma (λ pin. PinRun pin ∷ []) list) (list_law (λ pin. PinRun pin ∷ []) pin_law) (marks_law last (refl, tt)) (λ b left m. mark_next 41 44 refl [] b left m)

-- a list of pins has one
abbrev pub ArePins : MappedPins → Type 0
ArePins (pins.One pin) = Unit {0}
ArePins (pins.Several list) = AreSome Free list

pin_not_mark : (pin : List ℕ) (p left : List ContentWord) → MatchesBy Fits (PinRun pin ∷ []) p → NotNext (mark_in 40) (p ++ left)
pin_not_mark pin [] left m = absurd m
pin_not_mark pin (Run bytes ∷ p) left m = refl
pin_not_mark pin (Other b ∷ p) left m = absurd (let never : None ≡ Some pin = m.0 in cc)

pins_ways : Ways (List (List ℕ)) MappedPins (List ℕ) left_parenthesis reading.several reading.one_pin (AreSome Free) Free ArePins (λ list. separated_by comma (λ pin. PinRun pin ∷ []) list ++ right_parenthesis ∷ []) (λ pin. PinRun pin ∷ []) pins_words
pins_ways = record {
  each = each;
  fine_to = λ x h. h;
  fine_from = λ x h. h;
  fair_to = λ z h. h;
  fair_from = λ z h. h;
  spelled = λ x. refl;
  other_spelled = λ z. refl;
}
  where
    each : (y : MappedPins) → ((x : List (List ℕ)) × (y ≡ reading.several x)) ⊎ ((z : List ℕ) × (y ≡ reading.one_pin z))
    each (pins.One pin) = inr (pin, refl)
    each (pins.Several list) = inl (list, refl)

pins_law : Exact ContentWord MappedPins (λ ws. pins_at ws) (Spelled Fits ArePins pins_words) Anything
unfolding pins_at
pins_law = spelled_choice left_parenthesis reading.several reading.one_pin pins_ways (λ w h. h) (λ w h. h) several_law pin_law (λ z p left m t. pin_not_mark z p left m)

-- Entries.

abbrev pub IsPinEntry : PinEntry → Type 0
IsPinEntry e = ArePins e.pins

pub pin_entry_law : Exact ContentWord PinEntry (λ ws. pin_entry_at ws) (Spelled Fits IsPinEntry pin_entry_words) Anything
unfolding pin_entry_at
pin_entry_law =
    let marks : List ContentPattern = colon ∷ [] in
    let part : PinEntry → (List ℕ) × MappedPins = λ e. (e.port, e.pins) in
    spelled_made Fits IsPinEntry pin_entry_words reading.pin_entry_of part (λ e. refl) (λ x h. h.1) (λ y h. (tt, h)) (λ x. refl) (λ y. refl)
    (spelled_pair Fits Free (λ _ z. ArePins z) (λ name. (NameRun name ∷ []) ++ marks) (λ _ z. pins_words z)
    (spelled_ended Fits (views marks) marks (λ name. NameRun name ∷ []) name_law (marks_law marks (refl, tt)) (λ b left m. tt))
    (λ _. pins_law) (λ x y b left m t. tt))

pub opcode_law : Exact ContentWord OpcodeEntry (λ ws. opcode_at ws) (Spelled Fits Free opcode_words) Anything
unfolding opcode_at
opcode_law =
    let marks : List ContentPattern = left_parenthesis ∷ [] in
    let last : List ContentPattern = right_parenthesis ∷ [] in
    let part : OpcodeEntry → (List ℕ) × Bits = λ e. (e.name, e.bits) in
    spelled_made Fits Free opcode_words reading.opcode_of part (λ e. refl) (λ x h. tt) (λ y h. (tt, tt)) (λ x. refl) (λ y. refl)
    (spelled_pair Fits Free (λ _ _. Unit {0}) (λ name. (IdentifierRun name ∷ []) ++ marks) (λ _ bits. (BitsRun bits ∷ []) ++ last)
    (spelled_ended Fits (views marks) marks (λ name. IdentifierRun name ∷ []) identifier_law (marks_law marks (refl, tt)) (λ b left m. tt))
    (λ _. spelled_ended Fits (views last) last (λ bits. BitsRun bits ∷ []) bits_law (marks_law last (refl, tt)) (λ b left m. tt)) (λ x y b left m t. tt))

abbrev pub IsAccessEntry : AccessEntry → Type 0
IsAccessEntry a = AreSome Free a.instructions

pub access_law : Exact ContentWord AccessEntry (λ ws. access_at ws) (Spelled Fits IsAccessEntry access_words) Anything
unfolding access_at
access_law =
    let marks : List ContentPattern = left_parenthesis ∷ [] in
    let last : List ContentPattern = right_parenthesis ∷ [] in
    let part : AccessEntry → Register × List (List ℕ) = λ a. (a.register, a.instructions) in
    spelled_made Fits IsAccessEntry access_words reading.access_of part (λ a. refl) (λ x h. h.1) (λ y h. (tt, h)) (λ x. refl) (λ y. refl)
    (spelled_pair Fits Free (λ _ names. AreSome Free names) (λ r. (KeyRun (register_word r) ∷ []) ++ marks) (λ _ names. separated_by comma (λ name. IdentifierRun name ∷ []) names ++ last)
    (spelled_ended Fits (views marks) marks (λ r. KeyRun (register_word r) ∷ []) register_law (marks_law marks (refl, tt)) (λ b left m. tt))
    (λ _. spelled_ended Fits (views last) last (λ names. separated_by comma (λ name. IdentifierRun name ∷ []) names) (list_law (λ name. IdentifierRun name ∷ []) identifier_law) (marks_law last (refl, tt)) (λ b left m. mark_next 41 44 refl [] b left m)) (λ x y b left m t. tt))
