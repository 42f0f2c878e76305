-- Contents as lists of atoms: their bytes, and the patterns that they are.
use Rattle.std.proofs.Common.{◌≡◌, ℕ, suc, zero, ◌+◌, ◌*◌, ◌/◌, ◌%◌, ◌^◌, ◌<◌, ◌≤◌, List, [], ◌∷◌, ◌++◌, Bool, true, false, Some, None, length, refl, sym, ap, subst, ◌∙◌, arith, le-leb, eq-eqb, add-one, append_assoc, length-append, lit<}
use Rattle.std.specs.Prelude.{◌==◌, ◌||◌, ◌&&◌, not, nat_le, if◌then◌else◌}
use Rattle.std.specs.List.{list_all, flat_map, AllByRecursion}
use Rattle.std.specs.Fmt.{decimal}
use Rattle.std.proofs.lemmas.Fmt.{length-decimal-le, decimal_nonempty}
use Rattle.std.proofs.Math.Nat.{pow-succ'}
use Rattle.std.proofs.lemmas.List.Folds.{list_all-append}
use Rattle.std.proofs.Math.Bool.{and-false}
use Rattle.list_laws.proofs.Tests.{not_true, and_left, and_right}
use Rattle.list_laws.proofs.Lists.{all_append, push_all}
use Rattle.list_laws.proofs.Digits.{push_value, value_below, decimal_digits}
use Rattle.cell_library.specs.declared.codes.Bits.{Bits}
use Rattle.bsdl_lexicon.specs.Bytes.{is_name_byte, is_digit, is_quotable}
use Rattle.bsdl_device.specs.Patterns.{each_after, separated_by}
use Rattle.bsdl_device.specs.Runs.{ContentWord, Run, Other, content_words, lengthened, begins_run, value_after, is_integer, is_pattern, is_pin, is_identifier, ContentPattern, KeyRun, IdentifierRun, NameRun, PinRun, IntegerRun, BitsRun, MarkByte, Fits, Matches}
use Rattle.bsdl_device.specs.Canonical.{bits_text, pattern_text}
use Rattle.bsdl_device.proofs.Identifiers.{digits_are_name_bytes}
use Rattle.bsdl_device.proofs.RoundTripNames.{same_self}
use Rattle.bsdl_device.proofs.Good.{GoodBits, GoodPin, is_name}

pub data ContentAtom : Type 0 where
  Space : ContentAtom
  Key : List ℕ → ContentAtom
  Identifier : List ℕ → ContentAtom
  Name : List ℕ → ContentAtom
  Pin : List ℕ → ContentAtom
  Integer : ℕ → ContentAtom
  Pattern : Bits → ContentAtom
  Mark : ℕ → ContentAtom

abbrev pub atom_bytes : ContentAtom → List ℕ
atom_bytes Space = 32 ∷ []
atom_bytes (Key word) = word
atom_bytes (Identifier name) = name
atom_bytes (Name name) = name
atom_bytes (Pin pin) = pin
atom_bytes (Integer value) = decimal value
atom_bytes (Pattern bits) = pattern_text bits
atom_bytes (Mark b) = b ∷ []

abbrev pub atom_patterns : ContentAtom → List ContentPattern
atom_patterns Space = []
atom_patterns (Key word) = KeyRun word ∷ []
atom_patterns (Identifier name) = IdentifierRun name ∷ []
atom_patterns (Name name) = NameRun name ∷ []
atom_patterns (Pin pin) = PinRun pin ∷ []
atom_patterns (Integer value) = IntegerRun value ∷ []
atom_patterns (Pattern bits) = BitsRun bits ∷ []
atom_patterns (Mark b) = MarkByte b ∷ []

abbrev pub is_run : List ℕ → Bool
is_run run = nat_le 1 (length run) && list_all is_name_byte run

abbrev pub is_mark : ℕ → Bool
is_mark b = is_quotable b && (not (is_name_byte b) && not (b == 32))

abbrev pub IsAtom : ContentAtom → Type 0
IsAtom Space = Unit {0}
IsAtom (Key word) = is_run word ≡ true
IsAtom (Identifier name) = is_identifier name ≡ true
IsAtom (Name name) = is_name name ≡ true
IsAtom (Pin pin) = GoodPin pin
IsAtom (Integer value) = value < 10 ^ 9
IsAtom (Pattern bits) = GoodBits bits
IsAtom (Mark b) = is_mark b ≡ true

abbrev pub is_long : ContentAtom → Bool
is_long Space = false
is_long (Key word) = true
is_long (Identifier name) = true
is_long (Name name) = true
is_long (Pin pin) = true
is_long (Integer value) = true
is_long (Pattern bits) = true
is_long (Mark b) = false

-- no run behind another
abbrev pub spaced : Bool → List ContentAtom → Bool
spaced behind [] = true
spaced behind (a ∷ atoms) = not (behind && is_long a) && spaced (is_long a) atoms

abbrev pub bytes_of : List ContentAtom → List ℕ
bytes_of [] = []
bytes_of (a ∷ atoms) = atom_bytes a ++ bytes_of atoms

abbrev pub patterns_of : List ContentAtom → List ContentPattern
patterns_of atoms = flat_map atom_patterns atoms

-- Runs.

run_words : (b : ℕ) (run rest : List ℕ) → is_name_byte b ≡ true → list_all is_name_byte run ≡ true → begins_run rest ≡ false → content_words (b ∷ (run ++ rest)) ≡ Run (b ∷ run) ∷ content_words rest
run_words b [] rest here all apart =
    ap (λ (x : Bool). if x then (if begins_run rest then lengthened b (content_words rest) else Run (b ∷ []) ∷ content_words rest) else if b == 32 then content_words rest else Other b ∷ content_words rest) here
    ∙ ap (λ (x : Bool). if x then lengthened b (content_words rest) else Run (b ∷ []) ∷ content_words rest) apart
run_words b (c ∷ run) rest here all apart =
    let next : is_name_byte c ≡ true = and_left (is_name_byte c) (list_all is_name_byte run) all in
    ap (λ (x : Bool). if x then (if is_name_byte c then lengthened b (content_words (c ∷ (run ++ rest))) else Run (b ∷ []) ∷ content_words (c ∷ (run ++ rest))) else if b == 32 then content_words (c ∷ (run ++ rest)) else Other b ∷ content_words (c ∷ (run ++ rest))) here
    ∙ ap (λ (x : Bool). if x then lengthened b (content_words (c ∷ (run ++ rest))) else Run (b ∷ []) ∷ content_words (c ∷ (run ++ rest))) next
    ∙ ap (lengthened b) (run_words c run rest next (and_right (is_name_byte c) (list_all is_name_byte run) all) apart)

cut_run : (run rest : List ℕ) → is_run run ≡ true → begins_run rest ≡ false → content_words (run ++ rest) ≡ Run run ∷ content_words rest
cut_run [] rest is apart = absurd (cc)
cut_run (b ∷ run) rest is apart =
    let all : list_all is_name_byte (b ∷ run) ≡ true = and_right (nat_le 1 (length (b ∷ run))) (list_all is_name_byte (b ∷ run)) is in
    run_words b run rest (and_left (is_name_byte b) (list_all is_name_byte run) all) (and_right (is_name_byte b) (list_all is_name_byte run) all) apart

-- Numbers.

decimal_is_run : (n : ℕ) → n < 10 ^ 9 → is_run (decimal n) ≡ true
decimal_is_run n low =
    let fits : n < 2 ^ 64 = omega arith in
    ap (λ (x : Bool). x && list_all is_name_byte (decimal n)) (le-leb 1 (length (decimal n)) (let some : 0 < length (decimal n) = decimal_nonempty n fits in omega arith))
    ∙ digits_are_name_bytes (decimal n) (decimal_digits n fits).digits

decimal_is_integer : (n : ℕ) → n < 10 ^ 9 → is_integer (decimal n) ≡ true
decimal_is_integer n low =
    let fits : n < 2 ^ 64 = omega arith in
    let short : length (decimal n) ≤ 9 = length-decimal-le 9 n (lit< tt) low fits in
    ap (λ (x : Bool). x && nat_le (length (decimal n)) 9 && list_all is_digit (decimal n)) (le-leb 1 (length (decimal n)) (let some : 0 < length (decimal n) = decimal_nonempty n fits in omega arith))
    ∙ ap (λ (x : Bool). x && list_all is_digit (decimal n)) (le-leb (length (decimal n)) 9 short)
    ∙ (decimal_digits n fits).digits

fits_integer : (n : ℕ) → n < 10 ^ 9 → Fits (IntegerRun n) (Run (decimal n))
fits_integer n low =
    ap (λ (x : Bool). if x then Some (value_after 10 0 (decimal n)) else None) (decimal_is_integer n low)
    ∙ ap (λ (v : ℕ). Some v) (decimal_digits n (omega arith)).value

-- Bits.

pub record BitsOf (len n : ℕ) (ds : List ℕ) : Type 0 where
  pub many : length ds ≡ len
  pub digits : list_all (λ b. b == 48 || b == 49) ds ≡ true
  pub value : value_after 2 0 ds ≡ n

bit_byte : (n : ℕ) → n < 2 → (48 + n == 48 || 48 + n == 49) ≡ true
bit_byte n low = grind arith

pub bits_digits : (len value : ℕ) → value < 2 ^ len → BitsOf len value (bits_text len value)
unfolding bits_text
bits_digits zero value low = record { many = refl; digits = refl; value = (let none : value < 1 = low in omega arith) }
bits_digits (suc len) value low =
    let power : 2 ^ suc len ≡ 2 * 2 ^ len = pow-succ' 2 len in
    let half : value / 2 < 2 ^ len = (let below : value < 2 ^ suc len = low in omega arith) in
    let before = bits_digits len (value / 2) half in
    record {
      many = length-append (bits_text len (value / 2)) ((48 + value % 2) ∷ []) ∙ (let many : length (bits_text len (value / 2)) ≡ len = before.many in omega (arith, add-one len));
      digits = push_all (λ b. b == 48 || b == 49) (bits_text len (value / 2)) (48 + value % 2) before.digits (bit_byte (value % 2) (omega arith));
      value = push_value 2 0 (bits_text len (value / 2)) (48 + value % 2) ∙ (let e : value_after 2 0 (bits_text len (value / 2)) ≡ value / 2 = before.value in omega arith);
    }

pub good_below : (bits : Bits) → GoodBits bits → bits.value < 2 ^ bits.len
good_below bits g =
    let digits = and_right (nat_le 1 (length g.run) && nat_le (length g.run) 32) (list_all (λ b. b == 48 || b == 49) g.run) g.is in
    let below : value_after 2 0 g.run + 1 ≤ (0 + 1) * 2 ^ length g.run = value_below 0 g.run digits in
    let len : bits.len ≡ length g.run = g.len in
    let value : bits.value ≡ value_after 2 0 g.run = g.value in
    let power : 2 ^ bits.len ≡ 2 ^ length g.run = ap (λ (n : ℕ). 2 ^ n) len in
    omega arith

pub good_digits : (bits : Bits) → GoodBits bits → BitsOf bits.len bits.value (pattern_text bits)
good_digits bits g = bits_digits bits.len bits.value (good_below bits g)

bits_are_name_bytes : (ds : List ℕ) → list_all (λ b. b == 48 || b == 49) ds ≡ true → list_all is_name_byte ds ≡ true
bits_are_name_bytes [] h = refl
bits_are_name_bytes (d ∷ ds) h = ap (λ (x : Bool). x && list_all is_name_byte ds) (one d (and_left (d == 48 || d == 49) (list_all (λ b. b == 48 || b == 49) ds) h)) ∙ bits_are_name_bytes ds (and_right (d == 48 || d == 49) (list_all (λ b. b == 48 || b == 49) ds) h)
  where
    one : (c : ℕ) → (c == 48 || c == 49) ≡ true → is_name_byte c ≡ true
    one c k = grind arith

-- the run that the bits came from has as many
same_length : (bits : Bits) (g : GoodBits bits) → length (pattern_text bits) ≡ length g.run
same_length bits g = (good_digits bits g).many ∙ g.len

bits_is_run : (bits : Bits) → GoodBits bits → is_run (pattern_text bits) ≡ true
bits_is_run bits g =
    ap (λ (n : ℕ). nat_le 1 n && list_all is_name_byte (pattern_text bits)) (same_length bits g)
    ∙ ap (λ (x : Bool). x && list_all is_name_byte (pattern_text bits)) (and_left (nat_le 1 (length g.run)) (nat_le (length g.run) 32) (and_left (nat_le 1 (length g.run) && nat_le (length g.run) 32) (list_all (λ b. b == 48 || b == 49) g.run) g.is))
    ∙ bits_are_name_bytes (pattern_text bits) (good_digits bits g).digits

bits_is_pattern : (bits : Bits) → GoodBits bits → is_pattern (pattern_text bits) ≡ true
bits_is_pattern bits g =
    ap (λ (n : ℕ). nat_le 1 n && nat_le n 32 && list_all (λ b. b == 48 || b == 49) (pattern_text bits)) (same_length bits g)
    ∙ ap (λ (x : Bool). x && list_all (λ b. b == 48 || b == 49) (pattern_text bits)) (and_left (nat_le 1 (length g.run) && nat_le (length g.run) 32) (list_all (λ b. b == 48 || b == 49) g.run) g.is)
    ∙ (good_digits bits g).digits

fits_bits : (bits : Bits) → GoodBits bits → Fits (BitsRun bits) (Run (pattern_text bits))
fits_bits bits g =
    let d = good_digits bits g in
    ap (λ (x : Bool). if x then (let made : Bits = record { len = length (pattern_text bits); value = value_after 2 0 (pattern_text bits) } in Some made) else None) (bits_is_pattern bits g)
    ∙ ap (λ (n : ℕ). let made : Bits = record { len = n; value = value_after 2 0 (pattern_text bits) } in Some made) d.many
    ∙ ap (λ (n : ℕ). let made : Bits = record { len = bits.len; value = n } in Some made) d.value

-- Atoms.

identifier_is_run : (name : List ℕ) → is_identifier name ≡ true → is_run name ≡ true
identifier_is_run [] h = absurd (cc)
identifier_is_run (b ∷ bytes) h = ap (λ (x : Bool). x && list_all is_name_byte (b ∷ bytes)) (le-leb 1 (length (b ∷ bytes)) (omega arith)) ∙ identifier_bytes (b ∷ bytes) h
  where
    identifier_bytes : (l : List ℕ) → is_identifier l ≡ true → list_all is_name_byte l ≡ true
    identifier_bytes l k = and_right _ (list_all is_name_byte l) (and_left _ _ (and_left _ _ k))

pin_is_run : (pin : List ℕ) → GoodPin pin → is_run pin ≡ true
pin_is_run pin g = ap (λ (x : Bool). x && list_all is_name_byte pin) (and_left (nat_le 1 (length pin)) (nat_le (length pin) 32) g.short) ∙ g.bytes

key_fits : (word : List ℕ) → Fits (KeyRun word) (Run word)
key_fits word = ap (λ (x : Bool). if x then Some tt else None) (same_self word)

name_fits : (name : List ℕ) → is_name name ≡ true → Fits (NameRun name) (Run name)
name_fits name h = ap (λ (x : Bool). if x then Some name else None) h

identifier_fits : (name : List ℕ) → is_identifier name ≡ true → Fits (IdentifierRun name) (Run name)
identifier_fits name h = ap (λ (x : Bool). if x then Some name else None) h

pin_fits : (pin : List ℕ) → is_pin pin ≡ true → Fits (PinRun pin) (Run pin)
pin_fits pin h = ap (λ (x : Bool). if x then Some pin else None) h

mark_words : (b : ℕ) (rest : List ℕ) → is_mark b ≡ true → content_words (b ∷ rest) ≡ Other b ∷ content_words rest
mark_words b rest quotable =
    let h = and_right (is_quotable b) (not (is_name_byte b) && not (b == 32)) quotable in
    ap (λ (x : Bool). if x then (if begins_run rest then lengthened b (content_words rest) else Run (b ∷ []) ∷ content_words rest) else if b == 32 then content_words rest else Other b ∷ content_words rest) (not_true (is_name_byte b) (and_left (not (is_name_byte b)) (not (b == 32)) h))
    ∙ ap (λ (x : Bool). if x then content_words rest else Other b ∷ content_words rest) (not_true (b == 32) (and_right (not (is_name_byte b)) (not (b == 32)) h))

mark_fits : (b : ℕ) → Fits (MarkByte b) (Other b)
mark_fits b = ap (λ (x : Bool). if x then Some tt else None) (eq-eqb b b refl)

-- behind a run stands none
pub no_run : (atoms : List ContentAtom) → AllByRecursion IsAtom atoms → spaced true atoms ≡ true → begins_run (bytes_of atoms) ≡ false
no_run [] all h = refl
no_run (Space ∷ atoms) all h = refl
no_run (Mark b ∷ atoms) all h = not_true (is_name_byte b) (and_left (not (is_name_byte b)) (not (b == 32)) (and_right (is_quotable b) (not (is_name_byte b) && not (b == 32)) all.0))
no_run (Key word ∷ atoms) all h = absurd (cc)
no_run (Identifier name ∷ atoms) all h = absurd (cc)
no_run (Name name ∷ atoms) all h = absurd (cc)
no_run (Pin pin ∷ atoms) all h = absurd (cc)
no_run (Integer value ∷ atoms) all h = absurd (cc)
no_run (Pattern bits ∷ atoms) all h = absurd (cc)

long_read : (run rest : List ℕ) (pattern : ContentPattern) (patterns : List ContentPattern) → is_run run ≡ true → begins_run rest ≡ false → Fits pattern (Run run) → Matches patterns (content_words rest) → Matches (pattern ∷ patterns) (content_words (run ++ rest))
long_read run rest pattern patterns is apart fits more = subst (λ (ws : List ContentWord). Matches (pattern ∷ patterns) ws) (sym (cut_run run rest is apart)) (fits, more)

-- The bytes of atoms are read as the patterns of the atoms.
pub atoms_read : (behind : Bool) (atoms : List ContentAtom) → AllByRecursion IsAtom atoms → spaced behind atoms ≡ true → Matches (patterns_of atoms) (content_words (bytes_of atoms))
atoms_read behind [] all h = tt
atoms_read behind (Space ∷ atoms) all h = atoms_read false atoms all.1 (and_right (not (behind && false)) (spaced false atoms) h)
atoms_read behind (Mark b ∷ atoms) all h = subst (λ (ws : List ContentWord). Matches (MarkByte b ∷ patterns_of atoms) ws) (sym (mark_words b (bytes_of atoms) all.0)) (mark_fits b, atoms_read false atoms all.1 (and_right (not (behind && false)) (spaced false atoms) h))
atoms_read behind (Key word ∷ atoms) all h = let k = and_right (not (behind && true)) (spaced true atoms) h in long_read word (bytes_of atoms) (KeyRun word) (patterns_of atoms) all.0 (no_run atoms all.1 k) (key_fits word) (atoms_read true atoms all.1 k)
atoms_read behind (Identifier name ∷ atoms) all h = let k = and_right (not (behind && true)) (spaced true atoms) h in long_read name (bytes_of atoms) (IdentifierRun name) (patterns_of atoms) (identifier_is_run name all.0) (no_run atoms all.1 k) (identifier_fits name all.0) (atoms_read true atoms all.1 k)
atoms_read behind (Name name ∷ atoms) all h = let k = and_right (not (behind && true)) (spaced true atoms) h in long_read name (bytes_of atoms) (NameRun name) (patterns_of atoms) (identifier_is_run name (and_left (is_identifier name) _ all.0)) (no_run atoms all.1 k) (name_fits name all.0) (atoms_read true atoms all.1 k)
atoms_read behind (Pin pin ∷ atoms) all h = let k = and_right (not (behind && true)) (spaced true atoms) h in long_read pin (bytes_of atoms) (PinRun pin) (patterns_of atoms) (pin_is_run pin all.0) (no_run atoms all.1 k) (pin_fits pin all.0.short) (atoms_read true atoms all.1 k)
atoms_read behind (Integer value ∷ atoms) all h = let k = and_right (not (behind && true)) (spaced true atoms) h in long_read (decimal value) (bytes_of atoms) (IntegerRun value) (patterns_of atoms) (decimal_is_run value all.0) (no_run atoms all.1 k) (fits_integer value all.0) (atoms_read true atoms all.1 k)
atoms_read behind (Pattern bits ∷ atoms) all h = let k = and_right (not (behind && true)) (spaced true atoms) h in long_read (pattern_text bits) (bytes_of atoms) (BitsRun bits) (patterns_of atoms) (bits_is_run bits all.0) (no_run atoms all.1 k) (fits_bits bits all.0) (atoms_read true atoms all.1 k)

-- The bytes of atoms can stand in strings.

name_byte_quotable : (b : ℕ) → is_name_byte b ≡ true → is_quotable b ≡ true
name_byte_quotable b h = grind arith

bytes_quotable : (bytes : List ℕ) → list_all is_name_byte bytes ≡ true → list_all is_quotable bytes ≡ true
bytes_quotable [] h = refl
bytes_quotable (b ∷ bytes) h = ap (λ (x : Bool). x && list_all is_quotable bytes) (name_byte_quotable b (and_left (is_name_byte b) (list_all is_name_byte bytes) h)) ∙ bytes_quotable bytes (and_right (is_name_byte b) (list_all is_name_byte bytes) h)

run_quotable : (run : List ℕ) → is_run run ≡ true → list_all is_quotable run ≡ true
run_quotable run h = bytes_quotable run (and_right (nat_le 1 (length run)) (list_all is_name_byte run) h)

atom_quotable : (a : ContentAtom) → IsAtom a → list_all is_quotable (atom_bytes a) ≡ true
atom_quotable Space is = refl
atom_quotable (Key word) is = run_quotable word is
atom_quotable (Identifier name) is = run_quotable name (identifier_is_run name is)
atom_quotable (Name name) is = run_quotable name (identifier_is_run name (and_left (is_identifier name) _ is))
atom_quotable (Pin pin) is = run_quotable pin (pin_is_run pin is)
atom_quotable (Integer value) is = run_quotable (decimal value) (decimal_is_run value is)
atom_quotable (Pattern bits) is = run_quotable (pattern_text bits) (bits_is_run bits is)
atom_quotable (Mark b) is = ap (λ (x : Bool). x && true) (and_left (is_quotable b) (not (is_name_byte b) && not (b == 32)) is)

pub atoms_quotable : (atoms : List ContentAtom) → AllByRecursion IsAtom atoms → list_all is_quotable (bytes_of atoms) ≡ true
atoms_quotable [] all = refl
atoms_quotable (a ∷ atoms) all = list_all-append is_quotable (atom_bytes a) (bytes_of atoms) ∙ ap (λ (x : Bool). x && list_all is_quotable (bytes_of atoms)) (atom_quotable a all.0) ∙ atoms_quotable atoms all.1

-- Lists of atoms, one behind the other.

pub bytes_of-append : (xs ys : List ContentAtom) → bytes_of (xs ++ ys) ≡ bytes_of xs ++ bytes_of ys
bytes_of-append [] ys = refl
bytes_of-append (a ∷ xs) ys = ap (λ (t : List ℕ). atom_bytes a ++ t) (bytes_of-append xs ys) ∙ sym (append_assoc (atom_bytes a) (bytes_of xs) (bytes_of ys))

pub patterns_of-append : (xs ys : List ContentAtom) → patterns_of (xs ++ ys) ≡ patterns_of xs ++ patterns_of ys
patterns_of-append [] ys = refl
patterns_of-append (a ∷ xs) ys = ap (λ (t : List ContentPattern). atom_patterns a ++ t) (patterns_of-append xs ys) ∙ sym (append_assoc (atom_patterns a) (patterns_of xs) (patterns_of ys))

-- whether the last of the atoms is a run
abbrev pub last_long : Bool → List ContentAtom → Bool
last_long behind [] = behind
last_long behind (a ∷ atoms) = last_long (is_long a) atoms

pub spaced-append : (behind : Bool) (xs ys : List ContentAtom) → spaced behind xs ≡ true → spaced (last_long behind xs) ys ≡ true → spaced behind (xs ++ ys) ≡ true
spaced-append behind [] ys a b = b
spaced-append behind (x ∷ xs) ys a b =
    ap (λ (k : Bool). k && spaced (is_long x) (xs ++ ys)) (and_left (not (behind && is_long x)) (spaced (is_long x) xs) a)
    ∙ spaced-append (is_long x) xs ys (and_right (not (behind && is_long x)) (spaced (is_long x) xs) a) b

-- Entries with a comma between them.

-- the atoms of an entry, which is read as these patterns
pub record Entry (atoms : List ContentAtom) (words : List ContentPattern) : Type 0 where
  pub all : AllByRecursion IsAtom atoms
  pub apart : spaced false atoms ≡ true
  pub patterns : patterns_of atoms ≡ words

abbrev pub after_commas : {A : Type 0} → (A → List ContentAtom) → List A → List ContentAtom
after_commas atoms xs = each_after (Mark 44) atoms xs

abbrev pub between_commas : {A : Type 0} → (A → List ContentAtom) → List A → List ContentAtom
between_commas atoms xs = separated_by (Mark 44) atoms xs

after_spaced : {A : Type 0} (atoms : A → List ContentAtom) (words : A → List ContentPattern) (behind : Bool) (xs : List A) → AllByRecursion (λ x. Entry (atoms x) (words x)) xs → spaced behind (after_commas atoms xs) ≡ true
after_spaced atoms words behind [] all = refl
after_spaced atoms words behind (x ∷ xs) all =
    ap (λ (k : Bool). not k && spaced false (atoms x ++ after_commas atoms xs)) (and-false behind)
    ∙ spaced-append false (atoms x) (after_commas atoms xs) all.0.apart (after_spaced atoms words (last_long false (atoms x)) xs all.1)

after_all : {A : Type 0} (atoms : A → List ContentAtom) (words : A → List ContentPattern) (xs : List A) → AllByRecursion (λ x. Entry (atoms x) (words x)) xs → AllByRecursion IsAtom (after_commas atoms xs)
after_all atoms words [] all = tt
after_all atoms words (x ∷ xs) all = (refl, all_append IsAtom (atoms x) (after_commas atoms xs) all.0.all (after_all atoms words xs all.1))

after_patterns : {A : Type 0} (atoms : A → List ContentAtom) (words : A → List ContentPattern) (xs : List A) → AllByRecursion (λ x. Entry (atoms x) (words x)) xs → patterns_of (after_commas atoms xs) ≡ each_after (MarkByte 44) words xs
after_patterns atoms words [] all = refl
after_patterns atoms words (x ∷ xs) all =
    ap (λ (l : List ContentPattern). MarkByte 44 ∷ l) (patterns_of-append (atoms x) (after_commas atoms xs)
    ∙ ap (λ (l : List ContentPattern). l ++ patterns_of (after_commas atoms xs)) all.0.patterns
    ∙ ap (λ (l : List ContentPattern). words x ++ l) (after_patterns atoms words xs all.1))

pub entries : {A : Type 0} (atoms : A → List ContentAtom) (words : A → List ContentPattern) (xs : List A) → AllByRecursion (λ x. Entry (atoms x) (words x)) xs → Entry (between_commas atoms xs) (separated_by (MarkByte 44) words xs)
entries atoms words [] all = record { all = tt; apart = refl; patterns = refl }
entries atoms words (x ∷ xs) all = record {
  all = all_append IsAtom (atoms x) (after_commas atoms xs) all.0.all (after_all atoms words xs all.1);
  apart = spaced-append false (atoms x) (after_commas atoms xs) all.0.apart (after_spaced atoms words (last_long false (atoms x)) xs all.1);
  patterns = patterns_of-append (atoms x) (after_commas atoms xs)
      ∙ ap (λ (l : List ContentPattern). l ++ patterns_of (after_commas atoms xs)) all.0.patterns
      ∙ ap (λ (l : List ContentPattern). words x ++ l) (after_patterns atoms words xs all.1);
}

-- The bytes of an entry are read as it.
pub entry_read : (atoms : List ContentAtom) (patterns : List ContentPattern) → Entry atoms patterns → Matches patterns (content_words (bytes_of atoms))
entry_read atoms patterns e = subst (λ (ps : List ContentPattern). Matches ps (content_words (bytes_of atoms))) e.patterns (atoms_read false atoms e.all e.apart)
